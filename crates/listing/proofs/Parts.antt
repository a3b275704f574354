-- The lines of the listing, from their pieces.
-- Assumes nothing.
use mathlib.Core.List.{List}
use Prim.Native.Nat.{ℕ, ◌/◌, ◌%◌}
use Rattle.record.specs.Record.{item}
use Rattle.listing.specs.Digits.{hex, decimal}
use Rattle.listing.specs.Internal.{Wrote}
use Rattle.listing.specs.Listing.{queue_word, start_word, next_word, held_word, record_word, fill_word, space, point, line_feed, numbered, number_line, head_line, record_line, fill_line}
use Rattle.listing.proofs.Writes.{on}

pub numbered_on : {s t u : List ℕ} {p q r : ℕ} (w : List ℕ) (n : ℕ) → Wrote s p w q t → Wrote t q (decimal n) r u → Wrote s p (numbered w n) r u
unfolding numbered
numbered_on w n a b = on a b

pub line_on : {s t u : List ℕ} {p q r : ℕ} (w : List ℕ) (n : ℕ) → Wrote s p (numbered w n) q t → Wrote t q line_feed r u → Wrote s p (number_line w n) r u
unfolding number_line
line_on w n a b = on a b

pub head_on : {s t₁ t₂ t₃ t₄ t₅ : List ℕ} {p q₁ q₂ q₃ q₄ q₅ : ℕ} (name : List ℕ) (s' n k : ℕ)
    → Wrote s p queue_word q₁ t₁ → Wrote t₁ q₁ (hex name) q₂ t₂ → Wrote t₂ q₂ (numbered start_word s') q₃ t₃ → Wrote t₃ q₃ (numbered next_word n) q₄ t₄
    → Wrote t₄ q₄ (number_line held_word k) q₅ t₅ → Wrote s p (head_line name s' n k) q₅ t₅
unfolding head_line
head_on name s' n k a b c d e = on a (on b (on c (on d e)))

pub record_on : {s t₁ t₂ t₃ t₄ : List ℕ} {p q₁ q₂ q₃ q₄ : ℕ} (n : ℕ) (xs : List ℕ)
    → Wrote s p (numbered record_word n) q₁ t₁ → Wrote t₁ q₁ space q₂ t₂ → Wrote t₂ q₂ (hex xs) q₃ t₃ → Wrote t₃ q₃ line_feed q₄ t₄
    → Wrote s p (record_line (item n xs)) q₄ t₄
unfolding record_line
record_on n xs a b c d = on a (on b (on c d))

pub fill_on : {s t u : List ℕ} {p q r : ℕ} (n : ℕ) → Wrote s p (numbered fill_word (n / 10)) q t → Wrote t q (number_line point (n % 10)) r u → Wrote s p (fill_line n) r u
unfolding fill_line
fill_on n a b = on a b
