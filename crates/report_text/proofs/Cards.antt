-- A card fed: by its length, then as a log.
-- Assumes nothing.
use mathlib.Core.Path.{◌≡◌, sym, ap, ◌∙◌}
use mathlib.Core.Bool.{Bool, cond}
use mathlib.Core.Logic.{◌⊎◌, inl, inr}
use mathlib.Core.List.{List}
use Prim.Native.Nat.{ℕ, ◌≤◌, ◌<◌}
use lib.ListN.{length}
use borrow.Author.Tests.{lt-ltb, le-ltb}
use Rattle.report.specs.Feed.{FeedAnswer, refusal_number, refusal_of, feed_refusal, feed_answer_by, feed_answer, feed_left, feed_number}
use Rattle.report.specs.declared.ReportRefusal.TheVariants.{LogSize}
use Rattle.std.specs.Prelude.{Err}
use Rattle.report.proofs.Claims.{report_meets}
use Rattle.report_text.specs.Text.{card_too_long, card_refusal, card_left}

-- a number that a feeding meets comes back
number_back : (n : ℕ) → (n ≡ 0) ⊎ ((n ≡ 1) ⊎ ((n ≡ 6) ⊎ (n ≡ 17))) → feed_number (feed_answer_by n) ≡ n
unfolding feed_number feed_answer_by refusal_number refusal_of
number_back n (inl e) = ap (λ (k : ℕ). feed_number (feed_answer_by k)) e ∙ sym e
number_back n (inr (inl e)) = ap (λ (k : ℕ). feed_number (feed_answer_by k)) e ∙ sym e
number_back n (inr (inr (inl e))) = ap (λ (k : ℕ). feed_number (feed_answer_by k)) e ∙ sym e
number_back n (inr (inr (inr e))) = ap (λ (k : ℕ). feed_number (feed_answer_by k)) e ∙ sym e

pub card_long : (report card : List ℕ) → 65536 < length card → (feed_number (Err LogSize) ≡ card_refusal report card) × (report ≡ card_left report card)
unfolding card_refusal card_left card_too_long feed_number refusal_number
card_long report card h =
    (sym (ap (λ (b : Bool). cond b 1 (feed_refusal report card)) (lt-ltb 65536 (length card) h)), sym (ap (λ (b : Bool). cond b report (feed_left report card)) (lt-ltb 65536 (length card) h)))

pub card_fed : (report card left : List ℕ) (a : FeedAnswer) → length card ≤ 65536 → a ≡ feed_answer report card
    → left ≡ feed_left report card → (feed_number a ≡ card_refusal report card) × (left ≡ card_left report card)
unfolding card_refusal card_left card_too_long feed_answer
card_fed report card left a h ea el = (
  ap feed_number ea ∙ number_back (feed_refusal report card) (report_meets report card) ∙ sym (ap (λ (b : Bool). cond b 1 (feed_refusal report card)) (le-ltb 65536 (length card) h)),
  el ∙ sym (ap (λ (b : Bool). cond b report (feed_left report card)) (le-ltb 65536 (length card) h)),
)
