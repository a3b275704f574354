-- The parts of the listing that stand between passes over the record table, from what is written.
-- Assumes nothing.
use mathlib.Core.Path.{◌≡◌, ap, ap₂, ◌∙◌}
use mathlib.Core.List.{List, [], ◌++◌}
use Prim.Native.Nat.{ℕ, ◌+◌, ◌-◌}
use native.Mathlib.Omega.{arith}
use lib.ListN.{length, take, drop}
use borrow.Author.Tests.{eq-eqb, ne_eqb}
use Rattle.std.specs.Prelude.{Option}
use Rattle.record.specs.Record.{item}
use Rattle.queues.specs.declared.RecordEntry.{RecordEntry}
use Rattle.queues.specs.Changes.{word_at}
use Rattle.listing.specs.Writing.{listed}
use Rattle.listing.specs.Internal.{Wrote, ListsFrom, Lists}
use Rattle.listing.specs.Listing.{lost_word, refused_word, number_line, head_line, record_line, fill_tenths, fill_line, end_lines, refusal}
use Rattle.listing.specs.Passes.{row_line, entry_line}
use Rattle.listing.proofs.Writes.{wrote-length, wrote_none_lem, on, reads, listed-behind}

pub row_on : {s u : List ℕ} {p r : ℕ} (ns t : List ℕ) (q k held l f n : ℕ) → l ≡ word_at t k 0 → f ≡ word_at t k 1 → n ≡ word_at t k 2
    → Wrote s p (head_line (take (q + l - q) (drop q ns)) f n held) r u → Wrote s p (row_line ns t q k held) r u
unfolding row_line
row_on ns t q k held l f n el ef en w =
    let em : q + l - q ≡ l = omega arith in
    reads
    (ap (λ (j : ℕ). head_line (take j (drop q ns)) f n held) (em ∙ el) ∙ ap₂ (λ (i j : ℕ). head_line (take (word_at t k 0) (drop q ns)) i j held) ef en)
    w

-- an entry of the queue, and one of another
module _ (k : ℕ) (e : RecordEntry) where
  entry_is : (xs : List ℕ) → e.queue ≡ k → record_line (item e.position xs) ≡ entry_line k e xs
  unfolding entry_line
  entry_is xs h = simp (eq-eqb e.queue k h)

  entry_is_not : (xs : List ℕ) → (e.queue ≡ k → ⊥) → [] ≡ entry_line k e xs
  unfolding entry_line
  entry_is_not xs h = simp (ne_eqb e.queue k h)

  pub entry_on : {s u : List ℕ} {p r : ℕ} (ps : List ℕ) (q : ℕ) → e.queue ≡ k → Wrote s p (record_line (item e.position (take (q + e.length - q) (drop q ps)))) r u
      → Wrote s p (entry_line k e (take e.length (drop q ps))) r u
  entry_on ps q h w =
      let em : q + e.length - q ≡ e.length = omega arith in
      reads (ap (λ (j : ℕ). record_line (item e.position (take j (drop q ps)))) em ∙ entry_is (take e.length (drop q ps)) h) w

  pub entry_off : (ps s : List ℕ) (p q : ℕ) → (e.queue ≡ k → ⊥) → Wrote s p (entry_line k e (take e.length (drop q ps))) p s
  entry_off ps s p q h = reads (entry_is_not (take e.length (drop q ps)) h) (wrote_none_lem s p)

-- the last lines and the answer
pub end_on : {s t u : List ℕ} {p q r : ℕ} (lost resumed n m : ℕ) (a : Option ℕ) → Wrote s p (number_line lost_word lost) q t → m ≡ fill_tenths resumed n
    → Wrote t q (fill_line m) r u → a ≡ listed (length u) r → ListsFrom s p (end_lines lost resumed n) a u
unfolding end_lines
end_on {s} {t} {u} {p} {q} {r} lost resumed n m a w e v is =
    let all : Wrote s p (number_line lost_word lost ++ fill_line (fill_tenths resumed n)) r u = on w (reads (ap fill_line e) v) in
    (is ∙ ap₂ listed (wrote-length all) all.place, all.buffer)

pub refused_on : {s u : List ℕ} {r : ℕ} (k : ℕ) (a : Option ℕ) → Wrote s 0 (number_line refused_word k) r u → a ≡ listed (length u) r → Lists s (refusal k) a u
unfolding refusal
refused_on {s} {u} {r} k a w is = (is ∙ ap₂ listed (wrote-length w) w.place ∙ listed-behind (length s) (length (number_line refused_word k)), w.buffer)
