-- The passes over the record table and the table of queues, one entry or row at a time.
-- Assumes nothing.
use mathlib.Core.Path.{◌≡◌, refl, sym, ap, ap₂, subst, ◌∙◌}
use mathlib.Core.List.{List, ◌++◌}
use Prim.Native.Nat.{ℕ, zero, suc, ◌+◌, ◌≤◌}
use native.Mathlib.Omega.{arith}
use lib.Seq.{length-take-le}
use Rattle.std.proofs.lemmas.List.{get_or-take}
use native.Mathlib.Numerals.{add-one}
use lib.ListN.{length, take, drop, get_or}
use Rattle.queues.specs.declared.RecordEntry.{RecordEntry}
use Rattle.queues.specs.Layout.{blank}
use Rattle.queues.specs.Changes.{word_at}
use Rattle.queues.specs.Passes.{passed_to, names_to, EntriesFit}
use Rattle.queues.proofs.Passes.{passed_more, names_more}
use Rattle.listing.specs.Internal.{Wrote}
use Rattle.listing.specs.Passes.{row_line, entry_line, count_to, lines_to, queue_text, queues_to}
use Rattle.listing.proofs.Writes.{wrote_none_lem, on, reads}

-- ---- the entries of one queue

pub passed_zero : (es : List RecordEntry) → passed_to es 0 ≡ 0
unfolding passed_to
passed_zero es = refl

pub passed_next : (es : List RecordEntry) (i : ℕ) → passed_to es i + (get_or es i blank).length ≡ passed_to es (i + 1)
passed_next es i = sym (passed_more es i) ∙ ap (passed_to es) (sym (add-one i))

module _ (k : ℕ) (es : List RecordEntry) (ps : List ℕ) where
  pub lines_zero : (s : List ℕ) (p : ℕ) → Wrote s p (lines_to k es ps 0) p s
  unfolding lines_to
  lines_zero s p = wrote_none_lem s p

  pub lines_next : {s t u : List ℕ} {p q r : ℕ} (i : ℕ) → Wrote s p (lines_to k es ps i) q t
      → Wrote t q (entry_line k (get_or es i blank) (take (get_or es i blank).length (drop (passed_to es i) ps))) r u → Wrote s p (lines_to k es ps (i + 1)) r u
  unfolding lines_to
  lines_next i w v = reads (ap (lines_to k es ps) (sym (add-one i))) (on w v)

-- of the first c entries alone
module _ (es : List RecordEntry) (c : ℕ) where
  passed_first : (i : ℕ) → i ≤ c → passed_to (take c es) i ≡ passed_to es i
  unfolding passed_to
  passed_first zero h = refl
  passed_first (suc i) h = ap₂ (λ (p : ℕ) (e : RecordEntry). p + e.length) (passed_first i (omega arith)) (get_or-take c es i blank (omega arith))

  pub lines_first : (k : ℕ) (ps : List ℕ) (i : ℕ) → i ≤ c → lines_to k (take c es) ps i ≡ lines_to k es ps i
  unfolding lines_to
  lines_first k ps zero h = refl
  lines_first k ps (suc i) h =
      ap₂ (λ (xs : List ℕ) (q : ℕ). xs ++ entry_line k (get_or (take c es) i blank) (take (get_or (take c es) i blank).length (drop q ps))) (lines_first k ps i (omega arith)) (passed_first i (omega arith))
      ∙ ap (λ (e : RecordEntry). lines_to k es ps i ++ entry_line k e (take e.length (drop (passed_to es i) ps))) (get_or-take c es i blank (omega arith))

  pub fit_first : (ps : List ℕ) → EntriesFit es ps c → EntriesFit (take c es) ps (length (take c es))
  fit_first ps w =
      let l : length (take c es) ≡ c = length-take-le c es w.in_table in
      record {
        in_table = omega arith;
        in_payloads = subst (λ (n : ℕ). passed_to (take c es) n ≤ length ps) (sym l) (omega (arith, passed_first c (omega arith), w.in_payloads));
      }

-- ---- all queues

module _ (ns ps : List ℕ) (es : List RecordEntry) (t : List ℕ) (c : ℕ) where
  pub queue_text_on : {s u v : List ℕ} {p a b : ℕ} (q k : ℕ) → Wrote s p (row_line ns t q k (count_to k es c)) a u → Wrote u a (lines_to k es ps c) b v
      → Wrote s p (queue_text ns ps es t c q k) b v
  unfolding queue_text
  queue_text_on q k w x = on w x

  pub names_zero : names_to t 0 ≡ 0
  unfolding names_to
  names_zero = refl

  pub names_next : (i : ℕ) → names_to t i + word_at t i 0 ≡ names_to t (i + 1)
  names_next i = sym (names_more t i) ∙ ap (names_to t) (sym (add-one i))

  pub texts_zero : (s : List ℕ) (p : ℕ) → Wrote s p (queues_to ns ps es t c 0) p s
  unfolding queues_to
  texts_zero s p = wrote_none_lem s p

  pub texts_next : {s u v : List ℕ} {p a b : ℕ} (i : ℕ) → Wrote s p (queues_to ns ps es t c i) a u → Wrote u a (queue_text ns ps es t c (names_to t i) i) b v
      → Wrote s p (queues_to ns ps es t c (i + 1)) b v
  unfolding queues_to
  texts_next i w x = reads (ap (queues_to ns ps es t c) (sym (add-one i))) (on w x)
