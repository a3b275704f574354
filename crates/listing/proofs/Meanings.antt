-- What the passes count and write of an arranged memory is what the queues that it means have.
-- Assumes nothing.
use mathlib.Core.Path.{◌≡◌, refl, sym, ap, ap₂, ◌∙◌}
use mathlib.Core.Bool.{Bool, true, false, cond, ◌&&◌}
use mathlib.Core.List.{List, [], ◌∷◌, ◌++◌, append_assoc, append-nil}
use Prim.Native.Nat.{ℕ, zero, suc, ◌+◌, ◌≤◌, ◌<◌}
use native.Mathlib.Omega.{arith}
use lib.Dec.{eqb}
use lib.ListN.{length, take, drop, get_or, length-append}
use borrow.Author.Tests.{eqb-true}
use Rattle.std.specs.Prelude.{Option}
use Rattle.std.proofs.lemmas.List.Sums.{count_by_more_yes, count_by_more_no}
use Rattle.record.specs.Record.{item}
use Rattle.queues.specs.declared.RecordEntry.{RecordEntry}
use Rattle.queues.specs.Queues.{Stored, stored, item_of, Queue, next}
use Rattle.queues.specs.Layout.{Memory, memory, row_at, queues_held, records_held, rows_from, rows, arrivals, items_of, queues_from, meaning, nexts_true, arranged, blank}
use Rattle.queues.specs.Changes.{word_at}
use Rattle.queues.specs.Passes.{passed_to, names_to}
use Rattle.queues.proofs.Both.{and_left, and_right}
use Rattle.queues.proofs.ArrangedFacts.{Arrangement, arranged_arrangement}
use Rattle.queues.proofs.SumsHeld.{queues_held_lem}
use Rattle.queues.proofs.Passes.{items, one, items_more, word_is, behind-row, from, here, from_next}
use Rattle.listing.specs.Writing.{listed}
use Rattle.listing.specs.Internal.{behind, Wrote, ListsFrom}
use Rattle.listing.specs.Listing.{queues_word, number_line, head_line, queue_line, record_line, record_lines, queue_lines, end_lines, listing}
use Rattle.listing.specs.Passes.{row_line, entry_line, count_to, lines_to, queue_text, queues_to}
use Rattle.listing.proofs.Writes.{by_test, wrote-length, wrote, on, reads}

-- ---- the entries of one queue

lines_append : (is js : List Stored) → record_lines (is ++ js) ≡ record_lines is ++ record_lines js
unfolding record_lines
lines_append [] js = refl
lines_append (i ∷ is) js = ap (λ (l : List ℕ). record_line (item_of i) ++ l) (lines_append is js) ∙ sym (append_assoc (record_line (item_of i)) (record_lines is) (record_lines js))

module _ (k : ℕ) (es : List RecordEntry) (ps : List ℕ) where
  one_line : (e : RecordEntry) (p : ℕ) → record_lines (one k es ps e p) ≡ entry_line k e (take e.length (drop p ps))
  unfolding record_lines entry_line items_of arrivals
  one_line e p = on_test (eqb e.queue k)
    where
      on_test : (b : Bool) → record_lines (cond b (stored e.position (take e.length (drop p ps)) e.block ∷ []) []) ≡ cond b (record_line (item e.position (take e.length (drop p ps)))) []
      on_test true = append-nil (record_line (item e.position (take e.length (drop p ps))))
      on_test false = refl

  one_count : (e : RecordEntry) (p n : ℕ) → n + length (one k es ps e p) ≡ cond (eqb e.queue k) (n + 1) n
  unfolding items_of arrivals
  one_count e p n = on_test (eqb e.queue k)
    where
      on_test : (b : Bool) → n + length (cond b (stored e.position (take e.length (drop p ps)) e.block ∷ []) []) ≡ cond b (n + 1) n
      on_test true = refl
      on_test false = omega arith

  count_more : (n : ℕ) → n < length es → cond (eqb (get_or es n blank).queue k) (count_to k es n + 1) (count_to k es n) ≡ count_to k es (suc n)
  count_more n h =
      let e : n + 1 ≡ suc n = omega arith in
      by_test (eqb (get_or es n blank).queue k)
      (λ yes. simp yes (sym (count_by_more_yes (λ (x : RecordEntry). eqb x.queue k) es n blank h yes) ∙ ap (count_to k es) e))
      (λ no. simp no (sym (count_by_more_no (λ (x : RecordEntry). eqb x.queue k) es n blank h no) ∙ ap (count_to k es) e))

  lines_are : (n : ℕ) → n ≤ length es → record_lines (items k es ps n) ≡ lines_to k es ps n
  unfolding lines_to record_lines items_of arrivals
  lines_are zero h = refl
  lines_are (suc n) h =
      ap record_lines (items_more k es ps n (omega arith)) ∙ lines_append (items k es ps n) (one k es ps (get_or es n blank) (passed_to es n))
      ∙ ap₂ (λ (a b : List ℕ). a ++ b) (lines_are n (omega arith)) (one_line (get_or es n blank) (passed_to es n))

  count_are : (n : ℕ) → n ≤ length es → length (items k es ps n) ≡ count_to k es n
  unfolding items_of arrivals
  count_are zero h = refl
  count_are (suc n) h =
      ap length (items_more k es ps n (omega arith)) ∙ length-append (items k es ps n) (one k es ps (get_or es n blank) (passed_to es n))
      ∙ ap (λ (a : ℕ). a + length (one k es ps (get_or es n blank) (passed_to es n))) (count_are n (omega arith))
      ∙ one_count (get_or es n blank) (passed_to es n) (count_to k es n) ∙ count_more n (omega arith)

-- ---- the queues from row j on
module _ (ns ps : List ℕ) (es : List RecordEntry) (t : List ℕ) (n : ℕ) (h : n ≤ length es) where
  next_here : (j k : ℕ) → nexts_true (rows_from (suc k) (drop (row_at j) t)) (from ns ps es t n j (suc k)) ≡ true
      → (word_at t j 2 ≡ next (here ns ps es t n j)) × (nexts_true (rows_from k (drop (row_at (suc j)) t)) (from ns ps es t n (suc j) k) ≡ true)
  unfolding rows_from nexts_true
  next_here j k e =
      let first : Bool = eqb (get_or (drop (row_at j) t) 2 0) (next (here ns ps es t n j)) in
      let others : Bool = nexts_true (rows_from k (drop 3 (drop (row_at j) t))) (from ns ps es t n (suc j) k) in
      let f : first && others ≡ true = rw (from_next ns ps es t n) at e in (
        sym (word_is t j 2) ∙ eqb-true (get_or (drop (row_at j) t) 2 0) (next (here ns ps es t n j)) (and_left first others f),
        ap (λ (ws : List ℕ). nexts_true (rows_from k ws) (from ns ps es t n (suc j) k)) (sym (behind-row t j)) ∙ and_right first others f,
      )

  text_here : (j : ℕ) → word_at t j 2 ≡ next (here ns ps es t n j) → queue_line (here ns ps es t n j) ++ record_lines (here ns ps es t n j).records ≡ queue_text ns ps es t n (names_to t j) j
  unfolding queue_line queue_text row_line
  text_here j e =
      ap₂ (λ (a b : List ℕ). a ++ b)
      (ap₂ (λ (x c : ℕ). head_line (take (word_at t j 0) (drop (names_to t j) ns)) (word_at t j 1) x c) (sym e) (count_are j es ps n h))
      (lines_are j es ps n h)

  texts_are : (k j : ℕ) → nexts_true (rows_from k (drop (row_at j) t)) (from ns ps es t n j k) ≡ true → queues_to ns ps es t n j ++ queue_lines (from ns ps es t n j k) ≡ queues_to ns ps es t n (j + k)
  unfolding queue_lines queues_to queues_from rows_from
  texts_are zero j e = let f : j + 0 ≡ j = omega arith in append-nil (queues_to ns ps es t n j) ∙ ap (queues_to ns ps es t n) (sym f)
  texts_are (suc k) j e =
      let f : suc j + k ≡ j + suc k = omega arith in
      let both : (word_at t j 2 ≡ next (here ns ps es t n j)) × (nexts_true (rows_from k (drop (row_at (suc j)) t)) (from ns ps es t n (suc j) k) ≡ true) = next_here j k e in
      ap (λ (qs : List Queue). queues_to ns ps es t n j ++ queue_lines qs) (from_next ns ps es t n j k)
      ∙ ap (λ (l : List ℕ). queues_to ns ps es t n j ++ l) (sym (append_assoc (queue_line (here ns ps es t n j)) (record_lines (here ns ps es t n j).records) (queue_lines (from ns ps es t n (suc j) k))))
      ∙ ap (λ (l : List ℕ). queues_to ns ps es t n j ++ (l ++ queue_lines (from ns ps es t n (suc j) k))) (text_here j both.0)
      ∙ sym (append_assoc (queues_to ns ps es t n j) (queue_text ns ps es t n (names_to t j) j) (queue_lines (from ns ps es t n (suc j) k)))
      ∙ texts_are k (suc j) both.1
      ∙ ap (queues_to ns ps es t n) f

-- ---- an arranged memory

module _ (m : Memory) (a : arranged m ≡ true) where
  facts : Arrangement m
  facts = arranged_arrangement m a

  texts_mean : queues_to m.names m.payloads m.entries m.table (records_held m.table) (queues_held m.table) ≡ queue_lines (meaning m)
  unfolding meaning rows names_to queues_to
  texts_mean =
      let e : 0 + queues_held m.table ≡ queues_held m.table = omega arith in
      ap (queues_to m.names m.payloads m.entries m.table (records_held m.table)) (sym e)
      ∙ sym (texts_are m.names m.payloads m.entries m.table (records_held m.table) facts.records_fit (queues_held m.table) 0 facts.nexts)

  text_means : (lost resumed bytes : ℕ)
      → number_line queues_word (queues_held m.table)
      ++ (queues_to m.names m.payloads m.entries m.table (records_held m.table) (queues_held m.table) ++ end_lines lost resumed bytes)
      ≡ listing (meaning m) lost resumed bytes
  unfolding listing
  text_means lost resumed bytes =
      ap₂ (λ (n : ℕ) (l : List ℕ). number_line queues_word n ++ (l ++ end_lines lost resumed bytes)) (sym (queues_held_lem m facts)) texts_mean

-- ---- three pieces, written from a place of the buffer on

-- the answer for the last place, and what is left in the buffer, are those of the whole text
pub list_on : {s a b u : List ℕ} {p q r : ℕ} (ns ps : List ℕ) (es : List RecordEntry) (t : List ℕ) (lost resumed bytes : ℕ) (x : Option ℕ) → arranged (memory ns ps es t) ≡ true
    → Wrote s p (number_line queues_word (queues_held t)) q a → Wrote a q (queues_to ns ps es t (records_held t) (queues_held t)) r b
    → ListsFrom b r (end_lines lost resumed bytes) x u → ListsFrom s p (listing (meaning (memory ns ps es t)) lost resumed bytes) x u
list_on {s} {a} {b} {u} {p} {q} {r} ns ps es t lost resumed bytes x arr w v l =
    let ends : List ℕ = end_lines lost resumed bytes in
    let last : Wrote b r ends (behind (length b) r (length ends)) u = wrote refl l.1 in
    let all : Wrote s p (listing (meaning (memory ns ps es t)) lost resumed bytes) (behind (length b) r (length ends)) u =
    reads (text_means (memory ns ps es t) arr lost resumed bytes) (on w (on v last)) in
    (l.0 ∙ ap₂ listed (wrote-length v ∙ wrote-length w) all.place, all.buffer)
