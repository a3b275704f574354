-- Asking again with "after" gives the next record of the range, and so on to the last.
-- Assumes nothing.
use mathlib.Core.Path.{◌≡◌, refl, sym, ap, ap₂, ◌∙◌}
use mathlib.Core.Bool.{true}
use mathlib.Core.List.{List, [], ◌∷◌, map}
use Prim.Native.Nat.{ℕ}
use Rattle.record.specs.Record.{Item}
use Rattle.std.specs.declared.ops.Bound.{Bound}
use Rattle.std.specs.declared.ops.Bound.TheVariants.{Excluded as excluded}
use Rattle.queues.specs.Queues.{Stored, item_of, Queue, Found, held, find, rising}
use Rattle.queues.specs.Ranges.{all_in_range, FirstItem, no_item, first_item, first_of, range_of}
use Rattle.queues.specs.Layout.{Memory, meaning}
use Rattle.largest.specs.Table.{arranged_with}
use Rattle.contracts.proofs.Left.{with_arranged}
use Rattle.queues.proofs.Both.{never}
use Rattle.queues.proofs.ArrangedFacts.{arranged_arrangement}
use Rattle.queues.proofs.Ordered.{in_order_found}
use Rattle.queues.proofs.Ranges.{ask_again}
use Rattle.calls.specs.Questions.{RangeAnswer, question_refusal, range_by, range_answer}
use Rattle.calls.proofs.Passed.{question_passed}
use Rattle.std.specs.Prelude.{Result}
use Rattle.calls.specs.declared.Refusal.{Refusal}
use Rattle.call_write.specs.declared.QuestionAnswer.{QuestionAnswer}
use Rattle.contracts.specs.Numbers.{range_numbers}
use Rattle.contracts.specs.Promises.{RangeKept}
use Rattle.claims.specs.Asks.{RangeGave, Asks}
use Rattle.claims.specs.Asks.{Asks.last, Asks.more}
use Rattle.claims.proofs.Six.{range-refusal}
use Rattle.claims.specs.Claims.{AskedAgain, AskedThrough}

-- ---- one question

-- the queue of a question that is not refused, its records in rising position
record OfQueue (m : Memory) (ks n : List ℕ) : Type 0 where
  passed : question_refusal (arranged_with m ks) (meaning m) n ≡ 0
  queue : Queue
  is_held : find n (meaning m) ≡ held queue
  rises : rising queue.start queue.records ≡ true

of_queue : (m : Memory) (ks n : List ℕ) → question_refusal (arranged_with m ks) (meaning m) n ≡ 0 → OfQueue m ks n
of_queue m ks n e =
    let w = question_passed (arranged_with m ks) (meaning m) n e in
    record {
      passed = e;
      queue = w.named.queue;
      is_held = w.named.is_held;
      rises = (in_order_found (meaning m) (arranged_arrangement m (with_arranged m ks w.is_arranged)).ordered n w.named.queue w.named.is_held).rises;
    }

abbrev gave : FirstItem → RangeAnswer
gave f = record { refusal = 0; found = f }

-- what any question of it is answered
range_given : (m : Memory) (ks n : List ℕ) (lo : Bound ℕ) (hi : Bound ℕ) (a : Result QuestionAnswer Refusal) (q : OfQueue m ks n) → RangeKept m ks n lo hi a
    → range_numbers m.payloads a ≡ gave (range_of lo hi q.queue.records)
unfolding range_answer range_by
range_given m ks n lo hi a q w = w.answer ∙ ap₂ (λ (i : ℕ) (g : Found). range_by i g lo hi) q.passed q.is_held

module _ (m : Memory) (ks n : List ℕ) (lo : Bound ℕ) (hi : Bound ℕ) (f : FirstItem) (w : RangeGave m ks n lo hi f) where
  gave_of : OfQueue m ks n
  gave_of =
      of_queue m ks n (sym (range-refusal (arranged_with m ks) (meaning m) n lo hi) ∙ ap (λ (x : RangeAnswer). x.refusal) (sym w.kept.answer ∙ w.given))

  first_given : (q : OfQueue m ks n) → first_of (all_in_range lo hi q.queue.records) ≡ f
  unfolding range_of
  first_given q = ap (λ (x : RangeAnswer). x.found) (sym (range_given m ks n lo hi w.answer q w.kept) ∙ w.given)

-- ---- the first of a list

-- without its block it is i
record Begins (i : Item) (xs : List Stored) : Type 0 where
  first : Stored
  is_first : item_of first ≡ i
  later : List Stored
  parts : xs ≡ first ∷ later

begins : (i : Item) (xs : List Stored) → first_of xs ≡ first_item i → Begins i xs
unfolding first_of
begins i [] e = never (cc)
begins i (x ∷ xs) e = let d : item_of x ≡ i = cc in record { first = x; is_first = d; later = xs; parts = refl }

nothing : (xs : List Stored) → first_of xs ≡ no_item → xs ≡ []
unfolding first_of
nothing [] e = refl
nothing (x ∷ xs) e = never (cc)

-- ---- asking again

module _ (m : Memory) (ks n : List ℕ) (lo : Bound ℕ) (hi : Bound ℕ) (i : Item) (w : RangeGave m ks n lo hi (first_item i)) (q : OfQueue m ks n) where
  range-begins : Begins i (all_in_range lo hi q.queue.records)
  range-begins = begins i (all_in_range lo hi q.queue.records) (first_given m ks n lo hi (first_item i) w q)

  -- the range after i is the rest of the range
  range_again : all_in_range (excluded i.position) hi q.queue.records ≡ range-begins.later
  range_again =
      ap (λ (x : Item). all_in_range (excluded x.position) hi q.queue.records) (sym range-begins.is_first)
      ∙ ask_again lo hi q.queue.start q.queue.records range-begins.first range-begins.later q.rises range-begins.parts

pub asked_again : AskedAgain
unfolding range_of
asked_again m ks n lo hi i a w k =
    let q : OfQueue m ks n = gave_of m ks n lo hi (first_item i) w in
    let b : Begins i (all_in_range lo hi q.queue.records) = range-begins m ks n lo hi i w q in
    record {
      queue = q.queue;
      is_held = q.is_held;
      first = b.first;
      is_first = b.is_first;
      later = b.later;
      range = b.parts;
      next =
          range_given m ks n (excluded i.position) hi a q k
          ∙ ap (λ (xs : List Stored). gave (first_of xs)) (range_again m ks n lo hi i w q);
    }

-- ---- to the last

through : (m : Memory) (ks n : List ℕ) (hi : Bound ℕ) (lo : Bound ℕ) (is : List Item) (q : OfQueue m ks n) → Asks m ks n hi lo is
    → is ≡ map item_of (all_in_range lo hi q.queue.records)
through m ks n hi lo _ q (last w) = ap (map item_of) (sym (nothing (all_in_range lo hi q.queue.records) (first_given m ks n lo hi no_item w q)))
through m ks n hi lo _ q (more {is} i w rest) =
    let b : Begins i (all_in_range lo hi q.queue.records) = range-begins m ks n lo hi i w q in
    ap₂ ◌∷◌ (sym b.is_first) (through m ks n hi (excluded i.position) is q rest ∙ ap (map item_of) (range_again m ks n lo hi i w q)) ∙ ap (map item_of) (sym b.parts)

asked_of : (m : Memory) (ks n : List ℕ) (lo : Bound ℕ) (hi : Bound ℕ) (is : List Item) → Asks m ks n hi lo is → OfQueue m ks n
asked_of m ks n lo hi _ (last w) = gave_of m ks n lo hi no_item w
asked_of m ks n lo hi _ (more i w rest) = gave_of m ks n lo hi (first_item i) w

pub asked_through : AskedThrough
asked_through m ks n lo hi is w =
    let q : OfQueue m ks n = asked_of m ks n lo hi is w in
    record { queue = q.queue; is_held = q.is_held; all = through m ks n hi lo is q w }
