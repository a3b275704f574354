-- The sizes of a card, of its fresh one and of the memory; what becomes of a card in a buffer.
-- Assumes nothing.
use mathlib.Core.Path.{◌≡◌, refl, sym, ap, ap₂, subst, ◌∙◌}
use mathlib.Core.Bool.{Bool, true, false, cond, not, ◌&&◌, ◌||◌, false≢true}
use mathlib.Core.List.{List, [], ◌++◌}
use Prim.Native.Nat.{ℕ, zero, suc, ◌+◌, ◌*◌, ◌/◌, ◌≤◌, ◌<◌, min}
use native.Mathlib.Omega.{arith}
use lib.Dec.{ltb}
use lib.ListN.{length, take, drop, take-append-drop, drop_of_length-le, length-replicate}
use lib.Seq.{length-take-le}
use borrow.Author.Tests.{lt-ltb, le-ltb, ltb-false}
use Rattle.slices.specs.Put.{put}
use Rattle.frame.specs.Block.{blocks}
use Rattle.recordlog.specs.Laid.{laid}
use Rattle.queues.specs.Queues.{Queue, Capacities}
use Rattle.queues.specs.Layout.{capacities, queue_room, at_most64}
use Rattle.queues.proofs.Both.{never}
use Rattle.calls.specs.declared.Refusal.TheVariants.{LogSize}
use Rattle.calls.specs.Refusals.{refuse_if, first_refusal, log_refused}
use Rattle.calls.specs.Replay.{Outcome, refused, left, replay_of}
use Rattle.calls.proofs.Chain.{or_left, or_right}
use Rattle.copy_records.specs.Copy.{copy_encoded, copy_end, any_longer, copy_too_long, copy_refusals, copy_refusal, copied, copied_by, copy_of, CopyResult}
use Rattle.copy_records.proofs.Left.{copy_done_lem, copy_place}
use Rattle.abi_entries.specs.Packed.{room_in, unpacked}
use Rattle.abi_entries.proofs.Laws.{length-unpacked}
use Rattle.abi_queues.specs.Words.{words_in, words}
use Rattle.abi_queues.proofs.Laws.{length-words}
use Rattle.abi_largest.specs.Numbers.{numbers_in, numbers}
use Rattle.abi_largest.proofs.Numbers.{length-numbers}
use Rattle.abi_call.specs.OnBytes.{memory_bytes}
use Rattle.abi_tables.specs.Tables.{memory_in}
use Rattle.readout_text.specs.Card.{readout_scratch, readout_room, not_sized}
use Rattle.std.specs.Prelude.{Result}
use Rattle.cutdown_card.specs.declared.NotCut.{NotCut}
use Rattle.std.specs.Prelude.Result.{Err}
use Rattle.cutdown_card.specs.declared.NotCut.TheVariants.{Refused, NoRoom}
use Rattle.cutdown_card.specs.Cutdown.{Cut, cut_refused, cut_to, lent_for, cut_by, cut_into, blank_card, cut_down, fresh_card, short_for, no_room, cut_numbered, answered_by, cut_answer, written_by, cut_left, CutTyped, CutKept}
use Rattle.cutdown_card.specs.Kept.{into_by, Into, CutIntoKept, CutSizedKept}
use Rattle.cutdown_card.specs.Claims.{CutdownHasRoom}
use Rattle.cutdown_card.proofs.Into.{outcome_long}

-- ---- the memory

room_for : ℕ → ℕ → ℕ → ℕ → Capacities
room_for t ns es ps = record { queues = queue_room t; names = ns; records = es; payloads = ps }

entries_long : (es : List ℕ) → length es ≡ 32768 → length (unpacked es) ≡ 1024
unfolding room_in
entries_long es e = length-unpacked es ∙ ap (λ (n : ℕ). min (n / 32) 1024) e

words_long : (t : List ℕ) → length t ≡ 1568 → length (words t) ≡ 196
unfolding words_in
words_long t e = length-words t ∙ ap (λ (n : ℕ). min (n / 8) 196) e

numbers_long : (ks : List ℕ) → length ks ≡ 8192 → length (numbers ks) ≡ 1024
unfolding numbers_in
numbers_long ks e = length-numbers ks ∙ ap (λ (n : ℕ). min (n / 8) 1024) e

room_is : (ns ps es ks t : List ℕ) → length ns ≡ 32768 → length ps ≡ 32768 → length es ≡ 32768 → length t ≡ 1568 → capacities (memory_in (memory_bytes ns ps es ks t)) ≡ readout_room
unfolding capacities queue_room at_most64 room_for
room_is ns ps es ks t a b c d =
    ap (λ (k : ℕ). room_for k (length ns) (length (unpacked es)) (length ps)) (words_long t d) ∙ ap (λ (k : ℕ). room_for 196 k (length (unpacked es)) (length ps)) a
    ∙ ap (λ (k : ℕ). room_for 196 32768 k (length ps)) (entries_long es c) ∙ ap (λ (k : ℕ). room_for 196 32768 1024 k) b

pub sized_left : (card scratch ns ps es ks t target : List ℕ) (r : Result ℕ NotCut) (target' : List ℕ) → length scratch ≡ 65536 → length ns ≡ 32768 → length ps ≡ 32768 → length es ≡ 32768
    → length ks ≡ 8192 → length t ≡ 1568 → CutIntoKept card scratch (memory_bytes ns ps es ks t) target r target' → CutSizedKept card target r target'
sized_left card scratch ns ps es ks t target r target' s a b c k d w =
    let long : length (unpacked es) ≤ length (numbers ks) = omega (arith, entries_long es c, numbers_long ks k) in
    subst (λ (n : ℕ). Into (replay_of card readout_room n) n target r target') s
    (subst (λ (o : Outcome). Into o (length scratch) target r target')
    (outcome_long card (length scratch) (memory_in (memory_bytes ns ps es ks t)) (numbers ks) long
    ∙ ap (λ (x : Capacities). replay_of card x (length scratch)) (room_is ns ps es ks t a b c d)) w)

-- ---- the target

-- bytes at a buffer's start
pub put_first : (out xs : List ℕ) → put out 0 xs ≡ xs ++ drop (length xs) out
unfolding put
put_first out xs =
    let n : 0 + length xs ≡ length xs = omega arith in
    ap (λ (k : ℕ). xs ++ drop k out) n

-- a target is asked by its number of blocks alone
refusal_at : ℕ → List Queue → ℕ → ℕ
refusal_at b qs limit =
    refuse_if (ltb b 1 || ltb 4096 b) 1 (refuse_if (not true) 6 (refuse_if (any_longer limit (copy_encoded qs)) 11 (refuse_if (ltb (b * 32768) (copy_end qs)) 15 0)))

refusal_by_lem : (target : List ℕ) (qs : List Queue) (limit : ℕ) → copy_refusal (lent_for target qs limit) ≡ refusal_at (blocks target) qs limit
unfolding copy_refusals first_refusal refuse_if log_refused copy_too_long refusal_at
refusal_by_lem target qs limit =
    ap (λ (n : ℕ). refuse_if (ltb (blocks target) 1 || ltb 4096 (blocks target)) 1 (refuse_if (not true) 6 (refuse_if (any_longer n (copy_encoded qs)) 11 (refuse_if (ltb (blocks target * 32768) (copy_end qs)) 15 0))))
    (length-replicate {A = ℕ} limit 0)

pub same_cut : (t₁ t₂ : List ℕ) (limit : ℕ) (o : Outcome) → blocks t₁ ≡ blocks t₂ → cut_into t₁ limit o ≡ cut_into t₂ limit o
unfolding cut_into
same_cut t₁ t₂ limit (refused n) e = refl
same_cut t₁ t₂ limit (left qs) e =
    ap (λ (n : ℕ). cut_by n qs) (refusal_by_lem t₁ qs limit ∙ ap (λ (b : ℕ). refusal_at b qs limit) e ∙ sym (refusal_by_lem t₂ qs limit))

-- a target of whole blocks is all copy
pub copied-whole : (t : List ℕ) (b : ℕ) (qs : List Queue) → length t ≡ b * 32768 → copied t qs ≡ laid b (copy_encoded qs) ++ []
unfolding copied
copied-whole t b qs e =
    let n : blocks t ≡ b = omega (arith, e) in
    ap₂ (λ (k : ℕ) (s : List ℕ). laid k (copy_encoded qs) ++ s) n (drop_of_length-le t {i = blocks t * 32768} (omega (arith, e, n)))

pub blank_long : (card : List ℕ) → length (blank_card card) ≡ blocks card * 32768
blank_long card = length-replicate {A = ℕ} (blocks card * 32768) 0

pub blank-blocks : (card : List ℕ) → blocks (blank_card card) ≡ blocks card
blank-blocks card = omega (arith, blank_long card)

-- the fresh card of a copy that is not refused
module _ (card : List ℕ) (qs : List Queue) (limit : ℕ) (e : copy_refusal (lent_for (blank_card card) qs limit) ≡ 0) where
  pub fresh_is : (copy_of (lent_for (blank_card card) qs limit)).target ≡ fresh_card card qs
  unfolding copied_by fresh_card
  fresh_is = ap (λ (x : CopyResult). x.target) (copy_done_lem (lent_for (blank_card card) qs limit) e)

  pub fresh_long : length (fresh_card card qs) ≡ blocks card * 32768
  fresh_long = ap length (sym fresh_is) ∙ (copy_place (lent_for (blank_card card) qs limit) e).same_length ∙ blank_long card

-- ---- a card that is cut down

-- the copy is not refused, and replay gave these queues
pub record Done (t : List ℕ) (limit : ℕ) (o : Outcome) (qs : List Queue) : Type 0 where
  pub outcome_is : o ≡ left qs
  pub taken : copy_refusal (lent_for t qs limit) ≡ 0

done_by : (t : List ℕ) (limit : ℕ) (ps qs : List Queue) (n : ℕ) → copy_refusal (lent_for t ps limit) ≡ n → cut_by n ps ≡ cut_to qs → Done t limit (left ps) qs
unfolding cut_by
done_by t limit ps qs zero e d =
    let f : ps ≡ qs = cc in
    record { outcome_is = ap left f; taken = subst (λ (x : List Queue). copy_refusal (lent_for t x limit) ≡ 0) f e }
done_by t limit ps qs (suc n) e d = never (cc)

pub done_on : (t : List ℕ) (limit : ℕ) (o : Outcome) (qs : List Queue) → cut_into t limit o ≡ cut_to qs → Done t limit o qs
unfolding cut_into
done_on t limit (refused n) qs d = never (cc)
done_on t limit (left ps) qs d = done_by t limit ps qs (copy_refusal (lent_for t ps limit)) refl d

sized_by : (b : Bool) (x : Cut) (qs : List Queue) → cond b (cut_refused 1) x ≡ cut_to qs → (b ≡ false) × (x ≡ cut_to qs)
sized_by true x qs d = never (cc)
sized_by false x qs d = (refl, d)

module _ (card : List ℕ) (qs : List Queue) (d : cut_down card ≡ cut_to qs) where
  pub was_sized : not_sized card ≡ false
  unfolding cut_down
  was_sized = (sized_by (not_sized card) (cut_into (blank_card card) readout_scratch (replay_of card readout_room readout_scratch)) qs d).0

  pub was_done : Done (blank_card card) readout_scratch (replay_of card readout_room readout_scratch) qs
  unfolding cut_down
  was_done =
      done_on (blank_card card) readout_scratch (replay_of card readout_room readout_scratch) qs
      (sized_by (not_sized card) (cut_into (blank_card card) readout_scratch (replay_of card readout_room readout_scratch)) qs d).1

-- one or two blocks
pub sized_long : (card : List ℕ) → not_sized card ≡ false → (32768 ≤ length card) × (length card ≤ 65536)
unfolding not_sized
sized_long card e = (
  ltb-false (length card) 32768 (or_left (ltb (length card) 32768) (ltb 65536 (length card)) e),
  ltb-false 65536 (length card) (or_right (ltb (length card) 32768) (ltb 65536 (length card)) e),
)

pub sized_is : (card : List ℕ) → 32768 ≤ length card → length card ≤ 65536 → not_sized card ≡ false
unfolding not_sized
sized_is card h k = ap₂ (λ (a b : Bool). a || b) (le-ltb (length card) 32768 h) (le-ltb 65536 (length card) k)

-- ---- the input

pub cutdown_has_room : CutdownHasRoom
unfolding short_for
cutdown_has_room card room h = on (not_sized card) refl
  where
    on : (b : Bool) → not_sized card ≡ b → not (not_sized card) && ltb room (blocks card * 32768) ≡ false
    on true e = ap (λ (b : Bool). not b && ltb room (blocks card * 32768)) e
    on false e = ap₂ (λ (b c : Bool). not b && c) e (le-ltb room (blocks card * 32768) (omega (arith, (sized_long card e).1, h)))

-- ---- refused, or too short a buffer

module _ (card out : List ℕ) where
  unsized : not_sized card ≡ true → CutKept card out (Err (Refused LogSize)) out
  unfolding short_for cut_down cut_answer cut_left answered_by written_by cut_numbered
  unsized e =
      record {
        typed = λ h. subst (λ (b : Bool). CutTyped (cond b (cut_refused 1) (cut_into (blank_card card) readout_scratch (replay_of card readout_room readout_scratch)))) (sym e) tt;
        answer =
            sym (ap (λ (b : Bool). cond (not b && ltb (length out) (blocks card * 32768)) (Err no_room)
            (answered_by (blocks card * 32768) (cond b (cut_refused 1) (cut_into (blank_card card) readout_scratch (replay_of card readout_room readout_scratch))))) e);
        buffer_left =
            sym (ap (λ (b : Bool). cond (not b && ltb (length out) (blocks card * 32768)) out
            (written_by card out (cond b (cut_refused 1) (cut_into (blank_card card) readout_scratch (replay_of card readout_room readout_scratch))))) e);
      }

  pub too_short : length card < 32768 → CutKept card out (Err (Refused LogSize)) out
  unfolding not_sized
  too_short h = unsized (ap (λ (b : Bool). b || ltb 65536 (length card)) (lt-ltb (length card) 32768 h))

  pub too_long_lem : 65536 < length card → CutKept card out (Err (Refused LogSize)) out
  unfolding not_sized
  too_long_lem h = unsized (ap₂ (λ (a b : Bool). a || b) (le-ltb (length card) 32768 (omega (arith, h))) (lt-ltb 65536 (length card) h))

  module _ (h : 32768 ≤ length card) (k : length card ≤ 65536) where
    sized : not_sized card ≡ false
    sized = sized_is card h k

    pub no_room_lem : (n : ℕ) → n ≡ blocks card * 32768 → length out < n → CutKept card out (Err NoRoom) out
    unfolding short_for cut_answer cut_left cut_numbered
    no_room_lem n e l =
        let s : short_for card (length out) ≡ true = ap₂ (λ (b c : Bool). not b && c) sized (lt-ltb (length out) (blocks card * 32768) (omega (arith, e, l))) in
        record {
          typed = λ f. absurd (false≢true (sym f ∙ s));
          answer = sym (ap (λ (b : Bool). cond b (Err no_room) (answered_by (blocks card * 32768) (cut_down card))) s);
          buffer_left = sym (ap (λ (b : Bool). cond b out (written_by card out (cut_down card))) s);
        }

    -- ---- in the buffer

    module _ (n : ℕ) (e : n ≡ blocks card * 32768) (l : n ≤ length out) where
      fits : short_for card (length out) ≡ false
      unfolding short_for
      fits = ap₂ (λ (b c : Bool). not b && c) sized (le-ltb (length out) (blocks card * 32768) (omega (arith, e, l)))

      whole : blocks (take n out) ≡ blocks card
      whole = omega (arith, length-take-le n out l, e)

      same : cut_into (take n out) readout_scratch (replay_of card readout_room readout_scratch) ≡ cut_down card
      unfolding cut_down
      same =
          same_cut (take n out) (blank_card card) readout_scratch (replay_of card readout_room readout_scratch) (whole ∙ sym (blank-blocks card))
          ∙ sym (ap (λ (b : Bool). cond b (cut_refused 1) (cut_into (blank_card card) readout_scratch (replay_of card readout_room readout_scratch))) sized)

      fresh_in : (qs : List Queue) → copied (take n out) qs ≡ fresh_card card qs
      unfolding fresh_card
      fresh_in qs =
          copied-whole (take n out) (blocks card) qs (length-take-le n out l ∙ e) ∙ sym (copied-whole (blank_card card) (blocks card) qs (blank_long card))

      left_by_lem : (c : Cut) → cut_down card ≡ c → into_by (take n out) c ++ drop n out ≡ written_by card out c
      unfolding into_by written_by
      left_by_lem (cut_refused k) d = take-append-drop n out
      left_by_lem (cut_to qs) d =
          ap₂ (λ (x : List ℕ) (k : ℕ). x ++ drop k out) (fresh_in qs) (e ∙ sym (fresh_long card qs readout_scratch (was_done card qs d).taken))
          ∙ sym (put_first out (fresh_card card qs))

      pub in_the_buffer : (r : Result ℕ NotCut) (target' : List ℕ) → CutSizedKept card (take n out) r target' → CutKept card out r (target' ++ drop n out)
      unfolding cut_answer cut_left
      in_the_buffer r target' w =
          record {
            typed = λ f. subst CutTyped same w.typed;
            answer =
                w.answer ∙ ap₂ answered_by (length-take-le n out l ∙ e) same
                ∙ sym (ap (λ (b : Bool). cond b (Err no_room) (answered_by (blocks card * 32768) (cut_down card))) fits);
            buffer_left =
                ap (λ (x : List ℕ). x ++ drop n out) (w.target_left ∙ ap (into_by (take n out)) same) ∙ left_by_lem (cut_down card) refl
                ∙ sym (ap (λ (b : Bool). cond b out (written_by card out (cut_down card))) fits);
          }
