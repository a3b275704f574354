-- How long the text of a card gets, and that it fits the buffer.
-- Assumes nothing.
use mathlib.Core.Path.{◌≡◌, refl, sym, ◌∙◌, ap, subst}
use mathlib.Core.Logic.{◌⊎◌, inl, inr}
use mathlib.Core.Bool.{Bool, true, false, cond, ◌&&◌}
use mathlib.Core.List.{List}
use Prim.Native.Nat.{ℕ, ◌*◌, ◌≤◌, ◌<◌, ◌^◌}
use native.Mathlib.Omega.{arith}
use lib.Dec.{ltb, leb}
use lib.ListN.{length, length-append, length-replicate}
use borrow.Author.Tests.{ltb-false, leb-true, le-leb}
use Rattle.slices.specs.Bytes.{Bytes, zeros}
use Rattle.frame.specs.Block.{blocks}
use Rattle.recordlog.specs.Read.{resume}
use Rattle.queues.specs.Queues.{name_bytes, record_count, payload_bytes, in_order}
use Rattle.queues.proofs.Both.{and_left, and_right}
use Rattle.calls.specs.Reading.{readings, lost_in}
use Rattle.calls.specs.Lost.{lost_bytes}
use Rattle.calls.specs.Claims.{queues_arranged}
use Rattle.calls.specs.Replay.{Outcome, refused, left, replay_of, replayed_by, replay_call}
use Rattle.calls.specs.Desks.{marks_in, listed_by, marks_listed}
use Rattle.calls.proofs.Passed.{log_taken}
use Rattle.calls.proofs.Chain.{or_left, or_right}
use Rattle.lost_bytes.proofs.Within.{lost_within}
use Rattle.calls.proofs.Numbers.{replay_never_six}
use Rattle.calls.proofs.AnyLog.{replayed_arranged, resumes_in_log}
use Rattle.calls.proofs.Marks.{marks_bound, marks_fit}
use Rattle.std.specs.Prelude.Option.{Some, None}
use Rattle.listing.specs.Digits.{digit, decimal_in, decimal}
use Rattle.listing.specs.Writing.{listed}
use Rattle.listing.specs.Listing.{shift_lines, numbered, number_line, listing, refusal}
use Rattle.listing.specs.Claims.{LogFits}
use Rattle.listing.proofs.Writes.{length-written}
use Rattle.listing.proofs.Bounds.{shifts_short, listing_short}
use Rattle.readout_text.specs.Card.{text_by, text_for, text_in, readout_room, readout_scratch, sized_text, not_sized, card_text}
use Rattle.readout_text.specs.Claims.{CardShort, NeverNoRoom, InTheBuffer}
use Rattle.readout_text.proofs.Sizes.{log_sized}

-- ---- a refusal of replay

refusal_short : (k : ℕ) → (k ≡ 11) ⊎ ((k ≡ 12) ⊎ (k ≡ 14)) → length (refusal k) ≤ 420235
unfolding refusal number_line numbered decimal decimal_in digit
refusal_short k (inl e) = subst (λ (n : ℕ). length (refusal n) ≤ 420235) (sym e) (let l : length (refusal 11) ≡ 11 = refl in omega (arith, l))
refusal_short k (inr (inl e)) = subst (λ (n : ℕ). length (refusal n) ≤ 420235) (sym e) (let l : length (refusal 12) ≡ 11 = refl in omega (arith, l))
refusal_short k (inr (inr e)) = subst (λ (n : ℕ). length (refusal n) ≤ 420235) (sym e) (let l : length (refusal 14) ≡ 11 = refl in omega (arith, l))

first_short : length (refusal 1) ≤ 420235
unfolding refusal number_line numbered decimal decimal_in digit
first_short = let l : length (refusal 1) ≡ 10 = refl in omega (arith, l)

-- ---- a listing

module _ (input : List ℕ) (b : Bytes input) (h : 32768 ≤ length input) (k : length input ≤ 65536) where
  abbrev lost_here : ℕ
  lost_here = lost_bytes input readout_scratch

  abbrev place_here : ℕ
  place_here = resume input readout_scratch

  few_lost : lost_here < 2 ^ 64
  few_lost =
      let q : lost_here ≤ blocks input * 32768 = lost_within input readout_scratch in
      let m : blocks input ≤ 2 = omega (arith, k) in
      omega (arith, q, m)

  fits : LogFits place_here (length input)
  fits =
      let t = log_taken input (log_sized input h k) in
      let p : place_here ≤ blocks input * 32768 = resumes_in_log input readout_scratch t.some in
      record { a_block = h; few_blocks = t.most; inside = omega (arith, p) }

  abbrev shifts_here : List ℕ
  shifts_here = marks_in (readings input readout_scratch)

  few_marks : length (shift_lines shifts_here) ≤ 252774
  few_marks =
      let q : length shifts_here ≤ blocks input * 4681 = marks_bound input readout_scratch in
      let m : blocks input ≤ 2 = omega (arith, k) in
      omega (arith, shifts_short shifts_here (marks_fit input readout_scratch b), q, m)

  text_short : (o : Outcome) → replay_of input readout_room readout_scratch ≡ o
      → length (text_for (replayed_by o (lost_in (readings input readout_scratch)) lost_here place_here) (listed_by o shifts_here) (length input)) ≤ 420235
  unfolding text_for text_by replayed_by queues_arranged listed_by
  text_short (refused n) e = refusal_short n ((replay_never_six input readout_room readout_scratch).others (log_sized input h k) n e)
  text_short (left qs) e =
      let q1 : Bool = leb (length qs) 64 in
      let q2 : Bool = leb (name_bytes qs) 32768 in
      let q3 : Bool = leb (record_count qs) 1024 in
      let q4 : Bool = leb (payload_bytes qs) 32768 in
      let w : in_order qs && (q1 && (q2 && (q3 && q4))) ≡ true = replayed_arranged input readout_room readout_scratch qs b e in
      let w1 : q1 && (q2 && (q3 && q4)) ≡ true = and_right (in_order qs) (q1 && (q2 && (q3 && q4))) w in
      let w2 : q2 && (q3 && q4) ≡ true = and_right q1 (q2 && (q3 && q4)) w1 in
      let w3 : q3 && q4 ≡ true = and_right q2 (q3 && q4) w2 in
      let s : length (listing qs lost_here place_here (length input)) ≤ 167461 =
      listing_short qs lost_here place_here (length input) (and_left (in_order qs) (q1 && (q2 && (q3 && q4))) w)
      (leb-true (length qs) 64 (and_left q1 (q2 && (q3 && q4)) w1)) (leb-true (record_count qs) 1024 (and_left q3 q4 w3))
      (leb-true (name_bytes qs) 32768 (and_left q2 (q3 && q4) w2)) (leb-true (payload_bytes qs) 32768 (and_right q3 q4 w3)) few_lost fits in
      omega (arith, length-append (shift_lines shifts_here) (listing qs lost_here place_here (length input)), few_marks, s)

  sized_short : length (sized_text input) ≤ 420235
  unfolding sized_text text_in replay_call marks_listed
  sized_short = text_short (replay_of input readout_room readout_scratch) refl

-- ---- every card

short_on : (input : List ℕ) → Bytes input → (s : Bool) → not_sized input ≡ s → length (cond s (refusal 1) (sized_text input)) ≤ 420235
unfolding not_sized
short_on input b true e = first_short
short_on input b false e =
    sized_short input b (ltb-false (length input) 32768 (or_left (ltb (length input) 32768) (ltb 65536 (length input)) e))
    (ltb-false 65536 (length input) (or_right (ltb (length input) 32768) (ltb 65536 (length input)) e))

pub card_short : CardShort
unfolding card_text
card_short input b = short_on input b (not_sized input) refl

pub never_no_room : NeverNoRoom
unfolding listed
never_no_room input room b h =
    let k : length (card_text input) ≤ room = omega (arith, card_short input b, h) in
    ap (λ (x : Bool). cond x (Some (length (card_text input))) None) (le-leb (length (card_text input)) room k)

-- ---- in the buffer

in_on : (room k n : ℕ) (x : Bool) → leb k room ≡ x → Some n ≡ cond x (Some k) None → n ≤ room
in_on room k n true e w =
    let d : n ≡ k = cc in
    omega (arith, leb-true k room e, d)
in_on room k n false e w = absurd (let z : ◌≡◌ {A = ℕ} 0 1 = cc in omega arith)

pub in_the_buffer : InTheBuffer
unfolding listed
in_the_buffer room k text after r n e w =
    let h : n ≤ room = in_on room k n (leb k room) refl (sym e ∙ w.0) in
    let l : length after ≡ room = ap length w.1 ∙ length-written (zeros room) 0 text ∙ length-replicate {A = ℕ} room 0 in
    omega (arith, h, l)
