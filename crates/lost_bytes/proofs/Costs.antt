-- Each corruption answer costs a header at least.
-- Assumes nothing.
use mathlib.Core.Path.{◌≡◌, refl, ap, subst}
use mathlib.Core.Bool.{Bool, true, false, cond}
use mathlib.Core.List.{List, [], ◌∷◌, ◌++◌, map}
use Prim.Native.Nat.{ℕ, ◌+◌, ◌*◌, ◌≤◌, ◌<◌}
use native.Mathlib.Omega.{arith}
use lib.Dec.{leb}
use lib.ListN.{length}
use Rattle.frame.specs.Frame.{begins, ends}
use Rattle.frame.specs.declared.Reader.{Reader}
use Rattle.frame.specs.declared.FrameType.{FrameType}
use Rattle.frame.specs.Block.{blocks}
use Rattle.frame.specs.Reader.{fresh, read_frame}
use Rattle.frame.specs.Internal.{Arranged}
use Rattle.frame.proofs.Measure.{onward}
use Rattle.frame.proofs.Passed.{frame_passes}
use Rattle.recordlog.specs.declared.Tally.{Tally}
use Rattle.recordlog.specs.Read.{Answer, idle, within, Begun, gather_when, gather}
use Rattle.recordlog.specs.Lost.{tally, no_tally, take_up}
use Rattle.recordlog.proofs.Sees.{Event, weighed, joined, assemble, Sees, Any, not_corrupt, not_sound_lem, fresh-arranged, read_all_sees}
use Rattle.recordlog.proofs.Sees as Plain
use Rattle.record.specs.Record.{Decoded, no_record, one_record, decode}
use Rattle.calls.specs.Refusals.{log_refused}
use Rattle.calls.specs.Reading.{of_record, answer_of, readings, lost_in}
use Rattle.calls.specs.Lost.{undecoded, lost_of, sum_from, sum_over, lost_bytes}
use Rattle.calls.proofs.Passed.{log_taken}
use Rattle.calls.proofs.Answers.{readings_same, readings_refused}
use Rattle.lost_bytes.specs.Claims.{LostCosts}
use Rattle.lost_bytes.proofs.Events.{Sized, good, corrupted, lost_blind, weighed_sum, joined_sum, sum_of, SeesSized, none, bad, fine, sees_sized, sum_sees}

abbrev Sevens : List Sized → Type 0
Sevens [] = Unit {0}
Sevens (good t xs z q ∷ es) = (7 ≤ z) × Sevens es
Sevens (corrupted c z ∷ es) = (7 ≤ z) × Sevens es

sevens : (log : List ℕ) {r : Reader} {es : List Sized} → Arranged log r → SeesSized log r es → Sevens es
sevens log a (none e) = tt
sevens log {r} a (bad c z e f s) =
    (subst (λ (i : ℕ). 7 ≤ i) f ((frame_passes log r a).seven (not_corrupt (read_frame log r).answer c e)), sevens log (onward log r a).arranged s)
sevens log {r} a (fine t p n xs z q e d f g s) =
    (subst (λ (i : ℕ). 7 ≤ i) f ((frame_passes log r a).seven (not_sound_lem (read_frame log r).answer t p n e)), sevens log (onward log r a).arranged s)

-- ---- the same frames give the answers

abbrev pub unsized : Sized → Event
unsized (good t xs z q) = Plain.good t xs q
unsized (corrupted c z) = Plain.corrupted c

pub to_sees : (log : List ℕ) {r : Reader} {es : List Sized} → SeesSized log r es → Sees log Any r (map unsized es)
to_sees log (none e) = Plain.none e tt
to_sees log (bad c z e f s) = Plain.bad c e tt (to_sees log s)
to_sees log (fine t p n xs z q e d f g s) = Plain.fine t p n xs q e d g (to_sees log s)

-- ---- answers and what they cost

lost_by : List Answer → ℕ
lost_by as' = lost_in (map answer_of as')

decoded_costs : (d : Decoded) (ys : List ℕ) (as' : List Answer) (n o i : ℕ) → 7 ≤ n → 7 * lost_by as' ≤ i → 7 * lost_in (of_record d ∷ map answer_of as') ≤ o + undecoded d n + i
unfolding of_record lost_in undecoded lost_by
decoded_costs no_record ys as' n o i h g = omega arith
decoded_costs (one_record x) ys as' n o i h g = omega arith

module _ (limit : ℕ) (answers : Begun → List Answer) (losses : Begun → Tally → ℕ) (on : (b : Begun) (t : Tally) → 7 * lost_by (answers b) ≤ losses b t) where
  weighed_costs : (f e : Bool) (ys : List ℕ) (t : Tally) → 7 ≤ t.taken → 7 * lost_by (weighed f e ys answers) ≤ weighed_sum lost_of f e ys t losses
  unfolding weighed weighed_sum lost_of answer_of lost_in lost_by
  weighed_costs false e ys t h = omega arith
  weighed_costs true true ys t h = decoded_costs (decode ys) ys (answers idle) t.taken t.lost (losses idle no_tally) h (on idle no_tally)
  weighed_costs true false ys t h = on (within ys) t

  joined_costs : (k : FrameType) (xs : List ℕ) (z : ℕ) → 7 ≤ z → (b : Begun) (t : Tally) (c : Bool)
      → 7 * lost_by (joined limit k (gather_when c b xs) answers) ≤ joined_sum lost_of limit k (gather_when c b xs) (take_up c b z 0 t) losses
  unfolding joined joined_sum lost_of gather_when take_up
  joined_costs k xs z h b t true = weighed_costs (leb (length xs) limit) (ends k) xs (tally (t.lost + t.taken) z 0) h
  joined_costs k xs z h idle t false = on idle (tally (t.lost + z) t.taken t.began)
  joined_costs k xs z h (within ys) t false =
      weighed_costs (leb (length (ys ++ xs)) limit) (ends k) (ys ++ xs) (tally t.lost (t.taken + z) t.began) (omega arith)

loss_costs : (limit : ℕ) (es : List Sized) (b : Begun) (t : Tally) → Sevens es → 7 * lost_by (assemble limit (map unsized es) b) ≤ sum_of lost_of limit es b t
unfolding assemble sum_of lost_of lost_by lost_in answer_of gather
loss_costs limit [] b t w = omega arith
loss_costs limit (corrupted c z ∷ es) b t w = omega (arith, loss_costs limit es idle no_tally w.1, w.0)
loss_costs limit (good k xs z q ∷ es) b t w =
    joined_costs limit (assemble limit (map unsized es)) (sum_of lost_of limit es) (λ g u. loss_costs limit es g u w.1) k xs z w.0 b t (begins k)

-- ---- of a log

costs_on : (log : List ℕ) (limit : ℕ) (b : Bool) → log_refused log ≡ b → 7 * lost_in (readings log limit) ≤ cond b 0 (sum_from lost_of log limit fresh)
unfolding lost_in lost_by
costs_on log limit true e = omega (arith, ap lost_in (readings_refused log limit e))
costs_on log limit false e =
    let some : 0 < blocks log = (log_taken log e).some in
    let a : Arranged log fresh = fresh-arranged log some in
    let x = sees_sized log fresh a in
    omega (
      arith,
      ap lost_in (readings_same log limit e),
      ap lost_by (read_all_sees log limit some (to_sees log x.1)),
      loss_costs limit x.0 idle no_tally (sevens log a x.1),
      sum_sees lost_of lost_blind log limit a x.1,
    )

pub lost_costs : LostCosts
unfolding lost_bytes sum_over
lost_costs log limit = costs_on log limit (log_refused log) refl
