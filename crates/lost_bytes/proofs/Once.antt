-- Each byte of a frame met is lost, or it is of a record handed out.
-- Assumes nothing.
use mathlib.Core.Path.{◌≡◌, refl, sym, ap, ap₂, ◌∙◌}
use mathlib.Core.Bool.{Bool, true, false, cond, true≢false}
use mathlib.Core.List.{List, [], ◌∷◌, map}
use Prim.Native.Nat.{ℕ, zero, suc, ◌+◌, ◌<◌}
use native.Mathlib.Omega.{arith}
use lib.Dec.{leb}
use lib.ListN.{length}
use Rattle.frame.specs.Frame.{begins, ends}
use Rattle.frame.specs.declared.Reader.{Reader}
use Rattle.frame.specs.declared.FrameType.{FrameType}
use Rattle.frame.specs.Reader.{FrameAnswer}
use Rattle.frame.specs.Block.{blocks}
use Rattle.frame.specs.Reader.{fresh, ahead, read_frame}
use Rattle.frame.specs.Size.{frame_size}
use Rattle.frame.specs.Internal.{Arranged}
use Rattle.frame.proofs.Measure.{onward}
use Rattle.recordlog.specs.declared.Tally.{Tally}
use Rattle.recordlog.specs.Read.{Answer, Begun, idle, within, gather}
use Rattle.recordlog.specs.Lost.{no_tally, take_up}
use Rattle.recordlog.proofs.Sees.{weighed, joined, assemble, fresh-arranged, read_all_sees}
use Rattle.recordlog.proofs.Tallied.{take-total}
use Rattle.record.specs.Record.{Decoded, no_record, one_record, decode}
use Rattle.calls.specs.Refusals.{log_refused}
use Rattle.calls.specs.Reading.{ReadAnswer, of_record, answer_of, readings}
use Rattle.calls.specs.Lost.{undecoded, lost_of, sum_from, sum_over, lost_bytes}
use Rattle.lost_bytes.specs.Given.{handed, given_of, given_bytes, on_seen, seen_times, seen_bytes}
use Rattle.calls.proofs.Passed.{log_taken}
use Rattle.calls.proofs.Answers.{readings_same}
use Rattle.lost_bytes.specs.Claims.{refused_in, LostOrGiven}
use Rattle.lost_bytes.proofs.Events.{Sized, good, corrupted, lost_blind, given_blind, weighed_sum, joined_sum, sum_of, SeesSized, none, bad, fine, sized_ahead, sees_sized, sum_sees}
use Rattle.lost_bytes.proofs.Within.{size_at, sizes}
use Rattle.lost_bytes.proofs.Costs.{unsized, to_sees}

-- ---- the frames met

seen_sees : (log : List ℕ) {r : Reader} {es : List Sized} → Arranged log r → SeesSized log r es → (k : ℕ) → length es < k → seen_times k log r ≡ sizes es
unfolding seen_times on_seen sizes size_at
seen_sees log a (none e) zero h = absurd (omega arith)
seen_sees log {r} a (none e) (suc k) h = ap (λ (x : FrameAnswer). on_seen x (frame_size log r) (read_frame log r).reader (seen_times k log)) e
seen_sees log a (bad c z e f s) zero h = absurd (omega arith)
seen_sees log {r} a (bad c z e f s) (suc k) h =
    ap (λ (x : FrameAnswer). on_seen x (frame_size log r) (read_frame log r).reader (seen_times k log)) e
    ∙ ap₂ ◌+◌ f (seen_sees log (onward log r a).arranged s k (omega arith))
seen_sees log a (fine t p n xs z q e d f g s) zero h = absurd (omega arith)
seen_sees log {r} a (fine t p n xs z q e d f g s) (suc k) h =
    ap (λ (x : FrameAnswer). on_seen x (frame_size log r) (read_frame log r).reader (seen_times k log)) e
    ∙ ap₂ ◌+◌ f (seen_sees log (onward log r a).arranged s k (omega arith))

-- ---- lost or given

abbrev Taken : List Answer → Type 0
Taken as' = refused_in (map answer_of as') ≡ false

one_or_other : (d : Decoded) (n : ℕ) → undecoded d n + handed d n ≡ n
unfolding undecoded handed
one_or_other no_record n = omega arith
one_or_other (one_record x) n = omega arith

taken_on : (d : Decoded) (as' : List ReadAnswer) → refused_in (of_record d ∷ as') ≡ false → refused_in as' ≡ false
unfolding refused_in of_record
taken_on no_record as' h = h
taken_on (one_record x) as' h = h

module _ (n limit : ℕ) (answers : Begun → List Answer) (lost given : Begun → Tally → ℕ)
    (on : (b : Begun) (t : Tally) → Taken (answers b) → lost b t + given b t ≡ t.lost + t.taken + n) where
  weighed_once : (f e : Bool) (ys : List ℕ) (t : Tally) → Taken (weighed f e ys answers)
      → weighed_sum lost_of f e ys t lost + weighed_sum given_of f e ys t given ≡ t.lost + t.taken + n
  unfolding weighed weighed_sum lost_of given_of answer_of refused_in
  weighed_once false e ys t h = absurd (true≢false h)
  weighed_once true true ys t h =
      omega (arith, on idle no_tally (taken_on (decode ys) (map answer_of (answers idle)) h), one_or_other (decode ys) t.taken)
  weighed_once true false ys t h = on (within ys) t h

  joined_once : (k : FrameType) (g : Begun) (t : Tally) → Taken (joined limit k g answers)
      → joined_sum lost_of limit k g t lost + joined_sum given_of limit k g t given ≡ t.lost + t.taken + n
  unfolding joined joined_sum
  joined_once k idle t h = on idle t h
  joined_once k (within ys) t h = weighed_once (leb (length ys) limit) (ends k) ys t h

once : (limit : ℕ) (es : List Sized) (b : Begun) (t : Tally) → Taken (assemble limit (map unsized es) b)
    → sum_of lost_of limit es b t + sum_of given_of limit es b t ≡ t.lost + t.taken + sizes es
unfolding assemble sum_of lost_of given_of sizes size_at answer_of refused_in
once limit [] b t h = omega arith
once limit (corrupted c z ∷ es) b t h = omega (arith, once limit es idle no_tally h)
once limit (good k xs z q ∷ es) b t h =
    omega (
      arith,
      joined_once (sizes es) limit (assemble limit (map unsized es)) (sum_of lost_of limit es) (sum_of given_of limit es) (once limit es) k (gather b k xs) (take_up (begins k) b z 0 t) h,
      take-total (begins k) b z 0 t,
    )

-- ---- of a log

once_on : (log : List ℕ) (limit : ℕ) (b : Bool) → log_refused log ≡ b → refused_in (readings log limit) ≡ false
    → cond b 0 (sum_from lost_of log limit fresh) + cond b 0 (sum_from given_of log limit fresh) ≡ cond b 0 (seen_times (suc (ahead log fresh)) log fresh)
once_on log limit true e h = omega arith
once_on log limit false e h =
    let some : 0 < blocks log = (log_taken log e).some in
    let a : Arranged log fresh = fresh-arranged log some in
    let x = sees_sized log fresh a in
    let taken : Taken (assemble limit (map unsized x.0) idle)
    = sym (ap (λ (as' : List Answer). refused_in (map answer_of as')) (read_all_sees log limit some (to_sees log x.1))) ∙ sym (ap refused_in (readings_same log limit e)) ∙ h in
    omega (
      arith,
      sum_sees lost_of lost_blind log limit a x.1,
      sum_sees given_of given_blind log limit a x.1,
      once limit x.0 idle no_tally taken,
      seen_sees log a x.1 (suc (ahead log fresh)) (omega (arith, sized_ahead log a x.1)),
    )

pub lost_or_given : LostOrGiven
unfolding lost_bytes given_bytes seen_bytes sum_over
lost_or_given log limit h = once_on log limit (log_refused log) refl h
