-- No more is lost than the reader passes, and it passes no more than the whole blocks.
-- Assumes nothing.
use mathlib.Core.Path.{◌≡◌, refl}
use mathlib.Core.Bool.{Bool, true, false, cond}
use mathlib.Core.List.{List, [], ◌∷◌}
use Prim.Native.Nat.{ℕ, ◌+◌, ◌*◌, ◌≤◌}
use native.Mathlib.Omega.{arith}
use lib.Dec.{leb}
use lib.ListN.{length}
use Rattle.frame.specs.Frame.{begins, ends}
use Rattle.frame.specs.declared.Reader.{Reader}
use Rattle.frame.specs.declared.FrameType.{FrameType}
use Rattle.frame.specs.Block.{blocks}
use Rattle.frame.specs.Reader.{fresh}
use Rattle.frame.specs.Internal.{Arranged}
use Rattle.frame.proofs.Measure.{onward}
use Rattle.frame.proofs.Passed.{passed, passed_most, frame_passes}
use Rattle.recordlog.specs.declared.Tally.{Tally}
use Rattle.recordlog.specs.Read.{Begun, idle, within, gather}
use Rattle.recordlog.specs.Lost.{no_tally, take_up}
use Rattle.recordlog.proofs.Sees.{fresh-arranged}
use Rattle.recordlog.proofs.Tallied.{take-total}
use Rattle.record.specs.Record.{Decoded, no_record, one_record, decode}
use Rattle.calls.specs.Refusals.{log_refused}
use Rattle.calls.specs.Lost.{undecoded, lost_of, sum_from, sum_over, lost_bytes}
use Rattle.calls.proofs.Passed.{log_taken}
use Rattle.lost_bytes.specs.Claims.{LostWithin}
use Rattle.lost_bytes.proofs.Events.{Sized, good, corrupted, lost_blind, weighed_sum, joined_sum, sum_of, SeesSized, none, bad, fine, sees_sized, sum_sees}

-- ---- the sizes of the frames seen

unfoldable pub size_at : Sized → ℕ
size_at (good t xs z q) = z
size_at (corrupted c z) = z

unfoldable pub sizes : List Sized → ℕ
sizes [] = 0
sizes (e ∷ es) = size_at e + sizes es

pub sizes_within : (log : List ℕ) {r : Reader} {es : List Sized} → Arranged log r → SeesSized log r es → passed r + sizes es ≤ blocks log * 32768
unfolding sizes size_at
sizes_within log {r} a (none e) = omega (arith, passed_most r a.within, a.inside)
sizes_within log {r} a (bad c z e f s) = omega (arith, (frame_passes log r a).passes, sizes_within log (onward log r a).arranged s)
sizes_within log {r} a (fine t p n xs z q e d f g s) = omega (arith, (frame_passes log r a).passes, sizes_within log (onward log r a).arranged s)

-- ---- no more is lost than the frames have

undecoded_most : (d : Decoded) (n : ℕ) → undecoded d n ≤ n
unfolding undecoded
undecoded_most no_record n = omega arith
undecoded_most (one_record x) n = omega arith

module _ (n limit : ℕ) (go : Begun → Tally → ℕ) (h : (b : Begun) (t : Tally) → go b t ≤ t.lost + t.taken + n) where
  weighed_most : (f e : Bool) (ys : List ℕ) (t : Tally) → weighed_sum lost_of f e ys t go ≤ t.lost + t.taken + n
  unfolding weighed_sum lost_of
  weighed_most false e ys t = omega arith
  weighed_most true true ys t = omega (arith, h idle no_tally, undecoded_most (decode ys) t.taken)
  weighed_most true false ys t = h (within ys) t

  joined_most : (k : FrameType) (g : Begun) (t : Tally) → joined_sum lost_of limit k g t go ≤ t.lost + t.taken + n
  unfolding joined_sum lost_of
  joined_most k idle t = h idle t
  joined_most k (within ys) t = weighed_most (leb (length ys) limit) (ends k) ys t

loss_most : (limit : ℕ) (es : List Sized) (b : Begun) (t : Tally) → sum_of lost_of limit es b t ≤ t.lost + t.taken + sizes es
unfolding sum_of lost_of sizes size_at
loss_most limit [] b t = omega arith
loss_most limit (corrupted c z ∷ es) b t = omega (arith, loss_most limit es idle no_tally)
loss_most limit (good k xs z q ∷ es) b t =
    omega (arith, joined_most (sizes es) limit (sum_of lost_of limit es) (loss_most limit es) k (gather b k xs) (take_up (begins k) b z 0 t), take-total (begins k) b z 0 t)

-- ---- of a log

within_on : (log : List ℕ) (limit : ℕ) (b : Bool) → log_refused log ≡ b → cond b 0 (sum_from lost_of log limit fresh) ≤ blocks log * 32768
within_on log limit true e = omega arith
within_on log limit false e =
    let a : Arranged log fresh = fresh-arranged log (log_taken log e).some in
    let x = sees_sized log fresh a in
    omega (arith, sum_sees lost_of lost_blind log limit a x.1, loss_most limit x.0 idle no_tally, sizes_within log a x.1)

pub lost_within : LostWithin
unfolding lost_bytes sum_over
lost_within log limit = within_on log limit (log_refused log) refl
