-- The claims.
-- Assumes nothing.
use mathlib.Core.Path.{◌≡◌, refl}
use mathlib.Core.List.{List}
use Prim.Native.Nat.{ℕ, zero, suc, ◌+◌, ◌*◌, ◌≤◌}
use native.Mathlib.Omega.{arith}
use Rattle.frame.specs.declared.Reader.{Reader}
use Rattle.frame.specs.Block.{blocks}
use Rattle.frame.specs.Reader.{fresh, place, read_frame, ahead}
use Rattle.frame.specs.Internal.{Arranged}
use Rattle.std.specs.Prelude.{Option, Some, None}
use Rattle.report_frames.specs.declared.Seen.{Seen}
use Rattle.report_frames.specs.Seen.{seen, frames_then, frames_from, frames_ahead, frames_read}
use Rattle.report_frames.specs.Tally.{row_of, is_right, is_wrong, is_unreadable, is_over_long, data_in, one, times, data_bytes, tally}
use Rattle.report_frames.specs.Claims.{FramesEnd, HeaderThere, UnreadableOnly, FramesBound, DataBound, TallyExamples}
use Rattle.report_frames.proofs.Stands.{stands, not_before}
use Rattle.report_frames.proofs.Ahead.{left_arranged, same, most_frames_lem, times_most}

pub fresh-arranged : (log : List ℕ) → 1 ≤ blocks log → Arranged log fresh
fresh-arranged log h = record { inside = omega arith; within = omega arith }

pub frames_end : FramesEnd
unfolding frames_read frames_ahead
frames_end log k h = same log (ahead log fresh + k) (ahead log fresh) fresh (fresh-arranged log h) (omega arith) (omega arith)

pub header_there : HeaderThere
header_there log r t s n e = (stands 0 log r (omega arith)).there (record { kind = t; start = s; len = n }) e

pub unreadable_only : UnreadableOnly
unfolding seen
unreadable_only log r e = (stands 0 log r (omega arith)).typed e

all_ahead : (log : List ℕ) → ahead log fresh ≤ blocks log * 4681
unfolding ahead
all_ahead log = omega arith

pub frames_bound : FramesBound
unfolding frames_read frames_ahead
frames_bound log p =
    omega (arith, times_most p (frames_read log), most_frames_lem log (ahead log fresh) fresh, all_ahead log)

-- the data of the frames ahead fit behind the reader's place
data_ahead : (log : List ℕ) (k : ℕ) (r : Reader) → Arranged log r → place r + data_bytes (frames_from k log r) ≤ blocks log * 32768
unfolding frames_from frames_then data_bytes seen
data_ahead log zero r a = omega (arith, a.inside, a.within)
data_ahead log (suc k) r a =
    step (seen log r) refl (data_ahead log k (read_frame log r).reader (left_arranged log r a))
  where
    step : (x : Option Seen) → seen log r ≡ x
        → place (read_frame log r).reader + data_bytes (frames_from k log (read_frame log r).reader) ≤ blocks log * 32768
        → place r + data_bytes (frames_then x (frames_from k log (read_frame log r).reader)) ≤ blocks log * 32768
    step None e h = omega (arith, a.inside, a.within)
    step (Some s) e h = omega (arith, (stands (place r) log r (not_before r a.within)).moves s e)

pub data_bound : DataBound
unfolding frames_read frames_ahead
data_bound log h = omega (arith, data_ahead log (ahead log fresh) fresh (fresh-arranged log h))

pub tally_examples : TallyExamples
unfolding tally times data_bytes is_right is_wrong is_unreadable is_over_long data_in one row_of
tally_examples = record { none = refl; some = refl }
