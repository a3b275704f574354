-- Claim.
-- What is claimed of the frames read of a log; each is proved in proofs/ under the same name in snake case.
-- Assumes nothing.
use Rattle.std.specs.Prelude.{Some, ◌≡◌, Bool, List, [], ◌∷◌, ℕ, ◌+◌, ◌*◌, ◌≤◌}
use Rattle.frame.specs.declared.Reader.{Reader}
use Rattle.frame.specs.declared.FrameType.{FrameType}
use Rattle.frame.specs.declared.FrameType.TheVariants.{Full as full, First as first, Middle as middle, Last as last}
use Rattle.frame.specs.Reader.{sound, corrupt}
use Rattle.frame.specs.declared.Corruption.TheVariants.{UnknownType as unknown_type}
use Rattle.frame.specs.Block.{blocks}
use Rattle.frame.specs.Reader.{fresh, read_frame, ahead}
use Rattle.report_frames.specs.declared.Seen.{Seen}
use Rattle.report_frames.specs.declared.Seen.TheVariants.{Right as right, Wrong as wrong, Unreadable as unreadable, OverLong as over_long}
use Rattle.report_frames.specs.Seen.{header_place, type_said, seen, frames_from, frames_read}
use Rattle.report_frames.specs.Tally.{times, data_bytes, tally}

-- however many frames more are asked for, none comes: `frames_read` goes up to the first end of log
abbrev pub FramesEnd : Type 0
FramesEnd = (log : List ℕ) (k : ℕ) → 1 ≤ blocks log → frames_from (ahead log fresh + k) log fresh ≡ frames_read log

-- a sound frame's header stands at `header_place`, its data right after it, and its type is the one said there
abbrev pub HeaderThere : Type 0
HeaderThere = (log : List ℕ) (r : Reader) (t : FrameType) (s n : ℕ) → (read_frame log r).answer ≡ sound t s n
    → (s ≡ header_place r + 7) × (type_said log r ≡ Some t)

-- a header is counted as unreadable only where its type is unknown: a frame with a wrong checksum always has a type
abbrev pub UnreadableOnly : Type 0
UnreadableOnly = (log : List ℕ) (r : Reader) → seen log r ≡ Some unreadable → (read_frame log r).answer ≡ corrupt unknown_type

-- each count of one log, whichever frames it counts: at most 4,681 for each block
abbrev pub FramesBound : Type 0
FramesBound = (log : List ℕ) (p : Seen → Bool) → times p (frames_read log) ≤ blocks log * 4681

-- the bytes of data: at most those of the whole blocks
abbrev pub DataBound : Type 0
DataBound = (log : List ℕ) → 1 ≤ blocks log → data_bytes (frames_read log) ≤ blocks log * 32768

-- no frame; one of each outcome, with a sound frame of no data and one of 700 bytes
pub record TallyExamples : Type 0 where
  pub none : tally [] ≡ 1 ∷ 0 ∷ 0 ∷ 0 ∷ 0 ∷ 0 ∷ 0 ∷ 0 ∷ 0 ∷ 0 ∷ 0 ∷ 0 ∷ []
  pub some :
      tally (right full 700 ∷ wrong last ∷ right full 0 ∷ over_long ∷ right first 9 ∷ wrong middle ∷ unreadable ∷ right last 2 ∷ [])
      ≡ 1 ∷ 2 ∷ 0 ∷ 1 ∷ 0 ∷ 0 ∷ 1 ∷ 1 ∷ 1 ∷ 1 ∷ 1 ∷ 711 ∷ []
