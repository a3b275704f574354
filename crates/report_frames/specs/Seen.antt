-- Definition (02, Ticket 12).
-- The frames that are read of a log, one after the other: "what the reading definition says of frames alone (never 11)". No record is put together, so no
-- scratch is in play.
-- Assumes nothing.
use Rattle.std.specs.Prelude.{Option, Some, None, Ok, Err, Bool, true, false, List, [], ◌∷◌, ℕ, zero, suc, ◌*◌, drop}
use Rattle.frame.specs.declared.FrameType.{FrameType}
use Rattle.frame.specs.declared.ReadFrameError.TheVariants.{Corruption as bad_frame, NotAvailable as no_frame}
use Rattle.frame.specs.declared.Reader.{Reader}
use Rattle.frame.specs.declared.Corruption.TheVariants.{WrongChecksum as wrong_checksum, UnknownType as unknown_type, PastBlock as past_block}
use Rattle.frame.specs.Frame.{type_of, header_of}
use Rattle.frame.specs.Reader.{FrameAnswer, fresh, place, must_move, read_frame, ahead}
use Rattle.report_frames.specs.declared.Seen.{Seen}
use Rattle.report_frames.specs.declared.Seen.TheVariants.{Right as right, Wrong as wrong, Unreadable as unreadable, OverLong as over_long}

-- where the reader looks for the next header (01: "after a spoilt block, or under 7 bytes left, move to the next whole block")
unfoldable pub header_place_when : Bool → Reader → ℕ
header_place_when true r = suc r.block * 32768
header_place_when false r = place r

unfoldable pub header_place : Reader → ℕ
header_place r = header_place_when (must_move r) r

-- what the type byte of that header says
unfoldable pub type_said : List ℕ → Reader → Option FrameType
type_said log r = type_of (header_of (drop (header_place r) log)).kind

-- a frame with a wrong checksum has the type that its header says; it always says one (UnreadableOnly)
unfoldable pub wrong_as : Option FrameType → Seen
wrong_as (Some t) = wrong t
wrong_as None = unreadable

-- "four frame types by two outcomes, checksum right and wrong, the unreadable headers, the over-long frames": an unreadable header is one of unknown type, an
-- over-long frame one whose length passes the block
unfoldable pub seen_as : Option FrameType → FrameAnswer → Option Seen
seen_as said (Ok f) = Some (right f.kind f.len)
seen_as said (Err (bad_frame wrong_checksum)) = Some (wrong_as said)
seen_as said (Err (bad_frame unknown_type)) = Some unreadable
seen_as said (Err (bad_frame past_block)) = Some over_long
seen_as said (Err no_frame) = None

-- what the next frame from a reader on is; none at the end of log
unfoldable pub seen : List ℕ → Reader → Option Seen
seen log r = seen_as (type_said log r) (read_frame log r).answer

-- a frame and those after it; at the end of log there are none
unfoldable pub frames_then : Option Seen → List Seen → List Seen
frames_then (Some s) ss = s ∷ ss
frames_then None ss = []

-- the first k frames from a reader on, up to the first end of log
unfoldable pub frames_from : ℕ → List ℕ → Reader → List Seen
frames_from zero log r = []
frames_from (suc k) log r = frames_then (seen log r) (frames_from k log (read_frame log r).reader)

-- all of them: no more lie ahead (FramesEnd)
unfoldable pub frames_ahead : List ℕ → Reader → List Seen
frames_ahead log r = frames_from (ahead log r) log r

unfoldable pub frames_read : List ℕ → List Seen
frames_read log = frames_ahead log fresh
