-- Definition (02, Ticket 12).
-- "a table of four frame types by two outcomes, checksum right and wrong, the unreadable headers, the over-long frames, bytes of data in sound frames": each
-- count over the frames of one log.
-- Assumes nothing.
use Rattle.std.specs.Prelude.{Bool, true, false, List, [], ◌∷◌, ℕ, ◌+◌, eqb}
use Rattle.frame.specs.declared.FrameType.{FrameType}
use Rattle.frame.specs.declared.FrameType.TheVariants.{Full as full, First as first, Middle as middle, Last as last}
use Rattle.report_frames.specs.declared.Seen.{Seen}
use Rattle.report_frames.specs.declared.Seen.TheVariants.{Right as right, Wrong as wrong, Unreadable as unreadable, OverLong as over_long}

-- the row of a frame type in the table: Full, First, Middle, Last
unfoldable pub row_of : FrameType → ℕ
row_of full = 0
row_of first = 1
row_of middle = 2
row_of last = 3

-- is the frame of this row, and its checksum right, or wrong
unfoldable pub is_right : ℕ → Seen → Bool
is_right k (right t n) = eqb k (row_of t)
is_right k (wrong t) = false
is_right k unreadable = false
is_right k over_long = false

unfoldable pub is_wrong : ℕ → Seen → Bool
is_wrong k (right t n) = false
is_wrong k (wrong t) = eqb k (row_of t)
is_wrong k unreadable = false
is_wrong k over_long = false

unfoldable pub is_unreadable : Seen → Bool
is_unreadable (right t n) = false
is_unreadable (wrong t) = false
is_unreadable unreadable = true
is_unreadable over_long = false

unfoldable pub is_over_long : Seen → Bool
is_over_long (right t n) = false
is_over_long (wrong t) = false
is_over_long unreadable = false
is_over_long over_long = true

-- bytes of data where the frame is sound
unfoldable pub data_in : Seen → ℕ
data_in (right t n) = n
data_in (wrong t) = 0
data_in unreadable = 0
data_in over_long = 0

unfoldable pub one : Bool → ℕ
one true = 1
one false = 0

-- how many of the frames are so
unfoldable pub times : (Seen → Bool) → List Seen → ℕ
times p [] = 0
times p (s ∷ ss) = one (p s) + times p ss

-- bytes of data in all of them
unfoldable pub data_bytes : List Seen → ℕ
data_bytes [] = 0
data_bytes (s ∷ ss) = data_in s + data_bytes ss

-- the twelve numbers of a report over this one log: one log; right and wrong of each type; the unreadable; the over-long; the data bytes
unfoldable pub tally : List Seen → List ℕ
tally ss =
    1
    ∷ times (is_right 0) ss ∷ times (is_wrong 0) ss
    ∷ times (is_right 1) ss ∷ times (is_wrong 1) ss
    ∷ times (is_right 2) ss ∷ times (is_wrong 2) ss
    ∷ times (is_right 3) ss ∷ times (is_wrong 3) ss
    ∷ times is_unreadable ss
    ∷ times is_over_long ss
    ∷ data_bytes ss
    ∷ []
