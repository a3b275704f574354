-- Helper: for proofs; no promise rests on reading it.
-- The table of counts as the code has it, a row for each type with the right frames and the wrong ones, and the three counts beside it.
-- Assumes nothing.
use Rattle.std.specs.Prelude.{◌≡◌, Bool, true, false, List, [], ◌∷◌, ℕ, ◌+◌, ◌<◌, length, get_or, set}
use Rattle.report_frames.specs.declared.Seen.{Seen}
use Rattle.report_frames.specs.declared.Seen.TheVariants.{Right as right, Wrong as wrong, Unreadable as unreadable, OverLong as over_long}
use Rattle.report_frames.specs.Seen.{frames_read}
use Rattle.report_frames.specs.Tally.{row_of, is_right, is_wrong, data_in, tally}
use Rattle.report_count.specs.declared.Others.{Others}
use Rattle.report_count.specs.Sums.{plus}

abbrev pub side : Bool → ℕ
side true = 0
side false = 1

-- the count of right, or of wrong, frames of a row
unfoldable pub cell : List (List ℕ) → ℕ → Bool → ℕ
cell t k b = get_or (get_or t k []) (side b) 0

-- is a frame counted in this cell
unfoldable pub is_of : ℕ → Bool → Seen → Bool
is_of k true s = is_right k s
is_of k false s = is_wrong k s

-- one more
unfoldable pub counted : List (List ℕ) → ℕ → Bool → List (List ℕ)
counted t k b = set t k (set (get_or t k []) (side b) (cell t k b + 1))

-- the table after a frame
unfoldable pub count_seen : List (List ℕ) → Seen → List (List ℕ)
count_seen t (right u n) = counted t (row_of u) true
count_seen t (wrong u) = counted t (row_of u) false
count_seen t unreadable = t
count_seen t over_long = t

abbrev pub others : ℕ → ℕ → ℕ → Others
others u l n = record { unreadable = u; over_long = l; «data» = n }

-- the other counts after a frame
unfoldable pub count_others : Others → Seen → Others
count_others o (right u n) = others o.unreadable o.over_long (o.«data» + n)
count_others o (wrong u) = o
count_others o unreadable = others (o.unreadable + 1) o.over_long o.«data»
count_others o over_long = others o.unreadable (o.over_long + 1) o.«data»

-- the twelve numbers taken apart, and put together again
unfoldable pub table_of : List ℕ → List (List ℕ)
table_of ws =
    (get_or ws 1 0 ∷ get_or ws 2 0 ∷ [])
    ∷ (get_or ws 3 0 ∷ get_or ws 4 0 ∷ [])
    ∷ (get_or ws 5 0 ∷ get_or ws 6 0 ∷ [])
    ∷ (get_or ws 7 0 ∷ get_or ws 8 0 ∷ [])
    ∷ []

unfoldable pub others_of : List ℕ → Others
others_of ws = others (get_or ws 9 0) (get_or ws 10 0) (get_or ws 11 0)

unfoldable pub numbers_of : ℕ → List (List ℕ) → Others → List ℕ
numbers_of logs t o =
    logs
    ∷ cell t 0 true ∷ cell t 0 false
    ∷ cell t 1 true ∷ cell t 1 false
    ∷ cell t 2 true ∷ cell t 2 false
    ∷ cell t 3 true ∷ cell t 3 false
    ∷ o.unreadable
    ∷ o.over_long
    ∷ o.«data»
    ∷ []

-- four rows of two counts
pub record Shaped (t : List (List ℕ)) : Type 0 where
  pub rows : length t ≡ 4
  pub sides : (k : ℕ) → k < 4 → length (get_or t k []) ≡ 2

-- no cell is at the largest number
abbrev pub CellsFit : List (List ℕ) → Type 0
CellsFit t = (k : ℕ) (b : Bool) → k < 4 → cell t k b < 18446744073709551615

-- one more, or the data of one frame more, fits
pub record OthersFit (o : Others) (s : Seen) : Type 0 where
  pub unreadable : o.unreadable < 18446744073709551615
  pub over_long : o.over_long < 18446744073709551615
  pub bytes : o.«data» + data_in s < 18446744073709551616

-- none of the numbers after this log is at the largest number
abbrev pub NumbersFit : List ℕ → List ℕ → Type 0
NumbersFit ws log = (i : ℕ) → get_or (plus ws (tally (frames_read log))) i 0 < 18446744073709551615
