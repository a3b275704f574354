-- Definition (02, Ticket 12).
-- A report as bytes, and when it is arranged: "A report that isn't as docs/LAYOUT.md defines is 6".
-- Assumes nothing.
use Rattle.std.specs.Prelude.{Bool, ◌&&◌, List, [], ◌∷◌, ◌++◌, ℕ, ◌*◌, leb, eqb, length, get_or, take, drop}
use Rattle.std.specs.List.{list_all}
use Rattle.fields.specs.Le.{le_bytes}
use Rattle.abi_queues.specs.Words.{words_from}

-- twelve numbers of 8 bytes: logs fed; right and wrong of Full, First, Middle, Last; unreadable headers; over-long frames; bytes of data in sound frames
abbrev pub report_length : ℕ
report_length = 96

unfoldable pub report_numbers : List ℕ → List ℕ
report_numbers report = words_from 12 report

-- the bytes of numbers
unfoldable pub number_bytes : List ℕ → List ℕ
number_bytes [] = []
number_bytes (n ∷ ns) = le_bytes 8 n ++ number_bytes ns

-- the logs that a report takes ("17 when a 65,536th log is fed")
abbrev pub most_logs : ℕ
most_logs = 65535

-- the most frames of one log: 4,681 headers in each of 4,096 blocks; the most bytes of data: those of the blocks
abbrev pub most_frames : ℕ
most_frames = 19173376

abbrev pub most_data : ℕ
most_data = 134217728

-- each of the numbers is at most m
unfoldable pub all_within : ℕ → List ℕ → Bool
all_within m xs = list_all (λ x. leb x m) xs

-- no more logs than a report takes, each of the ten counts of frames no more than so many logs can have, and the bytes of data neither
unfoldable pub numbers_arranged : List ℕ → Bool
numbers_arranged ws =
    leb (get_or ws 0 0) most_logs
    && (all_within (get_or ws 0 0 * most_frames) (take 10 (drop 1 ws)) && leb (get_or ws 11 0) (get_or ws 0 0 * most_data))

unfoldable pub report_arranged : List ℕ → Bool
report_arranged report = eqb (length report) report_length && numbers_arranged (report_numbers report)
