-- Claim.
-- What is claimed of the text for a report; each is proved in proofs/ under the same name in snake case.
-- Assumes nothing.
use Rattle.std.specs.Prelude.{Some, None, Ok, ◌≡◌, List, [], ◌∷◌, ℕ, ◌≤◌, length}
use Rattle.listing.specs.Writing.{listed}
use Rattle.report.specs.Feed.{mean}
use Rattle.report_text.specs.Text.{row_line, full_word, mean_line, refused_line, report_text}

-- a buffer of 1,024 bytes has room for the text of every report: the answer is never that there is no room
abbrev pub ReportShort : Type 0
ReportShort = (report : List ℕ) → length (report_text report) ≤ 1024

abbrev pub ReportRoom : Type 0
ReportRoom = (report : List ℕ) (room : ℕ) → 1024 ≤ room → listed room (length (report_text report)) ≡ Some (length (report_text report))

-- some lines, letter by letter
pub record TextExamples : Type 0 where
  -- "full right 12 wrong 0"
  pub row : row_line full_word 12 0 ≡ 102 ∷ 117 ∷ 108 ∷ 108 ∷ 32 ∷ 114 ∷ 105 ∷ 103 ∷ 104 ∷ 116 ∷ 32 ∷ 49 ∷ 50 ∷ 32 ∷ 119 ∷ 114 ∷ 111 ∷ 110 ∷ 103 ∷ 32 ∷ 48 ∷ 10 ∷ []
  -- "mean 237 remainder 0 over 3"
  pub some : mean_line (Ok (mean 237 0 3)) ≡ 109 ∷ 101 ∷ 97 ∷ 110 ∷ 32 ∷ 50 ∷ 51 ∷ 55 ∷ 32 ∷ 114 ∷ 101 ∷ 109 ∷ 97 ∷ 105 ∷ 110 ∷ 100 ∷ 101 ∷ 114 ∷ 32 ∷ 48 ∷ 32 ∷ 111 ∷ 118 ∷ 101 ∷ 114 ∷ 32 ∷ 51 ∷ 10 ∷ []
  -- "mean none"
  pub none : mean_line (Ok None) ≡ 109 ∷ 101 ∷ 97 ∷ 110 ∷ 32 ∷ 110 ∷ 111 ∷ 110 ∷ 101 ∷ 10 ∷ []
  -- "refused 17 a.bin"
  pub card : refused_line 17 (97 ∷ 46 ∷ 98 ∷ 105 ∷ 110 ∷ []) ≡ 114 ∷ 101 ∷ 102 ∷ 117 ∷ 115 ∷ 101 ∷ 100 ∷ 32 ∷ 49 ∷ 55 ∷ 32 ∷ 97 ∷ 46 ∷ 98 ∷ 105 ∷ 110 ∷ 10 ∷ []
