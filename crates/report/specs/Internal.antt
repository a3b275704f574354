-- Helper: for proofs; no promise rests on reading it.
-- The numbers of an arranged report, and what they are, number by number.
-- Assumes nothing.
use Rattle.std.specs.Prelude.{Option, Some, None, cond, List, ℕ, suc, ◌*◌, ◌≤◌, ◌<◌, get_or}
use Rattle.report.specs.Layout.{report_numbers, report_arranged, most_logs, most_frames, most_data}

-- none where the report is not arranged
unfoldable pub arranged_numbers : List ℕ → Option (List ℕ)
arranged_numbers report = cond (report_arranged report) (Some (report_numbers report)) None

pub record NumbersOk (ws : List ℕ) : Type 0 where
  pub logs : get_or ws 0 0 ≤ most_logs
  pub frames : (i : ℕ) → i < 10 → get_or ws (suc i) 0 ≤ get_or ws 0 0 * most_frames
  pub bytes : get_or ws 11 0 ≤ get_or ws 0 0 * most_data
