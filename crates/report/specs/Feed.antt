-- Definition (02, Ticket 12).
-- What feeding a log refuses, answers and leaves, and the mean.
-- Assumes nothing.
use Rattle.std.specs.Prelude.{Option, Some, None, Result, Ok, Err, eqb, cond, not, List, [], ◌∷◌, ℕ, zero, suc, ◌+◌, ◌/◌, ◌%◌, leb, get_or}
use Rattle.calls.specs.Refusals.{Refusal, refuse, first_refusal, log_refused}
use Rattle.report_frames.specs.Seen.{frames_read}
use Rattle.report_frames.specs.Tally.{tally}
use Rattle.report_count.specs.Sums.{plus}
use Rattle.report.specs.declared.ReportRefusal.{ReportRefusal}
use Rattle.report.specs.declared.ReportRefusal.TheVariants.{LogSize as log_size, NotArranged as not_arranged, ReportFull as report_full}
use Rattle.report.specs.declared.MeanLength.{MeanLength}
use Rattle.report.specs.Layout.{report_numbers, number_bytes, most_logs, report_arranged}

-- ---- feeding

-- 1 asks about the log; "A report that isn't as docs/LAYOUT.md defines is 6"; "17 when a 65,536th log is fed, refused ones not counted"
unfoldable pub feed_refusals : List ℕ → List ℕ → List Refusal
feed_refusals report log =
    refuse 1 (log_refused log)
    ∷ refuse 6 (not (report_arranged report))
    ∷ refuse 17 (leb most_logs (get_or (report_numbers report) 0 0))
    ∷ []

-- "Lowest number first, where several apply."
abbrev pub feed_refusal : List ℕ → List ℕ → ℕ
feed_refusal report log = first_refusal (feed_refusals report log)

-- the number of a refusal, and the refusal of a number; a feeding meets 1, 6 and 17 alone (ReportMeets)
unfoldable pub refusal_number : ReportRefusal → ℕ
refusal_number log_size = 1
refusal_number not_arranged = 6
refusal_number report_full = 17

unfoldable pub refusal_of : ℕ → ReportRefusal
refusal_of n = cond (eqb n 1) log_size (cond (eqb n 6) not_arranged report_full)

-- what feeding answers: fed, or why not
abbrev pub FeedAnswer : Type 0
FeedAnswer = Result (Unit {0}) ReportRefusal

unfoldable pub feed_answer_by : ℕ → FeedAnswer
feed_answer_by zero = Ok tt
feed_answer_by (suc n) = Err (refusal_of (suc n))

unfoldable pub feed_answer : List ℕ → List ℕ → FeedAnswer
feed_answer report log = feed_answer_by (feed_refusal report log)

-- the report with this log counted in
unfoldable pub fed_report : List ℕ → List ℕ → List ℕ
fed_report report log = number_bytes (plus (report_numbers report) (tally (frames_read log)))

-- "every refusal leaves the report unchanged"
unfoldable pub feed_left_by : ℕ → List ℕ → List ℕ → List ℕ
feed_left_by zero report log = fed_report report log
feed_left_by (suc n) report log = report

unfoldable pub feed_left : List ℕ → List ℕ → List ℕ
feed_left report log = feed_left_by (feed_refusal report log) report log

-- an answer's number: 0 where nothing is refused
unfoldable pub feed_number : FeedAnswer → ℕ
feed_number (Ok u) = 0
feed_number (Err e) = refusal_number e

-- ---- the mean

-- "the mean data length of sound frames as a whole number and a remainder over their count, or "none" when there are none": of so many frames, with so many
-- bytes of data in all
abbrev pub mean : ℕ → ℕ → ℕ → Option MeanLength
mean w r n = Some (record { whole = w; remainder = r; count = n })

unfoldable pub mean_of : ℕ → ℕ → Option MeanLength
mean_of zero bytes = None
mean_of (suc n) bytes = mean (bytes / suc n) (bytes % suc n) (suc n)

-- the sound frames that a report's numbers count
unfoldable pub sound_frames : List ℕ → ℕ
sound_frames ws = get_or ws 1 0 + get_or ws 3 0 + get_or ws 5 0 + get_or ws 7 0

-- what the mean is answered as: the mean, that there are no sound frames, or why it is refused
abbrev pub MeanAnswer : Type 0
MeanAnswer = Result (Option MeanLength) ReportRefusal

unfoldable pub mean_answer : List ℕ → MeanAnswer
mean_answer report = cond (report_arranged report) (Ok (mean_of (sound_frames (report_numbers report)) (get_or (report_numbers report) 11 0))) (Err not_arranged)
