-- Claim.
-- What is claimed of a report over a box of cards; each is proved in proofs/ under the same name in snake case.
-- Assumes nothing.
use Rattle.std.specs.Prelude.{None, Ok, ◌≡◌, ◌⊎◌, Bool, true, false, cond, List, [], ◌∷◌, ℕ, zero, suc, ◌+◌, ◌≤◌, ◌<◌, ◌^◌, leb, length, get_or, take, replicate}
use Rattle.slices.specs.Bytes.{zeros}
use Rattle.calls.specs.Refusals.{refuse_if, log_refused}
use Rattle.calls.specs.Claims.{LowestOf}
use Rattle.report_frames.specs.declared.Seen.{Seen}
use Rattle.report_frames.specs.declared.Seen.TheVariants.{Right as right, Wrong as wrong, Unreadable as unreadable, OverLong as over_long}
use Rattle.report_frames.specs.Seen.{frames_read}
use Rattle.report_frames.specs.Tally.{times, data_bytes, tally}
use Rattle.report_count.specs.Sums.{plus}
use Rattle.report.specs.Layout.{report_length, report_numbers, most_logs, numbers_arranged, report_arranged}
use Rattle.report.specs.Feed.{feed_refusals, feed_refusal, feed_left, mean, mean_of, mean_answer}

-- ---- feedings

-- zeros are the empty report
abbrev pub empty_report : List ℕ
empty_report = zeros report_length

-- "each feeding given what the last left"
unfoldable pub feed_all : List ℕ → List (List ℕ) → List ℕ
feed_all report [] = report
feed_all report (log ∷ logs) = feed_all (feed_left report log) logs

-- "the logs not refused": of these, fed to this report one after another, by the number that each feeding gives
unfoldable pub kept_by : ℕ → List ℕ → List (List ℕ) → List (List ℕ)
kept_by zero log kept = log ∷ kept
kept_by (suc n) log kept = kept

unfoldable pub logs_kept : List ℕ → List (List ℕ) → List (List ℕ)
logs_kept report [] = []
logs_kept report (log ∷ logs) = kept_by (feed_refusal report log) log (logs_kept (feed_left report log) logs)

-- the sum of what the reading definition says of each
unfoldable pub sums : List (List ℕ) → List ℕ
sums [] = replicate 12 0
sums (log ∷ logs) = plus (tally (frames_read log)) (sums logs)

-- "From an empty report, each feeding given what the last left, each count equals the sum, over the logs not refused, of what the reading definition says of
-- frames alone (never 11)"
abbrev pub ReportSums : Type 0
ReportSums = (logs : List (List ℕ)) → report_numbers (feed_all empty_report logs) ≡ sums (logs_kept empty_report logs)

-- the logs of 1 to 4,096 blocks
unfoldable pub logs_sized : List (List ℕ) → List (List ℕ)
logs_sized [] = []
logs_sized (log ∷ logs) = cond (log_refused log) (logs_sized logs) (log ∷ logs_sized logs)

-- those are the first 65,535 logs of 1 to 4,096 blocks, and no others
abbrev pub ReportKept : Type 0
ReportKept = (logs : List (List ℕ)) → logs_kept empty_report logs ≡ take most_logs (logs_sized logs)

-- and the log fed after them is refused 1 by its own size, 17 where it would be the 65,536th not refused, and else it is not: 6 never
abbrev pub ReportNext : Type 0
ReportNext = (logs : List (List ℕ)) (log : List ℕ)
    → feed_refusal (feed_all empty_report logs) log ≡ refuse_if (log_refused log) 1 (refuse_if (leb most_logs (length (logs_kept empty_report logs))) 17 0)

-- ---- the mean of the sums

unfoldable pub is_sound : Seen → Bool
is_sound (right t n) = true
is_sound (wrong t) = false
is_sound unreadable = false
is_sound over_long = false

unfoldable pub sound_sum : List (List ℕ) → ℕ
sound_sum [] = 0
sound_sum (log ∷ logs) = times is_sound (frames_read log) + sound_sum logs

unfoldable pub data_sum : List (List ℕ) → ℕ
data_sum [] = 0
data_sum (log ∷ logs) = data_bytes (frames_read log) + data_sum logs

-- "and the mean is that of the sums"
abbrev pub ReportMean : Type 0
ReportMean = (logs : List (List ℕ))
    → mean_answer (feed_all empty_report logs) ≡ Ok (mean_of (sound_sum (logs_kept empty_report logs)) (data_sum (logs_kept empty_report logs)))

-- ---- the layout

-- "an empty one and what a feeding not refused left always are": of every report, whoever made it
pub record ReportArranged : Type 0 where
  pub empty : report_arranged empty_report ≡ true
  pub left : (report log : List ℕ) → feed_refusal report log ≡ 0 → report_arranged (feed_left report log) ≡ true

-- no number of an arranged report can come near 2^64
abbrev pub ReportBound : Type 0
ReportBound = (report : List ℕ) → report_arranged report ≡ true → (i : ℕ) → get_or (report_numbers report) i 0 ≤ 2 ^ 43

-- ---- refusals

abbrev pub ReportLowestFirst : Type 0
ReportLowestFirst = (report log : List ℕ) → LowestOf (feed_refusals report log) (feed_refusal report log)

-- a feeding meets 1, 6 and 17 alone ("never 11")
abbrev pub ReportMeets : Type 0
ReportMeets = (report log : List ℕ)
    → (feed_refusal report log ≡ 0) ⊎ ((feed_refusal report log ≡ 1) ⊎ ((feed_refusal report log ≡ 6) ⊎ (feed_refusal report log ≡ 17)))

-- "every refusal leaves the report unchanged"
abbrev pub ReportRefused : Type 0
ReportRefused = (report log : List ℕ) → 0 < feed_refusal report log → feed_left report log ≡ report

-- ---- small ones, computed

pub record ReportExamples : Type 0 where
  pub none : mean_of 0 0 ≡ None
  pub empty_frames : mean_of 5 0 ≡ mean 0 0 5
  pub some : mean_of 3 711 ≡ mean 237 0 3
  pub rest : mean_of 4 711 ≡ mean 177 3 4
  pub full : numbers_arranged (65535 ∷ 1256527196160 ∷ 0 ∷ 0 ∷ 0 ∷ 0 ∷ 0 ∷ 0 ∷ 0 ∷ 0 ∷ 0 ∷ 8795958804480 ∷ []) ≡ true
  pub logs_over : numbers_arranged (65536 ∷ 0 ∷ 0 ∷ 0 ∷ 0 ∷ 0 ∷ 0 ∷ 0 ∷ 0 ∷ 0 ∷ 0 ∷ 0 ∷ []) ≡ false
  pub first_over : numbers_arranged (1 ∷ 19173377 ∷ 0 ∷ 0 ∷ 0 ∷ 0 ∷ 0 ∷ 0 ∷ 0 ∷ 0 ∷ 0 ∷ 0 ∷ []) ≡ false
  pub last_over : numbers_arranged (1 ∷ 0 ∷ 0 ∷ 0 ∷ 0 ∷ 0 ∷ 0 ∷ 0 ∷ 0 ∷ 0 ∷ 19173377 ∷ 0 ∷ []) ≡ false
  pub data_over : numbers_arranged (1 ∷ 0 ∷ 0 ∷ 0 ∷ 0 ∷ 0 ∷ 0 ∷ 0 ∷ 0 ∷ 0 ∷ 0 ∷ 134217729 ∷ []) ≡ false
  pub no_logs : numbers_arranged (0 ∷ 0 ∷ 0 ∷ 0 ∷ 0 ∷ 0 ∷ 0 ∷ 0 ∷ 0 ∷ 0 ∷ 1 ∷ 0 ∷ []) ≡ false
