-- The claims.
-- Assumes nothing.
use mathlib.Core.Path.{◌≡◌, refl, sym, ap, ap₂, subst, ◌∙◌}
use mathlib.Core.Logic.{◌⊎◌, inl, inr}
use mathlib.Core.Bool.{Bool, true, false, cond, not}
use mathlib.Core.List.{List}
use Prim.Native.Nat.{ℕ, zero, suc, ◌-◌}
use native.Mathlib.Omega.{arith}
use lib.Dec.{leb}
use lib.ListN.{length, get_or, take, replicate}
use Rattle.fields.specs.Le.{le}
use Rattle.calls.specs.Refusals.{refuse_if, log_refused}
use Rattle.calls.proofs.Chain.{lowest_of}
use Rattle.abi_queues.specs.Words.{words_from}
use Rattle.report_count.specs.Sums.{plus}
use Rattle.std.specs.Prelude.{Ok, Err}
use Rattle.report.specs.declared.ReportRefusal.TheVariants.{NotArranged as not_arranged}
use Rattle.report.specs.Layout.{report_numbers, most_logs, all_within, numbers_arranged, report_arranged}
use Rattle.report.specs.Feed.{feed_refusals, feed_refusal, feed_left, mean_of, sound_frames, mean_answer}
use Rattle.report.specs.Claims.{empty_report, feed_all, logs_kept, sums, logs_sized}
use Rattle.report.specs.Claims.{ReportSums, ReportKept, ReportNext, ReportMean, ReportArranged, ReportBound, ReportLowestFirst, ReportMeets, ReportRefused, ReportExamples}
use Rattle.report.proofs.Bounds.{ok_small}
use Rattle.report.proofs.Refusing.{length-numbers, feed_rises, refusal_is, report_ok, feed_passed}
use Rattle.report.proofs.Left.{left-fed, left_kept, fed_arranged}
use Rattle.report.proofs.Sums.{zeros-left, length-sums, fed-sums, all_arranged, kept_are, sums_logs, sums_data, sums_sound}

empty_numbers : report_numbers empty_report ≡ replicate 12 0
unfolding report_numbers words_from le
empty_numbers = refl

empty_arranged : report_arranged empty_report ≡ true
unfolding report_arranged numbers_arranged all_within report_numbers words_from le
empty_arranged = refl

pub report_sums : ReportSums
report_sums logs =
    fed-sums empty_report logs
    ∙ ap (λ (ws : List ℕ). plus ws (sums (logs_kept empty_report logs))) empty_numbers
    ∙ zeros-left 12 (sums (logs_kept empty_report logs)) (length-sums (logs_kept empty_report logs))

pub report_kept : ReportKept
report_kept logs =
    kept_are empty_report logs empty_arranged
    ∙ ap (λ (ws : List ℕ). take (most_logs - get_or ws 0 0) (logs_sized logs)) empty_numbers

pub report_next : ReportNext
unfolding refuse_if
report_next logs log =
    refusal_is (feed_all empty_report logs) log
    ∙ ap₂ (λ (a : Bool) (n : ℕ). refuse_if (log_refused log) 1 (refuse_if (not a) 6 (refuse_if (leb most_logs n) 17 0)))
    (all_arranged empty_report logs empty_arranged)
    (ap (λ (ws : List ℕ). get_or ws 0 0) (report_sums logs) ∙ sums_logs (logs_kept empty_report logs))
    ∙ not_six (leb most_logs (length (logs_kept empty_report logs)))
  where
    not_six : (b : Bool) → refuse_if (log_refused log) 1 (refuse_if false 6 (refuse_if b 17 0)) ≡ refuse_if (log_refused log) 1 (refuse_if b 17 0)
    not_six b = refl

pub report_mean : ReportMean
unfolding mean_answer
report_mean logs =
    ap (λ (a : Bool). cond a (Ok (mean_of (sound_frames (report_numbers (feed_all empty_report logs))) (get_or (report_numbers (feed_all empty_report logs)) 11 0))) (Err not_arranged))
    (all_arranged empty_report logs empty_arranged)
    ∙ ap (λ (ws : List ℕ). Ok (mean_of (sound_frames ws) (get_or ws 11 0))) (report_sums logs)
    ∙ ap₂ (λ (n m : ℕ). Ok (mean_of n m)) (sums_sound (logs_kept empty_report logs)) (sums_data (logs_kept empty_report logs))

pub report_arranged_lem : ReportArranged
report_arranged_lem = record {
  empty = empty_arranged;
  left = λ report log e. ap report_arranged (left-fed report log e) ∙ fed_arranged report log (feed_passed report log e);
}

pub report_bound : ReportBound
report_bound report a i = ok_small (report_numbers report) (length-numbers report) (report_ok report a).numbers i

pub report_lowest_first : ReportLowestFirst
report_lowest_first report log = lowest_of 0 (feed_refusals report log) (feed_rises report log)

abbrev Met : ℕ → Type 0
Met n = (n ≡ 0) ⊎ ((n ≡ 1) ⊎ ((n ≡ 6) ⊎ (n ≡ 17)))

meets_on : (a b c : Bool) → Met (refuse_if a 1 (refuse_if b 6 (refuse_if c 17 0)))
unfolding refuse_if
meets_on true b c = inr (inl refl)
meets_on false true c = inr (inr (inl refl))
meets_on false false true = inr (inr (inr refl))
meets_on false false false = inl refl

pub report_meets : ReportMeets
report_meets report log =
    subst Met (sym (refusal_is report log)) (meets_on (log_refused log) (not (report_arranged report)) (leb most_logs (get_or (report_numbers report) 0 0)))

pub report_refused : ReportRefused
report_refused report log h = go (feed_refusal report log) refl
  where
    go : (n : ℕ) → feed_refusal report log ≡ n → feed_left report log ≡ report
    go zero e = absurd (omega arith)
    go (suc n) e = left_kept report log n e

pub report_examples : ReportExamples
unfolding mean_of numbers_arranged all_within
report_examples = record {
  none = refl;
  empty_frames = refl;
  some = refl;
  rest = refl;
  full = refl;
  logs_over = refl;
  first_over = refl;
  last_over = refl;
  data_over = refl;
  no_logs = refl;
}
