-- What a feeding is refused by, from its tests; and what is known where it is not refused.
-- Assumes nothing.
use mathlib.Core.Path.{◌≡◌, refl, sym, ap, ap₂, ◌∙◌}
use mathlib.Core.Bool.{Bool, true, false, not, cond}
use mathlib.Core.List.{List}
use Prim.Native.Nat.{ℕ, ◌≤◌, ◌<◌}
use native.Mathlib.Omega.{arith}
use lib.Dec.{leb, eqb}
use lib.ListN.{length, get_or}
use borrow.Author.Tests.{leb-false, le-leb, lt-leb, eqb-true, not-false}
use Rattle.calls.specs.Refusals.{refuse_if, first_refusal, log_refused}
use Rattle.calls.proofs.Chain.{rising_above, none_applies}
use Rattle.calls.proofs.Passed.{LogTaken, log_taken}
use Rattle.queues.proofs.Both.{and_left, and_right}
use Rattle.abi_queues.proofs.Laws.{length-words_from}
use Rattle.std.specs.Prelude.{Some, None}
use Rattle.report.specs.Layout.{report_numbers, most_logs, numbers_arranged, report_arranged}
use Rattle.report.specs.Internal.{NumbersOk, arranged_numbers}
use Rattle.report.specs.Feed.{feed_refusals, feed_refusal}
use Rattle.report.proofs.Bounds.{numbers_ok, ok_small}

pub length-numbers : (report : List ℕ) → length (report_numbers report) ≡ 12
unfolding report_numbers
length-numbers report = length-words_from 12 report

pub feed_rises : (report log : List ℕ) → rising_above 0 (feed_refusals report log) ≡ true
unfolding feed_refusals rising_above
feed_rises report log = refl

-- the three tests
pub refusal_is : (report log : List ℕ)
    → feed_refusal report log ≡ refuse_if (log_refused log) 1 (refuse_if (not (report_arranged report)) 6 (refuse_if (leb most_logs (get_or (report_numbers report) 0 0)) 17 0))
unfolding feed_refusals first_refusal
refusal_is report log = refl

pub by_tests : (report log : List ℕ) (a b c : Bool) → log_refused log ≡ a → not (report_arranged report) ≡ b → leb most_logs (get_or (report_numbers report) 0 0) ≡ c
    → refuse_if a 1 (refuse_if b 6 (refuse_if c 17 0)) ≡ feed_refusal report log
by_tests report log a b c ea eb ec =
    sym (refusal_is report log ∙ ap₂ (λ (a b : Bool). refuse_if a 1 (refuse_if b 6 (refuse_if (leb most_logs (get_or (report_numbers report) 0 0)) 17 0))) ea eb
    ∙ ap (λ (c : Bool). refuse_if a 1 (refuse_if b 6 (refuse_if c 17 0))) ec)

pub by_log : (report log : List ℕ) → log_refused log ≡ true → 1 ≡ feed_refusal report log
unfolding refuse_if
by_log report log e = by_tests report log true _ _ e refl refl

pub by_report : (report log : List ℕ) → log_refused log ≡ false → report_arranged report ≡ false → 6 ≡ feed_refusal report log
unfolding refuse_if
by_report report log e f = by_tests report log false true _ e (ap not f) refl

pub by_full : (report log : List ℕ) → log_refused log ≡ false → report_arranged report ≡ true → leb most_logs (get_or (report_numbers report) 0 0) ≡ true
    → 17 ≡ feed_refusal report log
unfolding refuse_if
by_full report log e f g = by_tests report log false false true e (ap not f) g

pub by_none : (report log : List ℕ) → log_refused log ≡ false → report_arranged report ≡ true → leb most_logs (get_or (report_numbers report) 0 0) ≡ false
    → 0 ≡ feed_refusal report log
unfolding refuse_if
by_none report log e f g = by_tests report log false false false e (ap not f) g

-- an arranged report
pub record ReportOk (report : List ℕ) : Type 0 where
  pub long : length report ≡ 96
  pub numbers : NumbersOk (report_numbers report)

pub report_ok : (report : List ℕ) → report_arranged report ≡ true → ReportOk report
unfolding report_arranged
report_ok report h = record {
  long = eqb-true (length report) 96 (and_left (eqb (length report) 96) (numbers_arranged (report_numbers report)) h);
  numbers = numbers_ok (report_numbers report) (and_right (eqb (length report) 96) (numbers_arranged (report_numbers report)) h);
}

-- a feeding that is not refused
pub record FeedPassed (report log : List ℕ) : Type 0 where
  pub sized : LogTaken log
  pub ok : ReportOk report
  pub room : get_or (report_numbers report) 0 0 < most_logs

pub feed_passed : (report log : List ℕ) → feed_refusal report log ≡ 0 → FeedPassed report log
unfolding feed_refusals
feed_passed report log e =
    let w = none_applies 0 (feed_refusals report log) (feed_rises report log) e in
    record {
      sized = log_taken log w.0;
      ok = report_ok report (not-false (report_arranged report) w.1.0);
      room = omega (arith, leb-false most_logs (get_or (report_numbers report) 0 0) w.1.1.0);
    }

-- the numbers of a report that is arranged, and that there are none
pub record Arranged (report ns : List ℕ) : Type 0 where
  pub whole : report_arranged report ≡ true
  pub numbers : ns ≡ report_numbers report
  pub arranged : numbers_arranged ns ≡ true

pub arranged_some : (report ns : List ℕ) → arranged_numbers report ≡ Some ns → Arranged report ns
unfolding arranged_numbers report_arranged
arranged_some report ns e = go (report_arranged report) refl e
  where
    go : (b : Bool) → report_arranged report ≡ b → cond b (Some (report_numbers report)) None ≡ Some ns → Arranged report ns
    go true a f =
        let n : ns ≡ report_numbers report = cc in
        record {
          whole = a;
          numbers = n;
          arranged = ap numbers_arranged n ∙ and_right (eqb (length report) 96) (numbers_arranged (report_numbers report)) a;
        }
    go false a f = absurd (let z : ◌≡◌ {A = ℕ} 0 1 = cc in omega arith)

pub arranged_none : (report : List ℕ) → arranged_numbers report ≡ None → report_arranged report ≡ false
unfolding arranged_numbers
arranged_none report e = go (report_arranged report) e
  where
    go : (b : Bool) → cond b (Some (report_numbers report)) None ≡ None → b ≡ false
    go true f = absurd (let z : ◌≡◌ {A = ℕ} 0 1 = cc in omega arith)
    go false f = refl

pub numbers_small : (ws : List ℕ) → length ws ≡ 12 → numbers_arranged ws ≡ true → (i : ℕ) → get_or ws i 0 ≤ 8796093022208
numbers_small ws l a i = ok_small ws l (numbers_ok ws a) i

pub full_by : (n m : ℕ) → n ≡ m → most_logs ≤ n → leb most_logs m ≡ true
full_by n m e h = le-leb most_logs m (omega arith)

pub room_by_lem : (n m : ℕ) → n ≡ m → n < most_logs → leb most_logs m ≡ false
room_by_lem n m e h = lt-leb most_logs m (omega arith)
