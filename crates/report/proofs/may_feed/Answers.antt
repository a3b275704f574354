-- `report::may_feed` meets its contract.
-- Assumes nothing.
use mathlib.Core.Path.{sym, ap, ◌∙◌}
use mathlib.Core.List.{List}
use Prim.Native.Nat.{ℕ}
use lib.ListN.{get_or}
use Rattle.report.proofs.Refusing.{by_log, by_report, by_full, by_none, full_by, room_by_lem, arranged_some, arranged_none}
use Rattle.report.proofs.Left.{answer_log, answer_report, answer_full, answer_none}
use Rattle.report.proofs.may_feed.Goals as goal

pub returns-then-log_refused : goal.returns-then-log_refused
returns-then-log_refused c = answer_log _ _ (by_log _ _ (sym c.log_refused.ensures ∙ c.if-log_refused.true))

pub returns-in_default : goal.returns-in_default
returns-in_default c =
    let n = arranged_none c.args.report.now (sym c.arranged_numbers.ensures ∙ c.in_default.is) in
    answer_report _ _ (by_report _ _ (sym c.log_refused.ensures ∙ c.if-log_refused.false) n)

pub returns-then-numbers-ge-MAX_LOGS : goal.returns-then-numbers-ge-MAX_LOGS
returns-then-numbers-ge-MAX_LOGS c =
    let a = arranged_some c.args.report.now c.in-Some.numbers (sym c.arranged_numbers.ensures ∙ c.in-Some.is) in
    let logs = ap (λ (l : List ℕ). get_or l 0 0) a.numbers in
    answer_full _ _ (by_full _ _ (sym c.log_refused.ensures ∙ c.if-log_refused.false) a.whole (full_by _ _ logs c.if-numbers-ge-MAX_LOGS.true))

pub returns : goal.returns
returns c =
    let a = arranged_some c.args.report.now c.in-Some.numbers (sym c.arranged_numbers.ensures ∙ c.in-Some.is) in
    let logs = ap (λ (l : List ℕ). get_or l 0 0) a.numbers in
    answer_none _ _ (by_none _ _ (sym c.log_refused.ensures ∙ c.if-log_refused.false) a.whole (room_by_lem _ _ logs c.if-numbers-ge-MAX_LOGS.false))
