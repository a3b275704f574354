use native.Mathlib.Omega.{arith}
use mathlib.Core.Path.{◌≡◌, sym, ◌∙◌}
use Rattle.std.specs.Prelude.{Some, None, length}
use Rattle.std.proofs.Common.{rules}
use Rattle.report_count.proofs.Turns.{start, turn, falls, cells_fit, others_fit, logs_fit, end}
use Rattle.report_count.proofs.count_log.Goals as goal

pub loop-seen-init : goal.loop-seen-init
loop-seen-init c = start _ _ _ _ _ c.requires.0 c.table_of-table.ensures c.others_of-others.ensures c.new-reader.ensures

pub see-requires : goal.see-requires
see-requires c = c.loop-seen.invariant.arranged

pub count_seen-next-requires : goal.count_seen-next-requires
count_seen-next-requires c = cells_fit _ _ _ _ _ c.requires.1 c.loop-seen.invariant

pub overflow_add-numbers : goal.overflow_add-numbers
overflow_add-numbers c = omega (arith, logs_fit _ _ c.requires.1)

pub count_others-others-requires : goal.count_others-others-requires
count_others-others-requires c =
    let is_seen : c.see.result.seen ≡ Some c.in-Some.seen = search rules in
    others_fit _ _ _ _ _ _ c.requires.1 c.loop-seen.invariant (sym c.see.ensures.0 ∙ is_seen)

pub loop-seen-smaller : goal.loop-seen-smaller
loop-seen-smaller c =
    let is_seen : c.see.result.seen ≡ Some c.in-Some.seen = search rules in
    falls _ _ _ _ _ _ _ c.loop-seen.invariant (sym c.see.ensures.0 ∙ is_seen) c.see.ensures.1

pub loop-seen-preserved : goal.loop-seen-preserved
loop-seen-preserved c =
    let is_seen : c.see.result.seen ≡ Some c.in-Some.seen = search rules in
    turn _ _ _ _ _ _ _ _ _ c.loop-seen.invariant (sym c.see.ensures.0 ∙ is_seen) c.count_seen-next.ensures c.count_others-others.ensures c.see.ensures.1

pub returns : goal.returns
returns c =
    let twelve : length c.args.numbers.now ≡ 12 = search rules in
    let ended : c.see.result.seen ≡ None = search rules in
    c.numbers_of.ensures ∙ end _ _ _ _ _ twelve c.loop-seen.invariant (sym c.see.ensures.0 ∙ ended)
