-- `report_count::count_row` meets its contract.
-- Assumes nothing.
use mathlib.Core.Path.{refl, ◌∙◌}
use mathlib.Core.Bool.{true, false}
use Rattle.report_count.proofs.Cells.{cell_fits, counted_at}
use Rattle.report_count.proofs.count_row.Goals as goal

pub count_at-requires : goal.count_at-requires
count_at-requires c = cell_fits _ _ _ true refl c.requires.1 c.requires.0

pub count_at-requires-else-right : goal.count_at-requires-else-right
count_at-requires-else-right c = cell_fits _ _ _ false refl c.requires.1 c.requires.0

pub returns-then-right : goal.returns-then-right
returns-then-right c = c.count_at.ensures ∙ counted_at c.args.table c.args.k 0 true _ refl c.if-right.true

pub returns-else-right : goal.returns-else-right
returns-else-right c = c.count_at-else-right.ensures ∙ counted_at c.args.table c.args.k 1 false _ refl c.if-right.false
