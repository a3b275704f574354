use mathlib.Core.Path.{◌∙◌}
use Rattle.slices.proofs.Ordered.{order_by_cmp}
use Rattle.slices.proofs.compare_all.Goals as goal

pub returns : goal.returns
returns c = c.cmp.ensures ∙ order_by_cmp _ _
