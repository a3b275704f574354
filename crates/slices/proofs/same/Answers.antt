use mathlib.Core.Path.{◌∙◌}
use Rattle.slices.proofs.Equal.{same_by_eq}
use Rattle.slices.proofs.same.Goals as goal

pub returns : goal.returns
returns c = c.eq.ensures ∙ same_by_eq _ _
