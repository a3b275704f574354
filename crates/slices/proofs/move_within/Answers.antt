use mathlib.Core.Path.{◌∙◌}
use native.Mathlib.Omega.{arith}
use Rattle.slices.proofs.Put.{within_put}
use Rattle.slices.proofs.move_within.Goals as goal

pub returns : goal.returns
returns g c = c.copy_within.ensures.after ∙ within_put _ _ _ _ (omega arith)
