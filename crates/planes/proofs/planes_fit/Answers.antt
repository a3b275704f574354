-- `planes::planes_fit` meets its contract.
-- Assumes nothing.
use Rattle.std.proofs.Common.{arith}
use Rattle.std.proofs.lemmas.Grind.{common_steps}
use Rattle.planes.specs.Step.{planes_fit}
use Rattle.planes.proofs.planes_fit.Goals as goal

pub returns-then-payload-width-eq0 : goal.returns-then-payload-width-eq0
unfolding planes_fit
returns-then-payload-width-eq0 c = grind (arith, common_steps)

pub returns-else-payload-width-eq0 : goal.returns-else-payload-width-eq0
unfolding planes_fit
returns-else-payload-width-eq0 c = grind (arith, common_steps)
