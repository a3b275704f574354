-- `planes::to_planes` meets its contract.
-- Assumes nothing.
use mathlib.Core.Path.{sym, ◌∙◌}
use Rattle.planes.proofs.Fits.{tested, no_step_lem, step}
use Rattle.planes.proofs.to_planes.Goals as goal

pub returns-then-not-planes_fit : goal.returns-then-not-planes_fit
returns-then-not-planes_fit c = no_step_lem _ _ _ (sym c.planes_fit.ensures ∙ c.if-not-planes_fit.true)

pub nonzero_div-payload : goal.nonzero_div-payload
nonzero_div-payload c = (tested _ _ _ _ c.planes_fit.ensures c.if-not-planes_fit.false).some

pub cross-requires : goal.cross-requires
cross-requires c =
    let f = tested _ _ _ _ c.planes_fit.ensures c.if-not-planes_fit.false in
    (f.columns, f.long ∙ f.columns)

pub returns : goal.returns
returns c = step _ _ _ _ (sym c.planes_fit.ensures ∙ c.if-not-planes_fit.false) c.cross.ensures
