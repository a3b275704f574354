-- `mrecordlog::byte_planes::mrecordlog_to_planes` meets its contract.
-- Assumes nothing.
use mathlib.Core.Path.{ap, ◌∙◌}
use Rattle.planes.specs.Step.{planes_number}
use Rattle.mrecordlog.proofs.byte_planes.mrecordlog_to_planes.Goals as goal

pub returns : goal.returns
returns c =
    (c.number.ensures ∙ ap planes_number c.to_planes.ensures.0, c.to_planes.ensures.1)
