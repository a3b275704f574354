-- `mrecordlog::byte_planes::mrecordlog_from_planes` meets its contract.
-- Assumes nothing.
use mathlib.Core.Path.{ap, ◌∙◌}
use Rattle.planes.specs.Step.{planes_number}
use Rattle.mrecordlog.proofs.byte_planes.mrecordlog_from_planes.Goals as goal

pub returns : goal.returns
returns c =
    (c.number.ensures ∙ ap planes_number c.from_planes.ensures.0, c.from_planes.ensures.1)
