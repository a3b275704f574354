-- `report::mean_of` meets its contract.
-- Assumes nothing.
use Rattle.report.proofs.Left.{mean_some}
use Rattle.report.proofs.Left.{mean_none}
use Rattle.report.proofs.mean_of.Goals as goal

pub returns-then-frames-eq0 : goal.returns-then-frames-eq0
returns-then-frames-eq0 c = mean_none _ _ c.if-frames-eq0.true

pub returns : goal.returns
returns c = mean_some _ _ c.if-frames-eq0.false
