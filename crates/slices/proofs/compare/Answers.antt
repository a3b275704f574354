-- `slices::compare` meets its contract.
-- Assumes nothing.
use Rattle.slices.proofs.Ordered.{first_below, first_above}
use Rattle.slices.proofs.compare.Goals as goal

pub returns-then-a-b : goal.returns-then-a-b
returns-then-a-b c = first_below _ _ c.if-a-gt0.true c.if-b-gt0.true c.if-a-b.true

pub returns-then-b-a : goal.returns-then-b-a
returns-then-b-a c = first_above _ _ c.if-a-gt0.true c.if-b-gt0.true c.if-b-a.true
