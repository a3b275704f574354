-- `drive_text::run::put_end` meets its contract.
-- Assumes nothing.
use Rattle.drive_text.proofs.Turning.{end_none, end_some}
use Rattle.drive_text.proofs.run.put_end.Goals as goal

pub returns-then-p-input-clause-puts : goal.returns-then-p-input-clause-puts
returns-then-p-input-clause-puts c = end_some _ _ c.if-p-input.true c.put_refused.ensures.puts

pub returns-else-p-input-clause-puts : goal.returns-else-p-input-clause-puts
returns-else-p-input-clause-puts c = end_none _ _ _ _ c.if-p-input.false
