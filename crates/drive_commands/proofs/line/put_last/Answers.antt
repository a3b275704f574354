-- `drive_commands::line::put_last` meets its contract.
-- Assumes nothing.
use Rattle.drive_commands.proofs.Pieces.{nowhere_on, at_on}
use Rattle.drive_commands.proofs.line.put_last.Goals as goal

pub returns-in-None-clause-puts : goal.returns-in-None-clause-puts
returns-in-None-clause-puts c = nowhere_on _ c.in-None.is c.put_bytes.ensures.puts

pub returns-in-Some-clause-puts : goal.returns-in-Some-clause-puts
returns-in-Some-clause-puts c = at_on _ _ c.in-Some.is c.put_numbered.ensures.puts
