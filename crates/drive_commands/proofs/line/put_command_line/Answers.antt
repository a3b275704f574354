-- `drive_commands::line::put_command_line` meets its contract.
-- Assumes nothing.
use Rattle.drive_commands.proofs.Pieces.{done_on, refused_on}
use Rattle.drive_commands.proofs.line.put_command_line.Goals as goal

pub returns-in-Ok-clause-puts : goal.returns-in-Ok-clause-puts
returns-in-Ok-clause-puts c = done_on _ _ _ c.in-Ok.is c.put_ok.ensures.puts

pub returns-in-Err-clause-puts : goal.returns-in-Err-clause-puts
returns-in-Err-clause-puts c = refused_on _ _ _ _ c.in-Err.is c.number.ensures c.put_refused.ensures.puts
