-- `drive_commands::line::put_told` meets its contract.
-- Assumes nothing.
use Rattle.drive_commands.proofs.Pieces.{append_told, truncate_told, none_told}
use Rattle.drive_commands.proofs.line.put_told.Goals as goal

pub returns-in-Append-clause-puts : goal.returns-in-Append-clause-puts
returns-in-Append-clause-puts c = append_told _ _ c.in-Append.is c.put_last.ensures.puts

pub returns-in-Truncate-clause-puts : goal.returns-in-Truncate-clause-puts
returns-in-Truncate-clause-puts c = truncate_told _ _ c.in-Truncate.is c.put_numbered.ensures.puts

pub returns-in_default-clause-puts : goal.returns-in_default-clause-puts
returns-in_default-clause-puts c = none_told _ _ _ _ c.in_default.not-Append c.in_default.not-Truncate
