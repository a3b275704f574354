-- `drive_commands::line::put_ok` meets its contract.
-- Assumes nothing.
use Rattle.drive_commands.proofs.Pieces.{ok_on}
use Rattle.drive_commands.proofs.line.put_ok.Goals as goal

pub returns-clause-puts : goal.returns-clause-puts
returns-clause-puts c = ok_on _ _ c.put_bytes.ensures.puts c.put_told.ensures.puts c.put_numbered.ensures.puts c.put_number_line.ensures.puts
