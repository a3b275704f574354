-- `drive_commands::line::put_refused` meets its contract.
-- Assumes nothing.
use Rattle.drive_commands.proofs.Pieces.{refusal_on}
use Rattle.drive_commands.proofs.line.put_refused.Goals as goal

pub returns-clause-puts : goal.returns-clause-puts
returns-clause-puts c = refusal_on _ c.put_number_line.ensures.puts
