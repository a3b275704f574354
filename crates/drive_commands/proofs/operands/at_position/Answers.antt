-- `drive_commands::operands::at_position` meets its contract.
-- Assumes nothing.
use Rattle.std.proofs.Common.{rules}
use Rattle.drive_commands.proofs.Widths.{named}
use Rattle.drive_commands.proofs.operands.at_position.Goals as goal

pub returns : goal.returns
returns c = named c.number_in-position.result _ c.then_some.result (search rules) c.number_in-position.ensures
