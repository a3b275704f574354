-- `drive_commands::operands::number_in` meets its contract.
-- Assumes nothing.
use Rattle.drive_commands.specs.Commands.{number_in}
use borrow.Author.Rules.{rules}
use Rattle.drive_commands.proofs.operands.number_in.Goals as goal

pub returns : goal.returns
unfolding number_in
returns c = search rules
