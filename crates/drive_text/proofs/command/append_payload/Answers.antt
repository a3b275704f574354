-- `drive_text::command::append_payload` meets its contract.
-- Assumes nothing.
use Rattle.drive_text.proofs.Asked.{appends}
use Rattle.drive_commands.specs.Commands.{payload_in}
use Rattle.drive_text.proofs.command.append_payload.Goals as goal

pub returns-clause-kept : goal.returns-clause-kept
unfolding payload_in
returns-clause-kept c = appends c.at_position.ensures c.append.ensures.kept
