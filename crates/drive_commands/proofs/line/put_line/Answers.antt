-- `drive_commands::line::put_line` meets its contract: the line of the byte's command, or of a create where no command has the byte.
-- Assumes nothing.
use Rattle.std.proofs.Common.{◌≡◌, subst}
use Rattle.std.specs.Prelude.{Option, IfSome, IfNone}
use Rattle.drive_commands.specs.Commands.{width}
use Rattle.drive_commands.specs.Internal.{byte_of}
use Rattle.drive_commands.specs.declared.Command.{Command}
use Rattle.drive_commands.proofs.Pieces.{known_line, unknown_line}
use Rattle.drive_commands.proofs.line.put_line.Goals as goal

pub returns-in-Some-clause-puts : goal.returns-in-Some-clause-puts
returns-in-Some-clause-puts c =
    known_line _ _ _ (subst (λ (o : Option Command). IfSome o (λ (k : Command). byte_of k ≡ c.args.byte)) c.in-Some.is c.from_byte.ensures.known) c.put_command_line.ensures.puts

pub returns-in-None-clause-puts : goal.returns-in-None-clause-puts
returns-in-None-clause-puts c =
    unknown_line _ _ (subst (λ (o : Option Command). IfNone o (width c.args.byte ≡ 0)) c.in-None.is c.from_byte.ensures.unknown) c.put_command_line-in-None.ensures.puts
