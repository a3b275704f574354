-- `drive_commands::operands::name_len` meets its contract.
-- Assumes nothing.
use Rattle.std.proofs.Common.{length}
use Rattle.drive_commands.proofs.Names.{Cut}
use Rattle.drive_commands.proofs.operands.name_len.Given as goal

abbrev pub invariant-loop-last : goal.invariant-loop-last
invariant-loop-last l = Cut l.operands l.name

abbrev pub decreases-loop-last : goal.decreases-loop-last
decreases-loop-last l = length l.name
