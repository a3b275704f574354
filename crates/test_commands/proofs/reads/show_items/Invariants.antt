-- `test_commands::reads::show_items` is safe and ends. The measure: how many bytes there are from where the items to come start.
-- Assumes nothing.
use Rattle.std.proofs.Common.{◌+◌, ◌-◌, length}
use Rattle.test_commands.proofs.reads.show_items.Given as goal

abbrev pub invariant-loop-item : goal.invariant-loop-item
invariant-loop-item l = Unit {0}

abbrev pub decreases-loop-item : goal.decreases-loop-item
decreases-loop-item l = length l.s + 1 - l.left.start
