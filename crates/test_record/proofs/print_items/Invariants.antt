-- `test_record::print_items` meets its contract. The measure: how many bytes there are from where the items to come start.
-- Assumes nothing.
use Prim.Native.Nat.{◌+◌, ◌-◌}
use lib.ListN.{length}
use Rattle.test_record.proofs.print_items.Given as goal

abbrev pub invariant-loop-item : goal.invariant-loop-item
invariant-loop-item g l = Unit {0}

abbrev pub decreases-loop-item : goal.decreases-loop-item
decreases-loop-item g l = length l.s + 1 - l.left.start
