-- `report_count::count_log` meets its contract.
-- Assumes nothing.
use Rattle.frame.specs.Reader.{ahead}
use Rattle.report_count.proofs.Turns.{Counting}
use Rattle.report_count.proofs.count_log.Given as goal

abbrev pub invariant-loop-seen : goal.invariant-loop-seen
invariant-loop-seen l = Counting l.numbers l.log l.table l.others l.reader

abbrev pub decreases-loop-seen : goal.decreases-loop-seen
decreases-loop-seen l = ahead l.log l.reader
