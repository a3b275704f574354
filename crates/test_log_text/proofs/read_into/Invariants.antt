-- Each read leaves an arranged reader.
use Rattle.frame.specs.Internal.{Arranged}
use Rattle.test_log_text.proofs.read_into.Given as goal

abbrev pub invariant-loop-count : goal.invariant-loop-count
invariant-loop-count l = Arranged l.log l.reader
