-- `utf8::is_utf8` meets its contract. The loop's invariant: the bytes that are left are UTF-8 where all of them are.
-- Assumes nothing.
use mathlib.Core.Path.{◌≡◌}
use lib.ListN.{length}
use Rattle.utf8.specs.Utf8.{utf8}
use Rattle.utf8.proofs.is_utf8.Given as goal

abbrev pub invariant-loop-eight : goal.invariant-loop-eight
invariant-loop-eight l = utf8 l.rest ≡ utf8 l.s

abbrev pub decreases-loop-eight : goal.decreases-loop-eight
decreases-loop-eight l = length l.rest
