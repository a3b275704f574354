-- `planes::gather` meets its contract. Invariant: the first i bytes of the run are stored.
-- Assumes nothing.
use Rattle.slices.proofs.Stored.{Stored}
use Rattle.planes.specs.Planes.{every}
use Rattle.planes.proofs.gather.Given as goal

abbrev pub invariant-loop-i : goal.invariant-loop-i
invariant-loop-i l = Stored l.initial.dst l.at (every l.step l.n l.from l.src) l.dst l.i
