-- `planes::cross` meets its contract. Invariant: the first j runs are stored.
-- Assumes nothing.
use Rattle.planes.proofs.Crossing.{Crossing}
use Rattle.planes.proofs.cross.Given as goal

abbrev pub invariant-loop-j : goal.invariant-loop-j
invariant-loop-j l = Crossing l.initial.dst l.m l.n l.src l.dst l.j
