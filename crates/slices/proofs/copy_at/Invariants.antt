-- `slices::copy_at` meets its contract. Invariant: the first i elements are stored.
-- Assumes nothing.
use Rattle.slices.proofs.Stored.{Stored}
use Rattle.slices.proofs.copy_at.Given as goal

abbrev pub invariant-loop-i : goal.invariant-loop-i
invariant-loop-i g l = Stored l.initial.dst l.at l.src l.dst l.i
