use native.Mathlib.Omega.{arith}
use Rattle.slices.proofs.Stored.{start, turn, end}
use Rattle.slices.proofs.copy_at.Goals as goal

pub loop-i-init : goal.loop-i-init
loop-i-init g c = start _ _ _

pub loop-i-preserved : goal.loop-i-preserved
loop-i-preserved g c = turn _ _ _ _ _ _ _ (omega arith) (omega arith) c.index-src-i.is c.loop-i.invariant

pub returns : goal.returns
returns g c = end _ _ _ _ _ (omega arith) c.loop-i.invariant
