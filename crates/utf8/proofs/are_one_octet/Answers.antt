use mathlib.Core.Path.{sym, ◌∙◌}
use native.Mathlib.Omega.{arith}
use Rattle.utf8.proofs.OneOctet.{next_octet, no_more}
use Rattle.utf8.proofs.are_one_octet.Goals as goal

pub loop-b-preserved : goal.loop-b-preserved
loop-b-preserved c = (omega arith, next_octet c.loop-b.all c.loop-b.b-index c.args.s.now (omega arith) ∙ c.loop-b.invariant.1)

pub returns : goal.returns
returns c = sym (no_more c.loop-b.all c.loop-b.b-index c.args.s.now (omega arith)) ∙ c.loop-b.invariant.1
