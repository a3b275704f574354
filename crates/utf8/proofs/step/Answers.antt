-- `utf8::step` meets its contract: a byte begins a character, or stands under, over or in the range that is wanted.
-- Assumes nothing.
use mathlib.Core.Path.{sym, ap, ◌∙◌}
use native.Mathlib.Omega.{arith}
use Rattle.utf8.specs.Wanted.{follow}
use Rattle.utf8.proofs.Follows.{after-whole, after_under, after_over, after_in}
use Rattle.utf8.proofs.step.Goals as goal
use Rattle.utf8.proofs.step.Goals.{then-b-w-via-then-b-w, then-b-w-via-else-b-w+then-w-b}

pub returns-then-w-eq0 : goal.returns-then-w-eq0
returns-then-w-eq0 c = c.begin.ensures ∙ sym (after-whole _ _ c.if-w-eq0.true)

pub returns-then-b-w : goal.returns-then-b-w
unfolding follow
returns-then-b-w c =
    elim c.then-b-w.branch [
      | then-b-w-via-then-b-w w ↦ sym (after_under _ _ (omega arith) (omega arith))
      | then-b-w-via-else-b-w+then-w-b w ↦ sym (after_over _ _ (omega arith) (omega arith))
    ]

pub returns : goal.returns
unfolding follow
returns c = ap follow c.wants.ensures ∙ sym (after_in _ _ (omega arith) (omega arith) (omega arith))
