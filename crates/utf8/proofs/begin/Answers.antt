-- `utf8::begin` meets its contract: each arm is a rule of the grammar.
-- Assumes nothing.
use mathlib.Core.Path.{◌≡◌, refl, sym, ap, ◌∙◌}
use mathlib.Core.Bool.{Bool, true, false}
use mathlib.Core.List.{[], ◌∷◌}
use Prim.Native.Nat.{ℕ, ◌≤◌}
use native.Mathlib.Omega.{arith}
use borrow.Author.Tests.{ltb-true, ltb-false}
use lib.Dec.{ltb, lit<}
use Rattle.utf8.specs.Utf8.{tail, grammar, following, begun}
use Rattle.utf8.specs.Wanted.{ranges, follow}
use Rattle.utf8.proofs.Rules.{by_rule, never_first, clear}
use Rattle.utf8.proofs.begin.Goals as goal

-- %xE1-EC and %xEE-EF, the two rules around ED
two_tails : (x : ℕ) → 0xE1 ≤ x → x ≤ 0xEF → (x ≡ 0xED → ⊥) → begun grammar x ≡ following (tail ∷ tail ∷ [])
unfolding grammar
two_tails x h k n = by_side (ltb x 0xED) refl
  where
    by_side : (b : Bool) → ltb x 0xED ≡ b → begun grammar x ≡ following (tail ∷ tail ∷ [])
    by_side true e = by_rule 3 x (lit< tt) (omega arith) (omega (arith, ltb-true x 0xED e))
    by_side false e = by_rule 5 x (lit< tt) (omega (arith, ltb-false x 0xED e)) (omega arith)

pub returns-in-224 : goal.returns-in-224
unfolding grammar follow ranges
returns-in-224 c = ap follow c.wants.ensures ∙ sym (by_rule 2 _ (lit< tt) (omega arith) (omega arith))

pub returns-in-237 : goal.returns-in-237
unfolding grammar follow ranges
returns-in-237 c = ap follow c.wants-in-237.ensures ∙ sym (by_rule 4 _ (lit< tt) (omega arith) (omega arith))

pub returns-in-240 : goal.returns-in-240
unfolding grammar follow ranges
returns-in-240 c = ap follow c.wants-in-240.ensures ∙ sym (by_rule 6 _ (lit< tt) (omega arith) (omega arith))

pub returns-in-244 : goal.returns-in-244
unfolding grammar follow ranges
returns-in-244 c = ap follow c.wants-in-244.ensures ∙ sym (by_rule 8 _ (lit< tt) (omega arith) (omega arith))

pub returns-in-0-to-127 : goal.returns-in-0-to-127
unfolding grammar follow ranges
returns-in-0-to-127 c = ap follow c.wants-in-0-to-127.ensures ∙ sym (by_rule 0 _ (lit< tt) (omega arith) (omega arith))

pub returns-in-194-to-223 : goal.returns-in-194-to-223
unfolding grammar follow ranges
returns-in-194-to-223 c = ap follow c.wants-in-194-to-223.ensures ∙ sym (by_rule 1 _ (lit< tt) (omega arith) (omega arith))

pub returns-in-225-to-236 : goal.returns-in-225-to-236
unfolding follow ranges
returns-in-225-to-236 c = ap follow c.wants-in-225-to-236.ensures ∙ sym (two_tails _ (omega arith) (omega arith) (omega arith))

pub returns-in-241-to-243 : goal.returns-in-241-to-243
unfolding grammar follow ranges
returns-in-241-to-243 c = ap follow c.wants-in-241-to-243.ensures ∙ sym (by_rule 7 _ (lit< tt) (omega arith) (omega arith))

pub returns-in_default : goal.returns-in_default
unfolding grammar follow clear
returns-in_default c = sym (never_first 0x80 0xC1 _ refl (omega arith) (omega arith))

pub returns-in_default-2 : goal.returns-in_default-2
unfolding grammar follow clear
returns-in_default-2 c = sym (never_first 0xF5 0xFF _ refl (omega arith) (omega arith))
