-- `listing::lines::half_even` meets its contract.
-- Assumes nothing.
use mathlib.Core.Path.{sym}
use native.Mathlib.Nat.{mod-le, div-le_self}
use native.Mathlib.Omega.{arith}
use borrow.Author.Tests.{ltb-true, ltb-false}
use Rattle.listing.proofs.Rounding.{below_half, above_half, at_half}
use Rattle.listing.proofs.lines.half_even.Goals as goal

pub overflow_mul-twice : goal.overflow_mul-twice
overflow_mul-twice c = omega (arith, mod-le c.args.a c.args.b)

pub returns-then-twice-b : goal.returns-then-twice-b
returns-then-twice-b c = sym (below_half c.args.a c.args.b (omega (arith, ltb-true)))

pub overflow_add-result : goal.overflow_add-result
overflow_add-result c = omega (arith, div-le_self c.args.a c.args.b)

pub returns-then-b-twice : goal.returns-then-b-twice
returns-then-b-twice c = sym (above_half c.args.a c.args.b (omega (arith, ltb-true)))

pub overflow_add-result-2 : goal.overflow_add-result-2
overflow_add-result-2 c = omega (arith, div-le_self c.args.a c.args.b)

pub returns : goal.returns
returns c = sym (at_half c.args.a c.args.b (omega (arith, ltb-false)) (omega (arith, ltb-false)))
