-- Claim.
-- What is claimed of the comparisons; each is proved in proofs/ under the same name in snake case.
-- Assumes nothing.
use Rattle.std.specs.Prelude.{◌≡◌, true, List, ℕ}
use Rattle.slices.specs.Same.{same_bytes}
use Rattle.slices.specs.Order.{order}
use Rattle.std.specs.declared.cmp.Ordering.TheVariants.{Less, Equal, Greater}

-- `same_bytes` is true exactly where the two are equal
abbrev pub SameBytes : Type 0
SameBytes = (xs ys : List ℕ) → (same_bytes xs ys ≡ true → xs ≡ ys) × (xs ≡ ys → same_bytes xs ys ≡ true)

-- `order` is `same` exactly where the two are equal
abbrev pub OrderSame : Type 0
OrderSame = (xs ys : List ℕ) → (order xs ys ≡ Equal → xs ≡ ys) × (xs ≡ ys → order xs ys ≡ Equal)

-- what is below is above seen from the other side
abbrev pub OrderFlips : Type 0
OrderFlips = (xs ys : List ℕ) → (order xs ys ≡ Less → order ys xs ≡ Greater) × (order xs ys ≡ Greater → order ys xs ≡ Less)

-- below what is below a third is below the third
abbrev pub OrderRises : Type 0
OrderRises = (xs ys zs : List ℕ) → order xs ys ≡ Less → order ys zs ≡ Less → order xs zs ≡ Less
