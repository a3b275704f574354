-- Numbers that are each at most m.
-- Assumes nothing.
use mathlib.Core.Path.{◌≡◌, refl}
use mathlib.Core.Bool.{true}
use mathlib.Core.List.{List, [], ◌∷◌}
use Prim.Native.Nat.{ℕ, zero, suc, ◌≤◌}
use native.Mathlib.Omega.{arith}
use lib.Dec.{leb}
use lib.ListN.{get_or}
use borrow.Author.Tests.{leb-true, le-leb}
use Rattle.queues.proofs.Both.{and_left, and_right, both}
use Rattle.report.specs.Layout.{all_within}

pub within_at : (m : ℕ) (xs : List ℕ) → all_within m xs ≡ true → (i : ℕ) → get_or xs i 0 ≤ m
unfolding all_within
within_at m [] h i = omega arith
within_at m (x ∷ xs) h zero = leb-true x m (and_left (leb x m) (all_within m xs) h)
within_at m (x ∷ xs) h (suc i) = within_at m xs (and_right (leb x m) (all_within m xs) h) i

pub at_within : (m : ℕ) (xs : List ℕ) → ((i : ℕ) → get_or xs i 0 ≤ m) → all_within m xs ≡ true
unfolding all_within
at_within m [] h = refl
at_within m (x ∷ xs) h = both (le-leb x m (h 0)) (at_within m xs (λ i. h (suc i)))
