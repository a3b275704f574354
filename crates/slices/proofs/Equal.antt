-- The comparison of two runs of bytes: what it decides, and that it is std's.
-- Assumes nothing.
use mathlib.Core.Path.{◌≡◌, refl, sym, ap, ◌∙◌}
use mathlib.Core.List.{List, [], ◌∷◌}
use mathlib.Core.Bool.{◌&&◌}
use Prim.Native.Nat.{ℕ}
use lib.Dec.{eqb}
use lib.Pointwise.{pointwise, bytes_decides}
use Rattle.slices.specs.Same.{same_bytes}
use Rattle.slices.specs.Claims.{SameBytes}

pub same_by_eq : (xs ys : List ℕ) → pointwise eqb xs ys ≡ same_bytes xs ys
unfolding same_bytes
same_by_eq [] [] = refl
same_by_eq [] (y ∷ ys) = refl
same_by_eq (x ∷ xs) [] = refl
same_by_eq (x ∷ xs) (y ∷ ys) = ap (◌&&◌ (eqb x y)) (same_by_eq xs ys)

pub same_bytes_lem : SameBytes
same_bytes_lem xs ys =
    let d = bytes_decides xs ys in
    (λ e. d.0 (same_by_eq xs ys ∙ e), λ e. sym (same_by_eq xs ys) ∙ d.1 e)
