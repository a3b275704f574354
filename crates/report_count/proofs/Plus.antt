-- Numbers added one by one.
-- Assumes nothing.
use mathlib.Core.Path.{◌≡◌, refl, sym, ap, ap₂}
use mathlib.Core.List.{List, [], ◌∷◌}
use Prim.Native.Nat.{ℕ, zero, suc, ◌+◌}
use native.Mathlib.Omega.{arith}
use lib.ListN.{length, get_or}
use Rattle.report_count.specs.Sums.{plus}

pub get_d_plus : (xs ys : List ℕ) (i : ℕ) → get_or (plus xs ys) i 0 ≡ get_or xs i 0 + get_or ys i 0
unfolding plus
get_d_plus [] ys i = let e : get_or ys i 0 ≡ 0 + get_or ys i 0 = omega arith in e
get_d_plus (x ∷ xs) [] i = let e : get_or (x ∷ xs) i 0 ≡ get_or (x ∷ xs) i 0 + 0 = omega arith in e
get_d_plus (x ∷ xs) (y ∷ ys) zero = refl
get_d_plus (x ∷ xs) (y ∷ ys) (suc i) = get_d_plus xs ys i

pub length-plus : (xs ys : List ℕ) → length xs ≡ length ys → length (plus xs ys) ≡ length xs
unfolding plus
length-plus [] ys h = sym h
length-plus (x ∷ xs) [] h = refl
length-plus (x ∷ xs) (y ∷ ys) h = ap suc (length-plus xs ys (omega arith))

pub plus_assoc : (xs ys zs : List ℕ) → plus (plus xs ys) zs ≡ plus xs (plus ys zs)
unfolding plus
plus_assoc [] ys zs = refl
plus_assoc (x ∷ xs) [] zs = refl
plus_assoc (x ∷ xs) (y ∷ ys) [] = refl
plus_assoc (x ∷ xs) (y ∷ ys) (z ∷ zs) =
    let e : x + y + z ≡ x + (y + z) = omega arith in
    ap₂ (λ (a : ℕ) (l : List ℕ). a ∷ l) e (plus_assoc xs ys zs)
