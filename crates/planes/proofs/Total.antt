-- The total of runs: the sum over planes of the sums over readings is the sum over readings of the sums over planes.
-- Assumes nothing.
use mathlib.Core.Path.{◌≡◌, refl, sym, ap, ap₂, ◌∙◌}
use mathlib.Core.List.{List, [], ◌∷◌, ◌++◌}
use Prim.Native.Nat.{ℕ, zero, suc, ◌+◌, ◌*◌, ◌≤◌}
use native.Mathlib.Nat.{suc-mul, zero-mul}
use native.Mathlib.Omega.{arith}
use lib.ListN.{length, get_or, drop, length-drop}
use lib.Seq.{get_or-drop}
use Rattle.planes.specs.Planes.{every, runs, crossed}
use Rattle.planes.specs.Claims.{total}

-- f 0 + f 1 + .. + f (n - 1)
abbrev sum : ℕ → (ℕ → ℕ) → ℕ
sum zero f = 0
sum (suc n) f = f 0 + sum n (λ i. f (suc i))

sum_same : (n : ℕ) (f g : ℕ → ℕ) → ((i : ℕ) → f i ≡ g i) → sum n f ≡ sum n g
sum_same zero f g h = refl
sum_same (suc n) f g h = ap₂ ◌+◌ (h 0) (sum_same n (λ i. f (suc i)) (λ i. g (suc i)) (λ i. h (suc i)))

sum-zero : (n : ℕ) → sum n (λ i. 0) ≡ 0
sum-zero zero = refl
sum-zero (suc n) = omega (arith, sum-zero n)

sum-add : (n : ℕ) (f g : ℕ → ℕ) → sum n (λ i. f i + g i) ≡ sum n f + sum n g
sum-add zero f g = omega arith
sum-add (suc n) f g = omega (arith, sum-add n (λ i. f (suc i)) (λ i. g (suc i)))

-- rows first or columns first
sum_swap : (m n : ℕ) (f : ℕ → ℕ → ℕ) → sum m (λ j. sum n (λ i. f i j)) ≡ sum n (λ i. sum m (λ j. f i j))
sum_swap zero n f = sym (sum-zero n)
sum_swap (suc m) n f =
    ap (λ (k : ℕ). sum n (λ i. f i 0) + k) (sum_swap m n (λ i j. f i (suc j)))
    ∙ sym (sum-add n (λ i. f i 0) (λ i. sum m (λ j. f i (suc j))))

total-append : (xs ys : List ℕ) → total (xs ++ ys) ≡ total xs + total ys
unfolding total
total-append [] ys = omega arith
total-append (x ∷ xs) ys = omega (arith, total-append xs ys)

total-every : (step n at : ℕ) (xs : List ℕ) → total (every step n at xs) ≡ sum n (λ i. get_or xs (i * step + at) 0)
unfolding total every
total-every step zero at xs = refl
total-every step (suc n) at xs =
    ap₂ ◌+◌
    (ap (λ (k : ℕ). get_or xs k 0) (first step at))
    (total-every step n (at + step) xs
    ∙ sum_same n (λ i. get_or xs (i * step + (at + step)) 0) (λ i. get_or xs (suc i * step + at) 0)
    (λ i. ap (λ (k : ℕ). get_or xs k 0) (next i step at)))
  where
    first : (s a : ℕ) → a ≡ 0 * s + a
    first s a = omega arith

    next : (i s a : ℕ) → i * s + (a + s) ≡ suc i * s + a
    next i s a = omega (arith, suc-mul i s)

total_runs : (step n m at : ℕ) (xs : List ℕ) → total (runs step n m at xs) ≡ sum m (λ j. sum n (λ i. get_or xs (i * step + (at + j)) 0))
unfolding total runs
total_runs step n zero at xs = refl
total_runs step n (suc m) at xs =
    total-append (every step n at xs) (runs step n m (suc at) xs)
    ∙ ap₂ ◌+◌
    (total-every step n at xs ∙ sum_same n (λ i. get_or xs (i * step + at) 0) (λ i. get_or xs (i * step + (at + 0)) 0) (λ i. ap (λ (k : ℕ). get_or xs k 0) (here i)))
    (total_runs step n m (suc at) xs
    ∙ sum_same m (λ j. sum n (λ i. get_or xs (i * step + (suc at + j)) 0)) (λ j. sum n (λ i. get_or xs (i * step + (at + suc j)) 0))
    (λ j. sum_same n (λ i. get_or xs (i * step + (suc at + j)) 0) (λ i. get_or xs (i * step + (at + suc j)) 0) (λ i. ap (λ (k : ℕ). get_or xs k 0) (next i j))))
  where
    here : (i : ℕ) → i * step + at ≡ i * step + (at + 0)
    here i = omega arith

    next : (i j : ℕ) → i * step + (suc at + j) ≡ i * step + (at + suc j)
    next i j = omega arith

-- the first m bytes, and the rest
total-front : (m : ℕ) (xs : List ℕ) → m ≤ length xs → sum m (λ j. get_or xs j 0) + total (drop m xs) ≡ total xs
unfolding total
total-front zero xs h = omega arith
total-front (suc m) [] h = omega arith
total-front (suc m) (x ∷ xs) h = omega (arith, total-front m xs (omega arith))

-- n readings of m bytes
total-rows : (n m : ℕ) (xs : List ℕ) → length xs ≡ n * m → sum n (λ i. sum m (λ j. get_or xs (i * m + j) 0)) ≡ total xs
unfolding total
total-rows zero m [] h = refl
total-rows zero m (x ∷ xs) h = omega (arith, zero-mul m)
total-rows (suc n) m xs h =
    ap₂ ◌+◌
    (sum_same m (λ j. get_or xs (0 * m + j) 0) (λ j. get_or xs j 0) (λ j. ap (λ (k : ℕ). get_or xs k 0) (first j)))
    (sum_same n (λ i. sum m (λ j. get_or xs (suc i * m + j) 0)) (λ i. sum m (λ j. get_or (drop m xs) (i * m + j) 0))
    (λ i. sum_same m (λ j. get_or xs (suc i * m + j) 0) (λ j. get_or (drop m xs) (i * m + j) 0)
    (λ j. ap (λ (k : ℕ). get_or xs k 0) (next i j) ∙ sym (get_or-drop m xs (i * m + j) 0)))
    ∙ total-rows n m (drop m xs) (omega (arith, length-drop m xs, suc-mul n m)))
    ∙ total-front m xs (omega (arith, suc-mul n m))
  where
    first : (j : ℕ) → 0 * m + j ≡ j
    first j = omega arith

    next : (i j : ℕ) → suc i * m + j ≡ m + (i * m + j)
    next i j = omega (arith, suc-mul i m)

pub total-crossed : (m n : ℕ) (xs : List ℕ) → length xs ≡ n * m → total (crossed m n xs) ≡ total xs
total-crossed m n xs h =
    total_runs m n m 0 xs
    ∙ sum_same m (λ j. sum n (λ i. get_or xs (i * m + (0 + j)) 0)) (λ j. sum n (λ i. get_or xs (i * m + j) 0))
    (λ j. sum_same n (λ i. get_or xs (i * m + (0 + j)) 0) (λ i. get_or xs (i * m + j) 0) (λ i. ap (λ (k : ℕ). get_or xs k 0) (here i j)))
    ∙ sum_swap m n (λ i j. get_or xs (i * m + j) 0)
    ∙ total-rows n m xs h
  where
    here : (i j : ℕ) → i * m + (0 + j) ≡ i * m + j
    here i j = omega arith
