-- Bytes in parts, one run after another, and zeros.
-- Assumes nothing.
use mathlib.Core.List.{List, [], ◌∷◌, ◌++◌}
use Prim.Native.Nat.{ℕ, zero, suc, ◌<◌}
use native.Mathlib.Omega.{arith}
use lib.ListN.{take, drop}
use Rattle.slices.specs.Bytes.{Bytes, zeros}

pub nil_bytes : Bytes []
nil_bytes i = omega arith

pub cons_bytes : (x : ℕ) (xs : List ℕ) → x < 256 → Bytes xs → Bytes (x ∷ xs)
cons_bytes x xs h b zero = h
cons_bytes x xs h b (suc i) = b i

pub append_bytes : (xs ys : List ℕ) → Bytes xs → Bytes ys → Bytes (xs ++ ys)
append_bytes [] ys a b = b
append_bytes (x ∷ xs) ys a b = cons_bytes x (xs ++ ys) (a 0) (append_bytes xs ys (λ i. a (suc i)) b)

pub take_bytes : (n : ℕ) (xs : List ℕ) → Bytes xs → Bytes (take n xs)
take_bytes zero xs b = nil_bytes
take_bytes (suc n) [] b = nil_bytes
take_bytes (suc n) (x ∷ xs) b = cons_bytes x (take n xs) (b 0) (take_bytes n xs (λ i. b (suc i)))

pub drop_bytes : (n : ℕ) (xs : List ℕ) → Bytes xs → Bytes (drop n xs)
drop_bytes zero xs b = b
drop_bytes (suc n) [] b = b
drop_bytes (suc n) (x ∷ xs) b = drop_bytes n xs (λ i. b (suc i))

pub zeros_bytes : (n : ℕ) → Bytes (zeros n)
zeros_bytes zero = nil_bytes
zeros_bytes (suc n) = cons_bytes 0 (zeros n) (omega arith) (zeros_bytes n)
