-- The register over a list of bytes, taken apart: byte by byte, part by part, and with zero bytes in the place of what follows.
-- Assumes nothing.
use mathlib.Core.Path.{◌≡◌, refl, sym, ap, ap₂, ◌∙◌}
use mathlib.Core.Bool.{Bool}
use mathlib.Core.List.{List, [], ◌∷◌, ◌++◌, append_assoc}
use Prim.Native.Nat.{ℕ, zero, suc, ◌+◌, ◌*◌, ◌/◌, ◌^◌, ◌≤◌, ◌<◌}
use native.Mathlib.Numerals.{add-one}
use native.Mathlib.Omega.{arith}
use lib.Bits.{bit_xor, xor_lt, xor_comm, xor_zero_r}
use lib.Dec.{lit<}
use lib.ListN.{length, get_or, take, drop, length-append, length-replicate, drop_of_length-le, take-append-drop}
use lib.Seq.{drop-cons, drop-drop}
use Rattle.slices.specs.Bytes.{zeros}
use Rattle.crc32.specs.Crc.{odd, run, bits, bits_of, crc32}
use Rattle.crc32.specs.Claims.{PartsJoin}
use Rattle.crc32.proofs.Xor.{xor_assoc}
use Rattle.crc32.proofs.Steps.{run-append, run_lt, zero_steps, zero_steps_linear, run_zero_steps, value}

-- ---- one byte, then the others

pub run-cons : (c x : ℕ) (xs : List ℕ) → run c (bits (x ∷ xs)) ≡ run (run c (bits_of 8 x)) (bits xs)
unfolding bits
run-cons c x xs = run-append c (bits_of 8 x) (bits xs)

pub run-nil : (c : ℕ) → run c (bits []) ≡ c
unfolding run bits
run-nil c = refl

-- one byte, from the rest of a list
pub run-next : (c i : ℕ) (xs : List ℕ) → i < length xs
    → run (run c (bits_of 8 (get_or xs i 0))) (bits (drop (i + 1) xs)) ≡ run c (bits (drop i xs))
run-next c i xs h = rw (add-one, drop-cons xs i 0) (sym (run-cons c (get_or xs i 0) (drop (suc i) xs)))

-- nothing is left
pub run_none : (c i : ℕ) (xs : List ℕ) → length xs ≤ i → run c (bits (drop i xs)) ≡ c
run_none c i xs h = ap (λ (ys : List ℕ). run c (bits ys)) (drop_of_length-le xs h) ∙ run-nil c

-- a frame's checksum: the type byte takes the first register to a, and the data that one to b
pub frame_sum_lem : (k : ℕ) (xs : List ℕ) (a b : ℕ) → a ≡ run 0xFFFFFFFF (bits_of 8 k) → b ≡ run a (bits xs)
    → bit_xor b 0xFFFFFFFF ≡ crc32 (k ∷ xs)
unfolding crc32
frame_sum_lem k xs a b ea eb =
    ap (λ (r : ℕ). bit_xor r 0xFFFFFFFF) (eb ∙ ap (λ (r : ℕ). run r (bits xs)) ea ∙ sym (run-cons 0xFFFFFFFF k xs))

-- ---- two parts

pub bits-append : (xs ys : List ℕ) → bits (xs ++ ys) ≡ bits xs ++ bits ys
unfolding bits
bits-append [] ys = refl
bits-append (x ∷ xs) ys = ap (λ (s : List Bool). bits_of 8 x ++ s) (bits-append xs ys) ∙ sym (append_assoc (bits_of 8 x) (bits xs) (bits ys))

pub parts_join : PartsJoin
parts_join c xs ys = ap (run c) (bits-append xs ys) ∙ run-append c (bits xs) (bits ys)

-- the first n bytes, and then the others
pub two_parts : (c n : ℕ) (xs : List ℕ) → run (run c (bits (take n xs))) (bits (drop n xs)) ≡ run c (bits xs)
two_parts c n xs = sym (parts_join c (take n xs) (drop n xs)) ∙ ap (λ (l : List ℕ). run c (bits l)) (take-append-drop n xs)

-- some bytes take the register to r, and the others go in after them
pub run_split : (c n r : ℕ) (xs front back : List ℕ) → front ≡ take n xs → back ≡ drop n xs → r ≡ run c (bits front) → run r (bits back) ≡ run c (bits xs)
run_split c n r xs front back f b e = rw (e, f, b) (two_parts c n xs)

-- the first n of the bytes that are left, and then the others
pub run_some : (c i n : ℕ) (xs : List ℕ) → run (run c (bits (take n (drop i xs)))) (bits (drop (i + n) xs)) ≡ run c (bits (drop i xs))
run_some c i n xs =
    ap (λ (l : List ℕ). run (run c (bits (take n (drop i xs)))) (bits l)) (sym (drop-drop n i xs)) ∙ two_parts c n (drop i xs)

-- ---- zero bytes

length-bits_of : (k n : ℕ) → length (bits_of k n) ≡ k
unfolding bits_of
length-bits_of zero n = refl
length-bits_of (suc k) n = ap suc (length-bits_of k (n / 2))

pub length-bits : (xs : List ℕ) → length (bits xs) ≡ 8 * length xs
unfolding bits
length-bits [] = refl
length-bits (x ∷ xs) =
    length-append (bits_of 8 x) (bits xs) ∙ ap₂ (λ (m n : ℕ). m + n) (length-bits_of 8 x) (length-bits xs) ∙ omega arith

value_zeros : (n : ℕ) → value (bits (zeros n)) ≡ 0
unfolding value bits bits_of odd
value_zeros zero = refl
value_zeros (suc n) = omega (arith, value_zeros n)

-- zero bytes are zero bits
pub run-zeros : (c : ℕ) (xs : List ℕ) → run c (bits (zeros (length xs))) ≡ zero_steps (length (bits xs)) c
run-zeros c xs =
    run_zero_steps c (bits (zeros (length xs)))
    ∙ ap₂ zero_steps
    (length-bits (zeros (length xs)) ∙ ap (λ (n : ℕ). 8 * n) (length-replicate (length xs) 0) ∙ sym (length-bits xs))
    (ap (bit_xor c) (value_zeros (length xs)) ∙ xor_zero_r c)

-- what is added to the register goes through the bytes as through zeros
pub run_linear : (p q : ℕ) (xs : List ℕ) → run (bit_xor p q) (bits xs) ≡ bit_xor (run p (bits xs)) (run q (bits (zeros (length xs))))
run_linear p q xs =
    run_zero_steps (bit_xor p q) (bits xs)
    ∙ ap (zero_steps (length (bits xs)))
    (xor_assoc p q (value (bits xs)) ∙ ap (bit_xor p) (xor_comm q (value (bits xs))) ∙ sym (xor_assoc p (value (bits xs)) q))
    ∙ zero_steps_linear (length (bits xs)) (bit_xor p (value (bits xs))) q
    ∙ ap₂ bit_xor (sym (run_zero_steps p (bits xs))) (sym (run-zeros q xs))

-- CRC-32 fits 32 bits
pub crc32_lt : (xs : List ℕ) → crc32 xs < 2 ^ 32
unfolding crc32
crc32_lt xs = xor_lt 32 (run 0xFFFFFFFF (bits xs)) 0xFFFFFFFF (run_lt 0xFFFFFFFF (bits xs) (lit< tt)) (lit< tt)
