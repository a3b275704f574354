-- A register may go into the message's first bytes: the message then goes in from a register of zero.
-- Assumes nothing.
use mathlib.Core.Path.{◌≡◌, refl, sym, ap, ◌∙◌}
use mathlib.Core.List.{List, [], ◌∷◌}
use Prim.Native.Nat.{ℕ, zero, suc, ◌+◌, ◌*◌, ◌/◌, ◌%◌, ◌^◌, ◌≤◌, ◌<◌}
use native.Mathlib.Nat.{mod-lt, div-one, div-eq_of_lt, lt_of_lt_of_le, le_of_suc-le-suc, not-suc-le-zero}
use native.Mathlib.Omega.{arith}
use lib.Bits.{bit_xor, xor_lt, xor_comm, xor_shifted, xor_zero_l, xor_zero_r}
use lib.Dec.{lit<}
use lib.ListN.{length, get_or}
use lib.Pow.{split, shr_lt, shr-shr, pow_mono}
use Rattle.slices.specs.Bytes.{Bytes}
use Rattle.crc32.specs.Crc.{run, bits, bits_of}
use Rattle.crc32.proofs.Xor.{xor_assoc}
use Rattle.crc32.proofs.Steps.{zero_steps, zero_steps_linear, zero_steps_shifted}
use Rattle.crc32.proofs.Parts.{run-cons}
use Rattle.crc32.proofs.Wide.{byte_steps}
use Rattle.crc32_fold.specs.Fold.{entered}

-- ---- the register's value

low_lt : (c : ℕ) → c % 256 < 256
low_lt c = mod-lt c (lit< tt)

-- the low byte of c is added to the byte, and what stands above it is there after the byte
enter_byte : (e c x : ℕ) → x < 256 → run (bit_xor e c) (bits_of 8 x) ≡ bit_xor (run e (bits_of 8 (bit_xor x (c % 256)))) (c / 256)
enter_byte e c x h =
    byte_steps (bit_xor e c) x h
    ∙ ap (λ (y : ℕ). zero_steps 8 (bit_xor (bit_xor e y) x)) (sym (xor_shifted (c / 256) 8 (c % 256) (low_lt c) ∙ split c 8))
    ∙ ap (zero_steps 8) (order (c / 256 * 256) (c % 256))
    ∙ zero_steps_linear 8 (bit_xor e (bit_xor x (c % 256))) (c / 256 * 256)
    ∙ ap (bit_xor (zero_steps 8 (bit_xor e (bit_xor x (c % 256))))) (zero_steps_shifted 8 (c / 256))
    ∙ ap (λ (r : ℕ). bit_xor r (c / 256)) (sym (byte_steps e (bit_xor x (c % 256)) (xor_lt 8 x (c % 256) h (low_lt c))))
  where
    order : (g l : ℕ) → bit_xor (bit_xor e (bit_xor g l)) x ≡ bit_xor (bit_xor e (bit_xor x l)) g
    order g l =
        xor_assoc e (bit_xor g l) x
        ∙ ap (bit_xor e) (xor_assoc g l x ∙ xor_comm g (bit_xor l x) ∙ ap (λ (y : ℕ). bit_xor y g) (xor_comm l x))
        ∙ sym (xor_assoc e (bit_xor x l) g)

enter_run : (xs : List ℕ) (e c : ℕ) → Bytes xs → c < 2 ^ (8 * length xs) → run (bit_xor e c) (bits xs) ≡ run e (bits (entered c xs))
unfolding entered
enter_run [] e c h l =
    let z : c ≡ 0 = omega arith in
    ap (λ (y : ℕ). run (bit_xor e y) (bits [])) z ∙ ap (λ (y : ℕ). run y (bits [])) (xor_zero_r e)
enter_run (x ∷ xs) e c h l =
    run-cons (bit_xor e c) x xs
    ∙ ap (λ (r : ℕ). run r (bits xs)) (enter_byte e c x (h 0))
    ∙ enter_run xs (run e (bits_of 8 (bit_xor x (c % 256)))) (c / 256) (λ i. h (suc i)) (shr_lt (8 * length xs) 8 (lt_of_lt_of_le l (pow_mono more)))
    ∙ sym (run-cons e (bit_xor x (c % 256)) (entered (c / 256) xs))
  where
    more : 8 * suc (length xs) ≤ 8 * length xs + 8
    more = omega arith

pub entered-run : (c : ℕ) (xs : List ℕ) → Bytes xs → c < 2 ^ 32 → 4 ≤ length xs → run c (bits xs) ≡ run 0 (bits (entered c xs))
entered-run c xs h l m =
    ap (λ (y : ℕ). run y (bits xs)) (sym (xor_zero_l c))
    ∙ enter_run xs 0 c h (lt_of_lt_of_le l (pow_mono {i = 32} {j = 8 * length xs} (omega arith)))

-- ---- the bytes

pub length-entered : (c : ℕ) (xs : List ℕ) → length (entered c xs) ≡ length xs
unfolding entered
length-entered c [] = refl
length-entered c (x ∷ xs) = ap suc (length-entered (c / 256) xs)

pub entered_at : (c i : ℕ) (xs : List ℕ) → i < length xs → get_or (entered c xs) i 0 ≡ bit_xor (get_or xs i 0) (c / 2 ^ (8 * i) % 256)
unfolding entered
entered_at c i [] h = absurd (not-suc-le-zero h)
entered_at c zero (x ∷ xs) h = ap (λ (y : ℕ). bit_xor x (y % 256)) (sym (div-one c))
entered_at c (suc i) (x ∷ xs) h =
    entered_at (c / 256) i xs (le_of_suc-le-suc h)
    ∙ ap (λ (y : ℕ). bit_xor (get_or xs i 0) (y % 256)) (shr-shr c 8 (8 * i) ∙ ap (λ (n : ℕ). c / 2 ^ n) (omega arith))

-- after the fourth they are as they were
pub entered_later : (c i : ℕ) (xs : List ℕ) → c < 2 ^ 32 → 4 ≤ i → i < length xs → get_or (entered c xs) i 0 ≡ get_or xs i 0
entered_later c i xs h l m =
    entered_at c i xs m
    ∙ ap (λ (y : ℕ). bit_xor (get_or xs i 0) (y % 256)) (div-eq_of_lt {n = c} {m = 2 ^ (8 * i)} (lt_of_lt_of_le h (pow_mono {i = 32} {j = 8 * i} (omega arith))))
    ∙ xor_zero_r (get_or xs i 0)
