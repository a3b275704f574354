-- Bytes go into the register by tables: what a byte adds goes through zero bytes alone, as many as follow it, and the wide table has that.
-- Assumes nothing.
use mathlib.Core.Path.{◌≡◌, refl, sym, ap, ap₂, ◌∙◌}
use mathlib.Core.List.{List, [], ◌∷◌, ◌++◌, append-nil}
use Prim.Native.Nat.{ℕ, zero, suc, ◌+◌, ◌-◌, ◌*◌, ◌/◌, ◌%◌, ◌^◌, ◌≤◌, ◌<◌}
use native.Mathlib.Nat.{div-eq_of_lt, lt_of_lt_of_le, mod-lt}
use native.Mathlib.Numerals.{add-one}
use native.Mathlib.Omega.{arith}
use lib.Bits.{bit_xor, bit_and, and_mask, mask_lt, xor_comm, xor_shr, xor_zero_l, xor_zero_r}
use lib.Dec.{lit<}
use lib.ListN.{length, get_or, take, drop, drop_of_length-le, length-append, length-drop, length-replicate}
use lib.Pow.{pow_mono}
use lib.Seq.{drop-cons, length-take-le, take-add, take_all}
use Rattle.slices.specs.Bytes.{zeros}
use Rattle.crc32.specs.Crc.{odd, step, run, bits, bits_of}
use Rattle.crc32.specs.Wide.{wide_entry, Starts}
use Rattle.crc32.proofs.Xor.{xor_assoc}
use Rattle.crc32.proofs.Steps.{zero_steps, zero_steps_split, run_zero_steps, value_bits_of}
use Rattle.crc32.proofs.Entries.{entry_at, entry_low}
use Rattle.crc32.proofs.Parts.{run-cons, run-nil, parts_join, run_linear, run-zeros, run_some}

-- ---- one byte

-- eight zero bits: what stands above the low byte is shifted down, and the low byte's entry is added
eight : (x : ℕ) → zero_steps 8 x ≡ bit_xor (x / 256) (wide_entry (x % 256))
unfolding bits bits_of
eight x =
    zero_steps_split 8 x
    ∙ ap (bit_xor (x / 256)) (sym (run-zeros (x % 256) (0 ∷ [])) ∙ sym (entry_low (x % 256) (mod-lt x (lit< tt))))

-- the byte is added to the register first
pub byte_steps : (c b : ℕ) → b < 256 → run c (bits_of 8 b) ≡ zero_steps 8 (bit_xor c b)
unfolding bits_of
byte_steps c b h = run_zero_steps c (bits_of 8 b) ∙ ap (λ (v : ℕ). zero_steps 8 (bit_xor c v)) (value_bits_of 8 b h)

byte_in : (c b : ℕ) → b < 256 → run c (bits_of 8 b) ≡ bit_xor (bit_xor c b / 256) (wide_entry (bit_xor c b % 256))
byte_in c b h = byte_steps c b h ∙ eight (bit_xor c b)

-- as the code has it, by any table that starts with the byte table
pub by_table : (t : List ℕ) (c b : ℕ) → Starts 256 t → b < 256
    → bit_xor (bit_xor c b / 2 ^ 8) (get_or t (bit_and (bit_xor c b) 255) 0) ≡ run c (bits_of 8 b)
by_table t c b s h =
    ap (bit_xor (bit_xor c b / 2 ^ 8)) (s.right (bit_and (bit_xor c b) 255) (mask_lt (bit_xor c b) 8) ∙ ap wide_entry (and_mask (bit_xor c b) 8))
    ∙ sym (byte_in c b h)

-- ---- a byte and what follows it

-- as the code has it, by a wide table's part k
pub share_entry : (t : List ℕ) (k c b : ℕ) → Starts (k * 256 + 256) t
    → get_or t (k * 256 + bit_and (bit_xor c b) 255) 0 ≡ run (bit_xor c b % 256) (bits (zeros (k + 1)))
share_entry t k c b s =
    let l : bit_and (bit_xor c b) 255 < 256 = mask_lt (bit_xor c b) 8 in
    s.right (k * 256 + bit_and (bit_xor c b) 255) (omega arith)
    ∙ entry_at k (bit_and (bit_xor c b) 255) l
    ∙ ap (λ (x : ℕ). run x (bits (zeros (k + 1)))) (and_mask (bit_xor c b) 8)

-- the byte's share goes through zeros in the place of what follows; n is how many, the byte itself counted
byte_share : (c b n : ℕ) (bs : List ℕ) → b < 256 → suc (length bs) ≡ n
    → run c (bits (b ∷ bs)) ≡ bit_xor (run (bit_xor c b % 256) (bits (zeros n))) (run (c / 256) (bits bs))
byte_share c b n bs h e =
    run-cons c b bs
    ∙ ap (λ (r : ℕ). run r (bits bs)) (byte_in c b h ∙ ap₂ bit_xor up (entry_low y (mod-lt (bit_xor c b) (lit< tt))))
    ∙ run_linear (c / 256) (run y (bits (zeros 1))) bs
    ∙ xor_comm (run (c / 256) (bits bs)) (run (run y (bits (zeros 1))) (bits (zeros (length bs))))
    ∙ ap (λ (r : ℕ). bit_xor r (run (c / 256) (bits bs)))
    (sym (parts_join y (zeros 1) (zeros (length bs))) ∙ ap (λ (m : ℕ). run y (bits (zeros m))) e)
  where
    y : ℕ
    y = bit_xor c b % 256

    up : bit_xor c b / 256 ≡ c / 256
    up = xor_shr c b 8 ∙ ap (bit_xor (c / 256)) (div-eq_of_lt {n = b} {m = 256} h) ∙ xor_zero_r (c / 256)

-- with nothing after it
pub byte_alone : (c b : ℕ) → b < 256 → bit_xor (run (bit_xor c b % 256) (bits (zeros 1))) (c / 2 ^ 8) ≡ run c (bits_of 8 b)
byte_alone c b h =
    ap (bit_xor (run (bit_xor c b % 256) (bits (zeros 1)))) (sym (run-nil (c / 256)))
    ∙ sym (byte_share c b 1 [] h refl)
    ∙ run-cons c b []
    ∙ run-nil (run c (bits_of 8 b))

-- a register of zero stays so through zero bytes
pub still : run 0 (bits_of 8 0) ≡ 0
unfolding run bits_of step odd
still = refl

run-zero : (n : ℕ) → run 0 (bits (zeros n)) ≡ 0
run-zero zero = run-nil 0
run-zero (suc n) = run-cons 0 0 (zeros n) ∙ ap (λ (r : ℕ). run r (bits (zeros n))) still ∙ run-zero n

-- one byte more, as the code's loop has it: r is what the bytes before it add up to, f its own share, and k the zero bytes at the end
pub share_next : (c r f i k : ℕ) (xs : List ℕ) → i < length xs → get_or xs i 0 < 256
    → f ≡ run (bit_xor c (get_or xs i 0) % 256) (bits (zeros (length xs - i - 1 + k + 1)))
    → bit_xor (bit_xor r f) (run (c / 2 ^ 8) (bits (drop (i + 1) xs ++ zeros k))) ≡ bit_xor r (run c (bits (drop i xs ++ zeros k)))
share_next c r f i k xs h hb e =
    xor_assoc r f (run (c / 2 ^ 8) (bits (drop (i + 1) xs ++ zeros k)))
    ∙ ap (bit_xor r)
    (ap (λ (y : ℕ). bit_xor y (run (c / 2 ^ 8) (bits (drop (i + 1) xs ++ zeros k)))) e
    ∙ sym (byte_share c (get_or xs i 0) (length xs - i - 1 + k + 1) (drop (i + 1) xs ++ zeros k) hb size)
    ∙ ap (λ (l : List ℕ). run c (bits (l ++ zeros k))) first)
  where
    first : get_or xs i 0 ∷ drop (i + 1) xs ≡ drop i xs
    first = rw (add-one, drop-cons xs i 0)

    none : length (zeros k) ≡ k
    none = length-replicate k 0

    size : suc (length (drop (i + 1) xs ++ zeros k)) ≡ length xs - i - 1 + k + 1
    size = omega (arith, length-append (drop (i + 1) xs) (zeros k), length-drop (i + 1) xs, none)

-- at the end nothing is left of the register, since four bytes have gone in
pub share_end : (crc c r i k : ℕ) (xs : List ℕ) → crc < 2 ^ 32 → 4 ≤ length xs → length xs ≤ i → c ≡ crc / 2 ^ (8 * i)
    → bit_xor r (run c (bits (drop i xs ++ zeros k))) ≡ r
share_end crc c r i k xs h long e q =
    ap (bit_xor r)
    (ap₂ (λ (y : ℕ) (l : List ℕ). run y (bits (l ++ zeros k))) (q ∙ div-eq_of_lt {n = crc} {m = 2 ^ (8 * i)} small) (drop_of_length-le xs e)
    ∙ run-zero k)
    ∙ xor_zero_r r
  where
    small : crc < 2 ^ (8 * i)
    small = lt_of_lt_of_le h (pow_mono {i = 32} {j = 8 * i} (omega arith))

-- ---- parts

-- the first n bytes go through zeros in the place of the next m, and those go in from a register of zero
pub parts_share : (c n m : ℕ) (xs : List ℕ) → n + m ≤ length xs
    → bit_xor (run c (bits (take n xs ++ zeros m))) (run 0 (bits (take m (drop n xs) ++ zeros 0))) ≡ run c (bits (take (n + m) xs))
parts_share c n m xs h =
    ap₂ bit_xor
    (parts_join c (take n xs) (zeros m) ∙ ap (λ (j : ℕ). run (run c (bits (take n xs))) (bits (zeros j))) (sym size))
    (ap (λ (l : List ℕ). run 0 (bits l)) (append-nil (take m (drop n xs))))
    ∙ xor_comm (run (run c (bits (take n xs))) (bits (zeros (length (take m (drop n xs)))))) (run 0 (bits (take m (drop n xs))))
    ∙ sym (run_linear 0 (run c (bits (take n xs))) (take m (drop n xs)))
    ∙ ap (λ (r : ℕ). run r (bits (take m (drop n xs)))) (xor_zero_l (run c (bits (take n xs))))
    ∙ sym (parts_join c (take n xs) (take m (drop n xs)))
    ∙ ap (λ (l : List ℕ). run c (bits l)) (sym (take-add n m xs))
  where
    size : length (take m (drop n xs)) ≡ m
    size = length-take-le m (drop n xs) (omega (arith, length-drop n xs))

-- a part that is lent as `&xs[i..]`
pub rest : (i : ℕ) (xs : List ℕ) → take (length xs - i) (drop i xs) ≡ drop i xs
rest i xs = take_all (length xs - i) (drop i xs) (omega (arith, length-drop i xs))

-- n bytes of it, lent as `&xs[i..i + n]`
pub run_lent : (c i n : ℕ) (xs : List ℕ)
    → run (run c (bits (take (i + n - i) (drop i xs)))) (bits (drop (i + n) xs)) ≡ run c (bits (drop i xs))
run_lent c i n xs =
    let e : i + n - i ≡ n = omega arith in
    ap (λ (m : ℕ). run (run c (bits (take m (drop i xs)))) (bits (drop (i + n) xs))) e ∙ run_some c i n xs
