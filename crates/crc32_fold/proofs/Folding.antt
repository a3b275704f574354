-- The fold of a message, made byte by byte, and what the register is after the message.
-- Assumes nothing.
use mathlib.Core.Path.{◌≡◌, refl, sym, ap, ap₂, ◌∙◌}
use mathlib.Core.Bool.{Bool, true, false}
use mathlib.Core.List.{List, [], ◌∷◌}
use Prim.Native.Nat.{ℕ, zero, suc, ◌+◌, ◌*◌, ◌/◌, ◌%◌, ◌^◌, ◌≤◌, ◌<◌}
use native.Mathlib.Nat.{add-zero, zero-add, add-suc, add_comm}
use native.Mathlib.Omega.{arith}
use borrow.Author.Tests.{ltb-true, ltb-false}
use lib.Bits.{bit_xor, xor_zero_l, xor_zero_r}
use lib.Dec.{ltb}
use lib.ListN.{length, get_or, take, drop, set, length-drop, get_or-replicate}
use lib.Seq.{get_or-set_same, get_or-set_other, take-suc, take-add, take-take, take-length, length-take-le}
use Rattle.slices.specs.Bytes.{Bytes, zeros}
use Rattle.crc32.specs.Crc.{run, bits, bits_of}
use Rattle.crc32.proofs.Xor.{xor_twice}
use Rattle.crc32.proofs.Steps.{zero_steps}
use Rattle.crc32.proofs.Parts.{run-cons, run-nil, parts_join, run_linear, run-zeros, length-bits}
use Rattle.crc32.proofs.Wide.{still}
use Rattle.crc32_fold.specs.Fold.{lower, exponents, summed, entered, Clear, Folded}
use Rattle.crc32_fold.proofs.Sums.{summed_xor, summed_byte, lower_same, all_same, highest, lower-zero, all_zero_lem, gone}
use Rattle.crc32_fold.proofs.Entered.{entered-run, length-entered, entered_at, entered_later}

-- ---- made byte by byte

pub clear_zeros : (n : ℕ) → 300 ≤ n → Clear (zeros n)
clear_zeros n h j g = get_or-replicate n j 0 0 (omega arith)

pub folded_none : (d u : List ℕ) → Clear u → Folded 0 d u
folded_none d u h = record { clear = h; sums = λ i g. absurd (omega arith) }

-- one byte more: it is put 300 places on, with the sum of the four
pub folded_next : (i v : ℕ) (d u : List ℕ) → 300 + i < length u → v ≡ bit_xor (get_or d i 0) (summed lower (λ k. get_or u (k + i) 0))
    → Folded i d u → Folded (i + 1) d (set u (300 + i) v)
folded_next i v d u h e f =
    record {
      clear = λ j g. get_or-set_other u (300 + i) j v 0 (λ w. omega arith) ∙ f.clear j g;
      sums = λ j g. at j g (ltb j i) refl;
    }
  where
    before : (j : ℕ) → j < 300 + i → get_or (set u (300 + i) v) j 0 ≡ get_or u j 0
    before j g = get_or-set_other u (300 + i) j v 0 (λ w. omega arith)

    at : (j : ℕ) → j < i + 1 → (b : Bool) → ltb j i ≡ b → get_or d j 0 ≡ summed exponents (λ k. get_or (set u (300 + i) v) (k + j) 0)
    at j g true q = let l : j < i = ltb-true j i q in f.sums j l ∙ sym (all_same _ _ (λ k m. before (k + j) (omega arith)))
    at j g false q =
        let l : i ≤ j = ltb-false j i q in
        let w : j ≡ i = omega arith in
        ap (λ (n : ℕ). get_or d n 0) w
        ∙ sym (xor_twice (get_or d i 0) (summed lower (λ k. get_or u (k + i) 0)))
        ∙ ap₂ bit_xor (sym e ∙ sym (get_or-set_same u (300 + i) v 0 h)) (sym (lower_same _ _ (λ k m. before (k + i) (omega arith))))
        ∙ sym (highest (λ k. get_or (set u (300 + i) v) (k + i) 0))
        ∙ ap (λ (n : ℕ). summed exponents (λ k. get_or (set u (300 + i) v) (k + n) 0)) (sym w)

-- as the code's loops have it: one of the first four bytes, with the register's, and a later one
pub folded_enter : (i c x : ℕ) (xs u : List ℕ) → i < 4 → i < length xs → 300 + i < length u → x ≡ bit_xor (get_or xs i 0) (c / 2 ^ (8 * i) % 256)
    → Folded i (entered c xs) u → Folded (i + 1) (entered c xs) (set u (300 + i) x)
folded_enter i c x xs u h l m e f =
    folded_next i x (entered c xs) u m
    (e ∙ sym (entered_at c i xs l) ∙ sym (xor_zero_r (get_or (entered c xs) i 0))
    ∙ ap (bit_xor (get_or (entered c xs) i 0)) (sym (lower_same _ (λ k. 0) (λ k g. f.clear (k + i) (omega arith)) ∙ lower-zero)))
    f

pub folded_later : (i c x : ℕ) (xs u : List ℕ) → c < 2 ^ 32 → 4 ≤ i → i < length xs → 300 + i < length u → x ≡ summed lower (λ k. get_or u (k + i) 0)
    → Folded i (entered c xs) u → Folded (i + 1) (entered c xs) (set u (300 + i) (bit_xor (get_or xs i 0) x))
folded_later i c x xs u b h l m e f =
    folded_next i (bit_xor (get_or xs i 0) x) (entered c xs) u m (ap₂ bit_xor (sym (entered_later c i xs b h l)) e) f

-- what is added to a byte, as the code has it
pub lower-sum : (i : ℕ) (u : List ℕ)
    → bit_xor (get_or u (155 + i) 0) (bit_xor (get_or u (117 + i) 0) (bit_xor (get_or u (89 + i) 0) (get_or u i 0))) ≡ summed lower (λ k. get_or u (k + i) 0)
unfolding summed
lower-sum i u =
    ap (λ (x : ℕ). bit_xor (get_or u (155 + i) 0) (bit_xor (get_or u (117 + i) 0) (bit_xor (get_or u (89 + i) 0) x)))
    (ap (λ (j : ℕ). get_or u j 0) (sym (zero-add i)) ∙ sym (xor_zero_r (get_or u (0 + i) 0)))

-- ---- the register

-- one byte more
take_next : (j : ℕ) (xs : List ℕ) → j < length xs → run 0 (bits (take (suc j) xs)) ≡ run (run 0 (bits (take j xs))) (bits_of 8 (get_or xs j 0))
take_next j xs h =
    ap (λ (l : List ℕ). run 0 (bits l)) (take-suc xs j 0 h)
    ∙ parts_join 0 (take j xs) (get_or xs j 0 ∷ [])
    ∙ run-cons (run 0 (bits (take j xs))) (get_or xs j 0) []
    ∙ run-nil (run (run 0 (bits (take j xs))) (bits_of 8 (get_or xs j 0)))

-- the zero bytes at the start leave it zero
clear_run : (k : ℕ) (u : List ℕ) → Clear u → 300 ≤ length u → k ≤ 300 → run 0 (bits (take k u)) ≡ 0
clear_run zero u h l m = run-nil 0
clear_run (suc k) u h l m =
    take_next k u (omega arith)
    ∙ ap₂ (λ (r x : ℕ). run r (bits_of 8 x)) (clear_run k u h l (omega arith)) (h k (omega arith))
    ∙ still

-- after i bytes of the message it is the sum over the exponents k of those after k + i bytes of u
sums-run : (i n : ℕ) (d u : List ℕ) → Bytes u → Folded n d u → n ≤ length d → 300 + n ≤ length u → i ≤ n
    → run 0 (bits (take i d)) ≡ summed exponents (λ k. run 0 (bits (take (k + i) u)))
sums-run zero n d u b f l m h =
    run-nil 0 ∙ sym all_zero_lem
    ∙ sym (all_same _ (λ k. 0) (λ k g. ap (λ (j : ℕ). run 0 (bits (take j u))) (add-zero k) ∙ clear_run k u f.clear (omega arith) g))
sums-run (suc i) n d u b f l m h =
    take_next i d (omega arith)
    ∙ ap₂ (λ (r x : ℕ). run r (bits_of 8 x)) (sums-run i n d u b f l m (omega arith)) (f.sums i (omega arith))
    ∙ summed_byte exponents (λ k. run 0 (bits (take (k + i) u))) (λ k. get_or u (k + i) 0) (λ k. b (k + i))
    ∙ all_same _ _
    (λ k g. sym (take_next (k + i) u (omega arith)) ∙ ap (λ (j : ℕ). run 0 (bits (take j u))) (sym (add-suc k i)))

-- after n bytes of u the next k go in from a register of zero, and that register goes through as many zeros
parts_run : (k n : ℕ) (u : List ℕ) → 300 + n ≤ length u → k ≤ 300
    → run 0 (bits (take (k + n) u)) ≡ bit_xor (run 0 (bits (take k (take 300 (drop n u))))) (zero_steps (8 * k) (run 0 (bits (take n u))))
parts_run k n u h l =
    ap (λ (j : ℕ). run 0 (bits (take j u))) (add_comm k n)
    ∙ ap (λ (xs : List ℕ). run 0 (bits xs)) (take-add n k u)
    ∙ parts_join 0 (take n u) (take k (drop n u))
    ∙ ap (λ (r : ℕ). run r (bits (take k (drop n u)))) (sym (xor_zero_l c))
    ∙ run_linear 0 c (take k (drop n u))
    ∙ ap₂ bit_xor (ap (λ (xs : List ℕ). run 0 (bits xs)) (sym (take-take k 300 (drop n u) l)))
    (run-zeros c (take k (drop n u)) ∙ ap (λ (j : ℕ). zero_steps j c) (length-bits (take k (drop n u)) ∙ ap (λ (j : ℕ). 8 * j) size))
  where
    c : ℕ
    c = run 0 (bits (take n u))

    size : length (take k (drop n u)) ≡ k
    size = length-take-le k (drop n u) (omega (arith, length-drop n u))

-- what the last 300 bytes of the fold add up to is the register after the message
pub folded_run : (c : ℕ) (xs u : List ℕ) → Bytes xs → Bytes u → c < 2 ^ 32 → 4 ≤ length xs → length xs + 300 ≤ length u
    → Folded (length xs) (entered c xs) u → summed exponents (λ k. run 0 (bits (take k (take 300 (drop (length xs) u))))) ≡ run c (bits xs)
folded_run c xs u bx bu h l m f =
    sym (xor_zero_r _)
    ∙ ap (bit_xor (summed exponents last)) (sym (gone (bits (take (length xs) u))))
    ∙ sym (summed_xor exponents last (λ k. zero_steps (8 * k) (run 0 (bits (take (length xs) u)))))
    ∙ sym (all_same _ _ (λ k g. parts_run k (length xs) u (omega arith) g))
    ∙ sym (sums-run (length xs) (length xs) (entered c xs) u bu f (omega (arith, length-entered c xs)) (omega arith) (omega arith))
    ∙ ap (λ (l : List ℕ). run 0 (bits l)) (ap (λ (n : ℕ). take n (entered c xs)) (sym (length-entered c xs)) ∙ take-length (entered c xs))
    ∙ sym (entered-run c xs bx h l)
  where
    last : ℕ → ℕ
    last k = run 0 (bits (take k (take 300 (drop (length xs) u))))

-- the sum, as the code has it: each of the four registers from the one before it
pub last_sum : (xs : List ℕ) (a b c d : ℕ) → a ≡ run 0 (bits (take 89 xs)) → b ≡ run a (bits (take 28 (drop 89 xs)))
    → c ≡ run b (bits (take 38 (drop 117 xs))) → d ≡ run c (bits (take 145 (drop 155 xs)))
    → bit_xor d (bit_xor c (bit_xor b a)) ≡ summed exponents (λ k. run 0 (bits (take k xs)))
unfolding summed
last_sum xs a b c d ea eb ec ed =
    ap₂ bit_xor fd (ap₂ bit_xor fc (ap₂ bit_xor fb (ea ∙ sym (xor_zero_r (run 0 (bits (take 89 xs)))) ∙ ap (bit_xor (run 0 (bits (take 89 xs)))) (sym none))))
  where
    next : (j m x y : ℕ) → x ≡ run 0 (bits (take j xs)) → y ≡ run x (bits (take m (drop j xs))) → y ≡ run 0 (bits (take (j + m) xs))
    next j m x y ex ey =
        ey ∙ ap (λ (r : ℕ). run r (bits (take m (drop j xs)))) ex
        ∙ sym (parts_join 0 (take j xs) (take m (drop j xs)))
        ∙ ap (λ (l : List ℕ). run 0 (bits l)) (sym (take-add j m xs))

    fb : b ≡ run 0 (bits (take 117 xs))
    fb = next 89 28 a b ea eb

    fc : c ≡ run 0 (bits (take 155 xs))
    fc = next 117 38 b c fb ec

    fd : d ≡ run 0 (bits (take 300 xs))
    fd = next 155 145 c d fc ed

    none : bit_xor (run 0 (bits (take 0 xs))) 0 ≡ 0
    none = ap (λ (x : ℕ). bit_xor x 0) (run-nil 0)
