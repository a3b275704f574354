-- The register is linear in the message and in where it starts, and what is left of it after eight zero bits is a table's.
-- Assumes nothing.
use mathlib.Core.Path.{◌≡◌, refl, sym, ap, ap₂, ◌∙◌}
use mathlib.Core.Bool.{Bool, true, false}
use mathlib.Core.List.{List, [], ◌∷◌, ◌++◌}
use Prim.Native.Nat.{ℕ, zero, suc, ◌+◌, ◌*◌, ◌/◌, ◌%◌, ◌^◌, ◌<◌}
use native.Mathlib.Nat.{mod-lt, div-add-mod', pow-suc}
use native.Mathlib.Omega.{arith}
use lib.Arith.{digits_div, digits_mod}
use lib.Bits.{bit_xor, differ, xor_lt, xor_comm, xor_zero_r, xor_shifted, shifted_half, shifted_even}
use lib.Dec.{eqb, lit<}
use lib.ListN.{length}
use lib.Pow.{split, pow_pos}
use Rattle.crc32.specs.Crc.{odd, differs, feedback, step, run, bits_of}
use Rattle.crc32.proofs.Xor.{two, xor_odd, xor_half, xor_assoc, xor_four}

-- ---- the lowest bit

-- a bit as a number
abbrev pub bit : Bool → ℕ
bit true = 1
bit false = 0

bit_lt : (b : Bool) → bit b < 2
bit_lt true = lit< tt
bit_lt false = lit< tt

pub bit_odd : (n : ℕ) → bit (odd n) ≡ n % 2
unfolding odd
bit_odd n = two (λ x. bit (eqb x 1) ≡ x) refl refl (n % 2) (mod-lt n (lit< tt))

eqb_differ : (x y : ℕ) → x < 2 → y < 2 → eqb (differ x y) 1 ≡ differs (eqb x 1) (eqb y 1)
eqb_differ x y hx hy =
    two (λ x. eqb (differ x y) 1 ≡ differs (eqb x 1) (eqb y 1)) refl
    (two (λ y. eqb (differ 1 y) 1 ≡ differs true (eqb y 1)) refl refl y hy) x hx

pub odd_xor : (a b : ℕ) → odd (bit_xor a b) ≡ differs (odd a) (odd b)
unfolding odd
odd_xor a b =
    ap (λ (x : ℕ). eqb x 1) (xor_odd a b) ∙ eqb_differ (a % 2) (b % 2) (mod-lt a (lit< tt)) (mod-lt b (lit< tt))

pub odd_at : (a : ℕ) (b : Bool) → a % 2 ≡ bit b → odd a ≡ b
unfolding odd
odd_at a b e = ap (λ (x : ℕ). eqb x 1) e ∙ at b
  where
    at : (b : Bool) → eqb (bit b) 1 ≡ b
    at true = refl
    at false = refl

pub feedback-differs : (p q : Bool) → feedback (differs p q) ≡ bit_xor (feedback p) (feedback q)
feedback-differs false q = refl
feedback-differs true true = refl
feedback-differs true false = refl

differs_comm : (p q : Bool) → differs p q ≡ differs q p
differs_comm false false = refl
differs_comm false true = refl
differs_comm true false = refl
differs_comm true true = refl

-- ---- the register stays below 2 ^ 32

pub feedback_lt : (p : Bool) → feedback p < 2 ^ 32
feedback_lt true = lit< tt
feedback_lt false = lit< tt

pub step_lt : (c : ℕ) (b : Bool) → c < 2 ^ 32 → step c b < 2 ^ 32
unfolding step
step_lt c b h = xor_lt 32 (c / 2) (feedback (differs b (odd c))) (omega arith) (feedback_lt (differs b (odd c)))

pub run_lt : (c : ℕ) (bs : List Bool) → c < 2 ^ 32 → run c bs < 2 ^ 32
unfolding run
run_lt c [] h = h
run_lt c (b ∷ bs) h = run_lt (step c b) bs (step_lt c b h)

pub run-append : (c : ℕ) (xs ys : List Bool) → run c (xs ++ ys) ≡ run (run c xs) ys
unfolding run
run-append c [] ys = refl
run-append c (x ∷ xs) ys = run-append (step c x) xs ys

-- ---- zero bits

-- k steps with a zero bit
unfoldable pub zero_steps : ℕ → ℕ → ℕ
zero_steps zero c = c
zero_steps (suc k) c = zero_steps k (step c false)

pub step_linear : (a b : ℕ) → step (bit_xor a b) false ≡ bit_xor (step a false) (step b false)
unfolding step
step_linear a b =
    ap₂ bit_xor (xor_half a b) (ap feedback (odd_xor a b) ∙ feedback-differs (odd a) (odd b))
    ∙ xor_four (a / 2) (b / 2) (feedback (odd a)) (feedback (odd b))

pub zero_steps_linear : (k a b : ℕ) → zero_steps k (bit_xor a b) ≡ bit_xor (zero_steps k a) (zero_steps k b)
unfolding zero_steps
zero_steps_linear zero a b = refl
zero_steps_linear (suc k) a b = ap (zero_steps k) (step_linear a b) ∙ zero_steps_linear k (step a false) (step b false)

-- what stands above the k low bits is shifted down
pub zero_steps_shifted : (k h : ℕ) → zero_steps k (h * 2 ^ k) ≡ h
unfolding zero_steps step
zero_steps_shifted zero h = omega arith
zero_steps_shifted (suc k) h =
    ap (zero_steps k)
    (ap₂ bit_xor (shifted_half h k) (ap feedback (odd_at (h * 2 ^ suc k) false (shifted_even h k))) ∙ xor_zero_r (h * 2 ^ k))
    ∙ zero_steps_shifted k h

-- so only the k low bits want computing
pub zero_steps_split : (k x : ℕ) → zero_steps k x ≡ bit_xor (x / 2 ^ k) (zero_steps k (x % 2 ^ k))
zero_steps_split k x =
    ap (zero_steps k) (sym (split x k) ∙ sym (xor_shifted (x / 2 ^ k) k (x % 2 ^ k) (mod-lt x (pow_pos k))))
    ∙ zero_steps_linear k (x / 2 ^ k * 2 ^ k) (x % 2 ^ k)
    ∙ ap (λ (y : ℕ). bit_xor y (zero_steps k (x % 2 ^ k))) (zero_steps_shifted k (x / 2 ^ k))

-- ---- the message may go into the register first

-- the number whose bits these are, lowest first
unfoldable pub value : List Bool → ℕ
value [] = 0
value (b ∷ bs) = value bs * 2 + bit b

pub value_bits_of : (k n : ℕ) → n < 2 ^ k → value (bits_of k n) ≡ n
unfolding value bits_of
value_bits_of zero n h = omega arith
value_bits_of (suc k) n h =
    ap₂ (λ (x y : ℕ). x * 2 + y) (value_bits_of k (n / 2) (omega (arith, pow-suc 2 k))) (bit_odd n) ∙ div-add-mod' n 2

step_in : (c v : ℕ) (b : Bool) → bit_xor (step c b) v ≡ step (bit_xor c (v * 2 + bit b)) false
unfolding step
step_in c v b =
    xor_assoc (c / 2) (feedback (differs b (odd c))) v
    ∙ ap (bit_xor (c / 2)) (xor_comm (feedback (differs b (odd c))) v)
    ∙ sym (xor_assoc (c / 2) v (feedback (differs b (odd c))))
    ∙ ap₂ bit_xor
    (sym (xor_half c (v * 2 + bit b) ∙ ap (bit_xor (c / 2)) (digits_div v (bit_lt b))))
    (ap feedback
    (differs_comm b (odd c) ∙ sym (odd_xor c (v * 2 + bit b) ∙ ap (differs (odd c)) (odd_at (v * 2 + bit b) b (digits_mod v (bit_lt b))))))

pub run_zero_steps : (c : ℕ) (bs : List Bool) → run c bs ≡ zero_steps (length bs) (bit_xor c (value bs))
unfolding run zero_steps value
run_zero_steps c [] = sym (xor_zero_r c)
run_zero_steps c (b ∷ bs) = run_zero_steps (step c b) bs ∙ ap (zero_steps (length bs)) (step_in c (value bs) b)
