-- Sums over the exponents, and why the register does not tell the fold from the message: the sum over the exponents k of a register after k zero bytes
-- is 0, for each register that a message leaves (`gone`). It is so for the polynomial, by computing, and it stays so at each step.
-- Assumes nothing.
use mathlib.Core.Path.{◌≡◌, refl, sym, ap, ap₂, ◌∙◌}
use mathlib.Core.Bool.{Bool, true, false}
use mathlib.Core.List.{List, [], ◌∷◌}
use Prim.Native.Nat.{ℕ, zero, suc, ◌*◌, ◌/◌, ◌≤◌, ◌<◌}
use native.Mathlib.Omega.{arith}
use lib.Bits.{bit_xor, xor_lt, xor_comm}
use lib.Dec.{lit<, lit≤}
use Rattle.crc32.specs.Crc.{odd, feedback, step, run, bits_of}
use Rattle.crc32.proofs.Xor.{xor_assoc, xor_four}
use Rattle.crc32.proofs.Steps.{zero_steps, step_linear, zero_steps_linear, feedback-differs}
use Rattle.crc32.proofs.Wide.{byte_steps, still}
use Rattle.crc32_fold.specs.Fold.{lower, exponents, summed}

-- ---- sums

pub summed_same : (ks : List ℕ) (f g : ℕ → ℕ) → ((k : ℕ) → f k ≡ g k) → summed ks f ≡ summed ks g
unfolding summed
summed_same [] f g h = refl
summed_same (k ∷ ks) f g h = ap₂ bit_xor (h k) (summed_same ks f g h)

pub summed_xor : (ks : List ℕ) (f g : ℕ → ℕ) → summed ks (λ k. bit_xor (f k) (g k)) ≡ bit_xor (summed ks f) (summed ks g)
unfolding summed
summed_xor [] f g = refl
summed_xor (k ∷ ks) f g =
    ap (bit_xor (bit_xor (f k) (g k))) (summed_xor ks f g) ∙ xor_four (f k) (g k) (summed ks f) (summed ks g)

summed_lt : (ks : List ℕ) (f : ℕ → ℕ) → ((k : ℕ) → f k < 256) → summed ks f < 256
unfolding summed
summed_lt [] f h = lit< tt
summed_lt (k ∷ ks) f h = xor_lt 8 (f k) (summed ks f) (h k) (summed_lt ks f h)

-- only the exponents count
pub lower_same : (f g : ℕ → ℕ) → ((k : ℕ) → k ≤ 155 → f k ≡ g k) → summed lower f ≡ summed lower g
unfolding summed
lower_same f g h =
    ap₂ bit_xor (h 155 (lit≤ tt))
    (ap₂ bit_xor (h 117 (lit≤ tt)) (ap₂ bit_xor (h 89 (lit≤ tt)) (ap (λ (x : ℕ). bit_xor x 0) (h 0 (lit≤ tt)))))

pub highest : (f : ℕ → ℕ) → summed exponents f ≡ bit_xor (f 300) (summed lower f)
unfolding summed
highest f = refl

pub all_same : (f g : ℕ → ℕ) → ((k : ℕ) → k ≤ 300 → f k ≡ g k) → summed exponents f ≡ summed exponents g
all_same f g h =
    highest f ∙ ap₂ bit_xor (h 300 (lit≤ tt)) (lower_same f g (λ k l. h k (omega arith))) ∙ sym (highest g)

pub lower-zero : summed lower (λ k. 0) ≡ 0
unfolding summed
lower-zero = refl

pub all_zero_lem : summed exponents (λ k. 0) ≡ 0
unfolding summed
all_zero_lem = refl

-- ---- one byte

-- the register is linear in itself and in the byte
byte_xor : (a b x y : ℕ) → x < 256 → y < 256 → run (bit_xor a b) (bits_of 8 (bit_xor x y)) ≡ bit_xor (run a (bits_of 8 x)) (run b (bits_of 8 y))
byte_xor a b x y hx hy =
    byte_steps (bit_xor a b) (bit_xor x y) (xor_lt 8 x y hx hy)
    ∙ ap (zero_steps 8) (xor_four a b x y)
    ∙ zero_steps_linear 8 (bit_xor a x) (bit_xor b y)
    ∙ ap₂ bit_xor (sym (byte_steps a x hx)) (sym (byte_steps b y hy))

pub summed_byte : (ks : List ℕ) (r x : ℕ → ℕ) → ((k : ℕ) → x k < 256)
    → run (summed ks r) (bits_of 8 (summed ks x)) ≡ summed ks (λ k. run (r k) (bits_of 8 (x k)))
unfolding summed
summed_byte [] r x h = still
summed_byte (k ∷ ks) r x h =
    byte_xor (r k) (summed ks r) (x k) (summed ks x) (h k) (summed_lt ks x h)
    ∙ ap (bit_xor (run (r k) (bits_of 8 (x k)))) (summed_byte ks r x h)

-- ---- what is gone

-- the sum over ks of a register after this many zero bytes
abbrev pub behind : List ℕ → ℕ → ℕ
behind ks c = summed ks (λ k. zero_steps (8 * k) c)

rest_step : step 0 false ≡ 0
unfolding step odd
rest_step = refl

summed-step : (ks : List ℕ) (f : ℕ → ℕ) → summed ks (λ k. step (f k) false) ≡ step (summed ks f) false
unfolding summed
summed-step [] f = sym rest_step
summed-step (k ∷ ks) f = ap (bit_xor (step (f k) false)) (summed-step ks f) ∙ sym (step_linear (f k) (summed ks f))

zero_steps_step : (k c : ℕ) → zero_steps k (step c false) ≡ step (zero_steps k c) false
unfolding zero_steps
zero_steps_step zero c = refl
zero_steps_step (suc k) c = zero_steps_step k (step c false)

-- a bit of the message adds the polynomial
step-split : (c : ℕ) (b : Bool) → step c b ≡ bit_xor (step c false) (feedback b)
unfolding step
step-split c b =
    ap (bit_xor (c / 2)) (feedback-differs b (odd c) ∙ xor_comm (feedback b) (feedback (odd c)))
    ∙ sym (xor_assoc (c / 2) (feedback (odd c)) (feedback b))

module _ (ks : List ℕ) (dead : (b : Bool) → behind ks (feedback b) ≡ 0) where
  gone-step : (c : ℕ) (b : Bool) → behind ks c ≡ 0 → behind ks (step c b) ≡ 0
  gone-step c b e =
      ap (behind ks) (step-split c b)
      ∙ summed_same ks _ _ (λ k. zero_steps_linear (8 * k) (step c false) (feedback b))
      ∙ summed_xor ks (λ k. zero_steps (8 * k) (step c false)) (λ k. zero_steps (8 * k) (feedback b))
      ∙ ap₂ bit_xor
      (summed_same ks _ _ (λ k. zero_steps_step (8 * k) c) ∙ summed-step ks (λ k. zero_steps (8 * k) c) ∙ ap (λ (x : ℕ). step x false) e ∙ rest_step)
      (dead b)

  gone-run : (bs : List Bool) (c : ℕ) → behind ks c ≡ 0 → behind ks (run c bs) ≡ 0
  unfolding run
  gone-run [] c e = e
  gone-run (b ∷ bs) c e = gone-run bs (step c b) (gone-step c b e)

-- the exponents are those of a multiple of the polynomial: computed
dead_feedback : (b : Bool) → behind exponents (feedback b) ≡ 0
unfolding summed zero_steps step odd
dead_feedback true = refl
dead_feedback false = refl

pub gone : (bs : List Bool) → summed exponents (λ k. zero_steps (8 * k) (run 0 bs)) ≡ 0
gone bs = gone-run exponents dead_feedback bs 0 (dead_feedback false)
