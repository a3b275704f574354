-- Decimal and hex can be read back: no two numbers, and no two runs of bytes, are written alike.
-- Assumes nothing.
use mathlib.Core.Path.{◌≡◌, refl, ap, ap₂, ◌∙◌}
use mathlib.Core.List.{List, [], ◌∷◌, ◌++◌}
use Prim.Native.Nat.{ℕ, zero, suc, ◌+◌, ◌*◌, ◌-◌, ◌/◌, ◌%◌, ◌≤◌, ◌<◌}
use native.Mathlib.Omega.{arith}
use lib.Dec.{ltb}
use borrow.Author.Tests.{ltb-true, ltb-false, lt-ltb, le-ltb}
use Rattle.listing.specs.Digits.{digit, hex_run, decimal}
use Rattle.listing.specs.Claims.{value_on, digit_value, bytes_of, DecimalReads, HexReads}
use Rattle.listing.proofs.Writes.{by_test}
use Rattle.listing.proofs.Notation.{digit_low, digit_high, decimal-one, decimal_more}

value_append : (a : ℕ) (xs : List ℕ) (d : ℕ) → value_on a (xs ++ (d ∷ [])) ≡ 10 * value_on a xs + (d - 48)
unfolding value_on
value_append a [] d = refl
value_append a (x ∷ xs) d = value_append (10 * a + (x - 48)) xs d

low : (d : ℕ) → d < 10 → digit d - 48 ≡ d
low d h = omega (arith, digit_low d (48 + d) h refl)

one-digit : (n : ℕ) → n < 10 → value_on 0 (digit n ∷ []) ≡ n
unfolding value_on
one-digit n h = omega (arith, low n h)

reads_below : (k n : ℕ) → n < k → value_on 0 (decimal n) ≡ n
reads_below zero n h = absurd (omega arith)
reads_below (suc k) n h =
    by_test (ltb n 10)
    (λ yes. ap (value_on 0) (decimal-one n (ltb-true n 10 yes)) ∙ one-digit n (ltb-true n 10 yes))
    (λ no.
    let big : 10 ≤ n = ltb-false n 10 no in
    let e : 10 * (n / 10) + n % 10 ≡ n = omega arith in
    ap (value_on 0) (decimal_more n big) ∙ value_append 0 (decimal (n / 10)) (digit (n % 10))
    ∙ ap₂ (λ (a b : ℕ). 10 * a + b) (reads_below k (n / 10) (omega arith)) (low (n % 10) (omega arith)) ∙ e)

pub decimal-reads : DecimalReads
decimal-reads n = reads_below (suc n) n (omega arith)

digit-reads : (d : ℕ) → d < 16 → digit_value (digit d) ≡ d
unfolding digit_value
digit-reads d h =
    by_test (ltb d 10)
    (λ yes.
    let e : 48 + d ≡ digit d = digit_low d (48 + d) (ltb-true d 10 yes) refl in
    let f : digit d - 48 ≡ d = omega arith in
    simp (lt-ltb (digit d) 58 (omega (arith, ltb-true d 10 yes))) f)
    (λ no.
    let e : 87 + d ≡ digit d = digit_high d (87 + d) (ltb-false d 10 no) refl in
    let f : digit d - 87 ≡ d = omega arith in
    simp (le-ltb (digit d) 58 (omega (arith, ltb-false d 10 no))) f)

pub hex-reads : HexReads
unfolding bytes_of hex_run
hex-reads [] h = refl
hex-reads (b ∷ bs) h =
    let small : b < 256 = h 0 in
    let e : 16 * (b / 16) + b % 16 ≡ b = omega arith in
    ap₂ (λ (x : ℕ) (xs : List ℕ). x ∷ xs)
    (ap₂ (λ (x y : ℕ). 16 * x + y) (digit-reads (b / 16) (omega arith)) (digit-reads (b % 16) (omega arith)) ∙ e)
    (hex-reads bs (λ i. h (suc i)))
