-- 02, Ticket 2: the rounding gives the nearest whole number, at an exact half the even one, and there is one such number.
-- Assumes nothing.
use mathlib.Core.Path.{◌≡◌}
use Prim.Native.Nat.{ℕ, ◌+◌, ◌*◌, ◌/◌, ◌%◌, ◌≤◌, ◌<◌}
use native.Mathlib.Nat.{div-add-mod, mod-lt, mul-le-mul_left}
use native.Mathlib.Omega.{arith}
use lib.Dec.{ltb}
use borrow.Author.Tests.{ltb-true, ltb-false, lt-ltb, le-ltb}
use Rattle.listing.specs.Listing.{whole_bytes, half_even, fill_tenths}
use Rattle.listing.specs.Claims.{Rounded, HalfEven, HalfEvenOnly, FillRounded}
use Rattle.listing.proofs.Writes.{by_test}

-- ---- the three cases of the rounding

pub below_half : (a b : ℕ) → 2 * (a % b) < b → half_even a b ≡ a / b
unfolding half_even
below_half a b h = rw (lt-ltb (2 * (a % b)) b h)

pub above_half : (a b : ℕ) → b < 2 * (a % b) → half_even a b ≡ a / b + 1
unfolding half_even
above_half a b h = rw (le-ltb (2 * (a % b)) b (omega arith), lt-ltb b (2 * (a % b)) h)

pub at_half : (a b : ℕ) → b ≤ 2 * (a % b) → 2 * (a % b) ≤ b → half_even a b ≡ a / b + a / b % 2
unfolding half_even
at_half a b h k = rw (le-ltb (2 * (a % b)) b h, le-ltb b (2 * (a % b)) k)

-- ---- what each case gives

module _ (a b : ℕ) (pos : 0 < b) where
  whole : b * (a / b) + a % b ≡ a
  whole = div-add-mod a b

  rest : a % b < b
  rest = mod-lt a pos

  -- t is the quotient
  rounds_down : (t : ℕ) → t ≡ a / b → 2 * (a % b) ≤ b → (2 * (a % b) ≡ b → t % 2 ≡ 0) → Rounded a b t
  rounds_down t e h even =
      let w : b * t + a % b ≡ a = rw e whole in
      record {
        not_above = omega (arith, w);
        not_below = omega (arith, w);
        even_above = λ k. even (omega (arith, w, k, rest));
        even_below = λ k. even (omega (arith, w, k));
      }

  -- t is the quotient and 1
  rounds_up : (t : ℕ) → t ≡ a / b + 1 → b ≤ 2 * (a % b) → (2 * (a % b) ≡ b → t % 2 ≡ 0) → Rounded a b t
  rounds_up t e h even =
      let w : b * t + a % b ≡ a + b = rw e (omega (arith, whole)) in
      record {
        not_above = omega (arith, w);
        not_below = omega (arith, w, rest);
        even_above = λ k. even (omega (arith, w, k));
        even_below = λ k. even (omega (arith, w, k, rest));
      }

  rounds_even : (h : b ≤ 2 * (a % b)) → 2 * (a % b) ≤ b → Rounded a b (half_even a b)
  rounds_even h k =
      let t : ℕ = half_even a b in
      let e : t ≡ a / b + a / b % 2 = at_half a b h k in
      by_test (ltb (a / b % 2) 1)
      (λ yes. let none : a / b % 2 < 1 = ltb-true (a / b % 2) 1 yes in rounds_down t (omega arith) k (λ _. omega arith))
      (λ no. let one : 1 ≤ a / b % 2 = ltb-false (a / b % 2) 1 no in rounds_up t (omega arith) h (λ _. omega arith))

pub half_even_lem : HalfEven
half_even_lem a b pos =
    let d : ℕ = 2 * (a % b) in
    by_test (ltb d b)
    (λ yes. let less : d < b = ltb-true d b yes in rounds_down a b pos (half_even a b) (below_half a b less) (omega arith) (λ half. omega arith))
    (λ no.
    let most : b ≤ d = ltb-false d b no in
    by_test (ltb b d)
    (λ yes. let more : b < d = ltb-true b d yes in rounds_up a b pos (half_even a b) (above_half a b more) most (λ half. omega arith))
    (λ same. rounds_even a b pos most (ltb-false b d same)))

-- ---- there is one such number

-- of two, none is below the other
near : (a b t u : ℕ) → 0 < b → Rounded a b t → Rounded a b u → t < u → ⊥
near a b t u pos x y less =
    let one : b * (t + 1) ≤ b * u = mul-le-mul_left b (omega arith) in
    by_test (ltb (t + 1) u)
    (λ yes.
    let far : t + 1 < u = ltb-true (t + 1) u yes in
    let two : b * (t + 2) ≤ b * u = mul-le-mul_left b (omega arith) in
    omega (arith, two, x.not_below, y.not_above))
    (λ no.
    let close : u ≤ t + 1 = ltb-false (t + 1) u no in
    omega (arith, x.even_below (omega (arith, one, x.not_below, y.not_above)), y.even_above (omega (arith, one, x.not_below, y.not_above))))

rounded_one : (a b t u : ℕ) → 0 < b → Rounded a b t → Rounded a b u → t ≡ u
rounded_one a b t u pos x y =
    by_test (ltb t u)
    (λ yes. omega (arith, near a b t u pos x y (ltb-true t u yes)))
    (λ no.
    let most : u ≤ t = ltb-false t u no in
    by_test (ltb u t) (λ yes. omega (arith, near a b u t pos y x (ltb-true u t yes))) (λ same. let least : t ≤ u = ltb-false u t same in omega arith))

pub half_even_only : HalfEvenOnly
half_even_only a b t pos x = rounded_one a b t (half_even a b) pos x (half_even_lem a b pos)

pub fill_rounded : FillRounded
unfolding fill_tenths whole_bytes
fill_rounded resumed n h = half_even_lem (1000 * resumed) (n / 32768 * 32768) (omega arith)

-- ---- a number that is rounded grows by 1 at most

pub half_even_most : (a b : ℕ) → 0 < b → half_even a b ≤ a / b + 1
half_even_most a b pos =
    let x : Rounded a b (half_even a b) = half_even_lem a b pos in
    by_test (ltb (a / b + 1) (half_even a b))
    (λ yes.
    let far : a / b + 1 < half_even a b = ltb-true (a / b + 1) (half_even a b) yes in
    let two : b * (a / b + 2) ≤ b * half_even a b = mul-le-mul_left b (omega arith) in
    omega (arith, two, x.not_above, div-add-mod a b, mod-lt a pos))
    (λ no. ltb-false (a / b + 1) (half_even a b) no)
