-- Byte order: that it is an order, and how it goes on byte by byte.
-- Assumes nothing.
use mathlib.Core.Path.{◌≡◌, refl, sym, ap, ap₂, ◌∙◌}
use mathlib.Core.Bool.{Bool, true, false}
use mathlib.Core.List.{List, [], ◌∷◌}
use Prim.Native.Nat.{ℕ, ◌≤◌, ◌<◌}
use native.Mathlib.Omega.{arith}
use lib.ListN.{length, get_or}
use lib.Dec.{ltb}
use borrow.Author.Tests.{ltb-true, ltb-false, lt-ltb, le-ltb, eq-eqb, ne_eqb}
use Rattle.std.specs.Ordering.{nat_cmp, ordering_then}
use Rattle.std.specs.Cmp.Lexicographic.{slice_cmp}
use Rattle.slices.specs.Order.{order, order_by}
use Rattle.slices.specs.Claims.{OrderSame, OrderFlips, OrderRises}
use Rattle.std.specs.declared.cmp.Ordering.{Ordering}
use Rattle.std.specs.declared.cmp.Ordering.TheVariants.{Less, Equal, Greater}

-- ---- one byte

-- what the two tests of a byte say of it
module _ (x y : ℕ) where
  pub by_below : (o : Ordering) → x < y → order_by (ltb x y) (ltb y x) o ≡ Less
  unfolding order_by
  by_below o h = rw (lt-ltb x y h)

  pub by_above : (o : Ordering) → y < x → order_by (ltb x y) (ltb y x) o ≡ Greater
  unfolding order_by
  by_above o h = rw (le-ltb x y (omega arith), lt-ltb y x h)

  pub by_same : (o : Ordering) → x ≡ y → order_by (ltb x y) (ltb y x) o ≡ o
  unfolding order_by
  by_same o e = rw (le-ltb x y (omega arith), le-ltb y x (omega arith))

  -- the three cases of a byte
  pub bytewise : (P : Type 0) → (x < y → P) → (y < x → P) → (x ≡ y → P) → P
  bytewise P f g k = go (ltb x y) (ltb y x) refl refl
    where
      go : (p q : Bool) → ltb x y ≡ p → ltb y x ≡ q → P
      go true q a b = f (ltb-true x y a)
      go false true a b = g (ltb-true y x b)
      go false false a b = k (omega (arith, ltb-false x y a, ltb-false y x b))

no_below_same : Less ≡ Equal → ⊥
no_below_same e = let z : ◌≡◌ {A = ℕ} 0 1 = cc in omega arith

no_above_same : Greater ≡ Equal → ⊥
no_above_same e = let z : ◌≡◌ {A = ℕ} 0 1 = cc in omega arith

no_above_below : Greater ≡ Less → ⊥
no_above_below e = let z : ◌≡◌ {A = ℕ} 0 1 = cc in omega arith

-- ---- the order

pub order_refl : (xs : List ℕ) → order xs xs ≡ Equal
unfolding order
order_refl [] = refl
order_refl (x ∷ xs) = by_same x x (order xs xs) refl ∙ order_refl xs

same_order : (xs ys : List ℕ) → order xs ys ≡ Equal → xs ≡ ys
unfolding order
same_order [] [] e = refl
same_order [] (y ∷ ys) e = absurd (no_below_same e)
same_order (x ∷ xs) [] e = absurd (no_above_same e)
same_order (x ∷ xs) (y ∷ ys) e =
    bytewise x y ((x ∷ xs) ≡ (y ∷ ys)) (λ h. absurd (no_below_same (sym (by_below x y (order xs ys) h) ∙ e)))
    (λ h. absurd (no_above_same (sym (by_above x y (order xs ys) h) ∙ e)))
    (λ h. ap₂ ◌∷◌ h (same_order xs ys (sym (by_same x y (order xs ys) h) ∙ e)))

pub order_same : OrderSame
order_same xs ys = (same_order xs ys, λ e. ap (order xs) (sym e) ∙ order_refl xs)

-- seen from the other side
unfoldable flipped : Ordering → Ordering
flipped Less = Greater
flipped Equal = Equal
flipped Greater = Less

order_flipped : (xs ys : List ℕ) → order ys xs ≡ flipped (order xs ys)
unfolding order flipped
order_flipped [] [] = refl
order_flipped [] (y ∷ ys) = refl
order_flipped (x ∷ xs) [] = refl
order_flipped (x ∷ xs) (y ∷ ys) =
    bytewise x y (order_by (ltb y x) (ltb x y) (order ys xs) ≡ flipped (order_by (ltb x y) (ltb y x) (order xs ys)))
    (λ h. by_above y x (order ys xs) h ∙ sym (ap flipped (by_below x y (order xs ys) h)))
    (λ h. by_below y x (order ys xs) h ∙ sym (ap flipped (by_above x y (order xs ys) h)))
    (λ h. by_same y x (order ys xs) (sym h) ∙ order_flipped xs ys ∙ sym (ap flipped (by_same x y (order xs ys) h)))

pub order_flips : OrderFlips
unfolding flipped
order_flips xs ys = (λ e. order_flipped xs ys ∙ ap flipped e, λ e. order_flipped xs ys ∙ ap flipped e)

-- the first byte decides between the first and the third, or none of the two does
module _ (x y z : ℕ) (xs ys zs : List ℕ) (rec : order xs ys ≡ Less → order ys zs ≡ Less → order xs zs ≡ Less) where
  rises_on : order_by (ltb x y) (ltb y x) (order xs ys) ≡ Less → order_by (ltb y z) (ltb z y) (order ys zs) ≡ Less
      → order_by (ltb x z) (ltb z x) (order xs zs) ≡ Less
  rises_on e f =
      bytewise x z (order_by (ltb x z) (ltb z x) (order xs zs) ≡ Less) (λ h. by_below x z (order xs zs) h)
      (λ h. absurd (omega (arith, not_above x y (order xs ys) e, not_above y z (order ys zs) f)))
      (λ h. by_same x z (order xs zs) h
      ∙ rec (sym (by_same x y (order xs ys) (omega (arith, not_above x y (order xs ys) e, not_above y z (order ys zs) f))) ∙ e)
      (sym (by_same y z (order ys zs) (omega (arith, not_above x y (order xs ys) e, not_above y z (order ys zs) f))) ∙ f))
    where
      not_above : (a b : ℕ) (o : Ordering) → order_by (ltb a b) (ltb b a) o ≡ Less → a ≤ b
      not_above a b o g =
          bytewise a b (a ≤ b) (λ h. omega arith) (λ h. absurd (no_above_below (sym (by_above a b o h) ∙ g))) (λ h. omega arith)

pub order_rises : OrderRises
unfolding order
order_rises [] [] zs e f = f
order_rises [] (y ∷ ys) [] e f = absurd (no_above_below f)
order_rises [] (y ∷ ys) (z ∷ zs) e f = refl
order_rises (x ∷ xs) [] zs e f = absurd (no_above_below e)
order_rises (x ∷ xs) (y ∷ ys) [] e f = f
order_rises (x ∷ xs) (y ∷ ys) (z ∷ zs) e f = rises_on x y z xs ys zs (order_rises xs ys zs) e f

-- ---- the order of std's slices

pub order_by_cmp : (xs ys : List ℕ) → slice_cmp nat_cmp xs ys ≡ order xs ys
unfolding order order_by
order_by_cmp [] [] = refl
order_by_cmp [] (y ∷ ys) = refl
order_by_cmp (x ∷ xs) [] = refl
order_by_cmp (x ∷ xs) (y ∷ ys) =
    ap (ordering_then (nat_cmp x y)) (order_by_cmp xs ys)
    ∙ bytewise x y (ordering_then (nat_cmp x y) (order xs ys) ≡ order_by (ltb x y) (ltb y x) (order xs ys))
    (λ h. rw (lt-ltb x y h))
    (λ h. rw (le-ltb x y (omega arith), ne_eqb x y (λ e. omega arith), lt-ltb y x h))
    (λ h. rw (le-ltb x y (omega arith), eq-eqb x y h, le-ltb y x (omega arith)))

-- ---- the first byte decides where it differs

pub first_below : (xs ys : List ℕ) → 0 < length xs → 0 < length ys → get_or xs 0 0 < get_or ys 0 0 → Less ≡ order xs ys
unfolding order
first_below [] ys h k l = absurd (omega (arith, h))
first_below (x ∷ xs) [] h k l = absurd (omega (arith, k))
first_below (x ∷ xs) (y ∷ ys) h k l = sym (by_below x y (order xs ys) l)

pub first_above : (xs ys : List ℕ) → 0 < length xs → 0 < length ys → get_or ys 0 0 < get_or xs 0 0 → Greater ≡ order xs ys
unfolding order
first_above [] ys h k l = absurd (omega (arith, h))
first_above (x ∷ xs) [] h k l = absurd (omega (arith, k))
first_above (x ∷ xs) (y ∷ ys) h k l = sym (by_above x y (order xs ys) l)
