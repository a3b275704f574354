-- What the code's state wants, and the walk over what is left of a list.
-- Assumes nothing.
use mathlib.Core.Path.{◌≡◌, refl, sym, ap, ◌∙◌}
use mathlib.Core.Bool.{cond}
use mathlib.Core.List.{List, [], ◌∷◌}
use Prim.Native.Nat.{ℕ, zero, suc, ◌+◌, ◌-◌, ◌≤◌, ◌<◌}
use native.Mathlib.Numerals.{add-one}
use native.Mathlib.Omega.{arith}
use lib.Dec.{eqb, eqb-suc-zero}
use lib.ListN.{length, get_or, drop, replicate, drop_of_length-le}
use lib.Seq.{drop-cons}
use Rattle.utf8.specs.declared.Wanted.{Wanted}
use Rattle.utf8.specs.Utf8.{range, tail, among, grammar, Follow, no_character, following, begun, after, after_all, whole}
use Rattle.utf8.specs.Wanted.{ranges, wanted}
use Rattle.utf8.proofs.Rules.{among_in, among_under, among_over}

-- ---- one byte more

-- none left: a character begins
pub after-whole : (w : Wanted) (x : ℕ) → w.left ≡ 0 → after (wanted w) x ≡ begun grammar x
unfolding ranges after
after-whole w x e = rw e

ranges-tail : (n : ℕ) → ranges n tail ≡ replicate n tail
unfolding ranges
ranges-tail zero = refl
ranges-tail (suc n) = refl

module _ (w : Wanted) (x : ℕ) (some : w.left ≡ 0 → ⊥) where
  opened : after (wanted w) x ≡ cond (among (range w.low w.high) x) (following (replicate (w.left - 1) tail)) no_character
  unfolding ranges after
  opened =
      let e : w.left ≡ suc (w.left - 1) = omega arith in
      ap (λ (n : ℕ). after (following (ranges n (range w.low w.high))) x) e

  pub after_under : x < w.low → after (wanted w) x ≡ no_character
  after_under h = opened ∙ rw (among_under (range w.low w.high) x h)

  pub after_over : w.high < x → after (wanted w) x ≡ no_character
  after_over h = opened ∙ rw (among_over (range w.low w.high) x h)

  pub after_in : w.low ≤ x → x ≤ w.high → after (wanted w) x ≡ following (ranges (w.left - 1) tail)
  after_in h k = opened ∙ rw (among_in (range w.low w.high) x h k, ranges-tail (w.left - 1))

-- ---- what is left of a list

pub refused : (xs : List ℕ) → after_all no_character xs ≡ no_character
unfolding after_all after
refused [] = refl
refused (x ∷ xs) = refused xs

pub after_next : (f : Follow) (i : ℕ) (xs : List ℕ) → i < length xs → after_all f (drop i xs) ≡ after_all (after f (get_or xs i 0)) (drop (i + 1) xs)
unfolding after_all
after_next f i xs h = rw (add-one, drop-cons xs i 0)

pub after_end : (f : Follow) (i : ℕ) (xs : List ℕ) → length xs ≤ i → after_all f (drop i xs) ≡ f
unfolding after_all
after_end f i xs h = ap (after_all f) (drop_of_length-le xs h)

pub whole-wanted : (w : Wanted) → whole (wanted w) ≡ eqb w.left 0
unfolding whole ranges
whole-wanted w = by_left w.left
  where
    by_left : (n : ℕ) → whole (following (ranges n (range w.low w.high))) ≡ eqb n 0
    by_left zero = refl
    by_left (suc n) = sym (eqb-suc-zero n)
