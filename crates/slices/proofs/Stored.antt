-- A run of elements stored one by one: what a loop's stores have put so far.
-- Assumes nothing.
use mathlib.Core.Path.{◌≡◌, refl, sym, ap, ◌∙◌}
use mathlib.Core.List.{List, [], ◌∷◌, ◌++◌}
use Prim.Native.Nat.{ℕ, ◌+◌, ◌≤◌, ◌<◌}
use native.Mathlib.Numerals.{add-one}
use native.Mathlib.Omega.{arith}
use lib.ListN.{length, get_or, set, take, length-set, length-take}
use lib.Seq.{take-suc, take-length}
use Rattle.slices.specs.Put.{put}
use Rattle.slices.proofs.Put.{put_none, put_one, put_on}

-- s is s₀ with the first i elements of xs put at p
pub record Stored {A : Type 0} (s₀ : List A) (p : ℕ) (xs s : List A) (i : ℕ) : Type 0 where
  pub small : i ≤ length xs
  pub long : length s ≡ length s₀
  pub is : s ≡ put s₀ p (take i xs)

pub start : {A : Type 0} (s : List A) (p : ℕ) (xs : List A) → Stored s p xs s 0
start s p xs = record { small = omega arith; long = refl; is = sym (put_none s p) }

pub turn : {A : Type 0} (s₀ : List A) (p : ℕ) (xs s : List A) (i : ℕ) (x d : A) → p + length xs ≤ length s₀ → i < length xs → x ≡ get_or xs i d → Stored s₀ p xs s i
    → Stored s₀ p xs (set s (p + i) x) (i + 1)
turn {A = A} s₀ p xs s i x d h l e w =
    let n : length (take i xs) ≡ i = omega (arith, length-take i xs) in
    record {
      small = omega arith;
      long = length-set s (p + i) x ∙ w.long;
      is =
          put_on s₀ s (set s (p + i) x) p (p + i) (take i xs) (x ∷ []) w.is (omega arith) (omega arith)
          (put_one s (p + i) x (omega (arith, w.long)))
          ∙ ap (put s₀ p) (ap (λ (y : A). take i xs ++ (y ∷ [])) e ∙ sym (take-suc xs i d l) ∙ ap (λ (k : ℕ). take k xs) (sym (add-one i)));
    }

pub end : {A : Type 0} (s₀ : List A) (p : ℕ) (xs s : List A) (i : ℕ) → length xs ≤ i → Stored s₀ p xs s i → s ≡ put s₀ p xs
end s₀ p xs s i h w =
    let e : i ≡ length xs = omega (arith, w.small) in
    w.is ∙ ap (put s₀ p) (ap (λ (k : ℕ). take k xs) e ∙ take-length xs)
