-- Zero bytes cut off at a name's end, one after another.
-- Assumes nothing.
use mathlib.Core.Path.{◌≡◌, refl, sym, ap, ◌∙◌}
use mathlib.Core.Bool.{Bool, false, cond}
use mathlib.Core.List.{List, [], ◌∷◌, ◌++◌, append_assoc}
use Prim.Native.Nat.{ℕ, ◌+◌, ◌≤◌, ◌<◌}
use native.Mathlib.Omega.{arith}
use lib.Dec.{eqb}
use lib.ListN.{length, take, drop, take-append-drop}
use lib.Seq.{length-take-le}
use Rattle.std.proofs.Math.Seq.{take-append_seam}
use borrow.Author.Tests.{ne_eqb}
use Rattle.drive_commands.specs.Commands.{trim_on, trimmed, name_in}

-- ---- one byte at the end

trim_zero : (xs : List ℕ) → trimmed (xs ++ (0 ∷ [])) ≡ trimmed xs
unfolding trimmed trim_on
trim_zero [] = refl
trim_zero (x ∷ xs) = ap (trim_on x) (trim_zero xs)

on_some : (x : ℕ) (xs : List ℕ) → 0 < length xs → trim_on x xs ≡ x ∷ xs
unfolding trim_on
on_some x [] h = absurd (omega (arith, h))
on_some x (y ∷ ys) h = refl

trim_other : (xs : List ℕ) (b : ℕ) → eqb b 0 ≡ false → trimmed (xs ++ (b ∷ [])) ≡ xs ++ (b ∷ [])
unfolding trimmed trim_on
trim_other [] b e = ap (λ (t : Bool). cond t [] (b ∷ [])) e
trim_other (x ∷ xs) b e = ap (trim_on x) (trim_other xs b e) ∙ on_some x (xs ++ (b ∷ [])) (some xs)
  where
    some : (ys : List ℕ) → 0 < length (ys ++ (b ∷ []))
    some [] = omega arith
    some (y ∷ ys) = omega arith

-- ---- what is left of a name while zeros at its end are cut off

pub record Cut (operands name : List ℕ) : Type 0 where
  pub more : List ℕ
  pub parts : name ++ more ≡ operands
  pub few : length name ≤ 8
  pub same : trimmed name ≡ name_in operands

pub cut_start : (operands name : List ℕ) → 8 ≤ length operands → name ≡ take 8 operands → Cut operands name
unfolding name_in
cut_start operands name h e =
    record {
      more = drop 8 operands;
      parts = ap (λ (l : List ℕ). l ++ drop 8 operands) e ∙ take-append-drop 8 operands;
      few = let n : length name ≡ 8 = ap length e ∙ length-take-le 8 operands h in omega (arith, n);
      same = ap trimmed e;
    }

-- a zero at the end is cut off
pub cut_on : (operands name rest : List ℕ) (b : ℕ) → name ≡ rest ++ (b ∷ []) → length rest + 1 ≡ length name → b ≡ 0 → Cut operands name → Cut operands rest
cut_on operands name rest b e n z w =
    let f : name ≡ rest ++ (0 ∷ []) = e ∙ ap (λ (x : ℕ). rest ++ (x ∷ [])) z in
    record {
      more = 0 ∷ w.more;
      parts = sym (append_assoc rest (0 ∷ []) w.more) ∙ ap (λ (l : List ℕ). l ++ w.more) (sym f) ∙ w.parts;
      few = omega (arith, n, w.few);
      same = sym (trim_zero rest) ∙ ap trimmed (sym f) ∙ w.same;
    }

-- where no zero ends it, it is the name
pub cut_all : (operands name rest : List ℕ) (b : ℕ) → name ≡ rest ++ (b ∷ []) → (b ≡ 0 → ⊥) → Cut operands name → (length name ≤ 8) × (take (length name) operands ≡ name_in operands)
cut_all operands name rest b e f w =
    let t : trimmed name ≡ name = ap trimmed e ∙ trim_other rest b (ne_eqb b 0 f) ∙ sym e in
    (w.few, ap (take (length name)) (sym w.parts) ∙ take-append_seam name w.more ∙ sym t ∙ w.same)

pub cut_none : (operands name : List ℕ) → length name ≡ 0 → Cut operands name → (0 ≤ 8) × (take 0 operands ≡ name_in operands)
unfolding trimmed
cut_none operands [] z w = (omega arith, w.same)
cut_none operands (b ∷ bs) z w = absurd (omega (arith, z))
