-- A list of bytes cut at a place, zeros after it: by parts.
-- Assumes nothing.
use mathlib.Core.Path.{◌≡◌, refl, sym, ap, ap₂, ◌∙◌}
use mathlib.Core.Logic.{◌⊎◌, inl, inr}
use mathlib.Core.Bool.{Bool, true, false, ◌&&◌, false≢true}
use mathlib.Core.List.{List, [], ◌∷◌, ◌++◌, append-nil}
use Prim.Native.Nat.{ℕ, zero, suc, ◌-◌, ◌≤◌, ◌<◌}
use native.Mathlib.Omega.{arith}
use lib.Dec.{eqb}
use borrow.Author.Tests.{eqb-true}
use lib.ListN.{length, take, drop, get_or, length-take, length-append, length-replicate, replicate-append-replicate, drop_of_length-le}
use lib.Seq.{take_all}
use Rattle.slices.specs.Bytes.{zeros}
use Rattle.frame.specs.Frame.{all_zero}
use Rattle.frame.proofs.Tests.{and_left, and_right, le_or_lt}
use Rattle.cut.specs.Cut.{cut_at}

pub cut_none : (w : List ℕ) → cut_at 0 w ≡ zeros (length w)
unfolding cut_at
cut_none w = let e : length w - 0 ≡ length w = omega arith in ap zeros e

pub cut_cons : (m x : ℕ) (w : List ℕ) → cut_at (suc m) (x ∷ w) ≡ x ∷ cut_at m w
unfolding cut_at
cut_cons m x w = let e : length (x ∷ w) - suc m ≡ length w - m = omega arith in ap (λ (j : ℕ). x ∷ (take m w ++ zeros j)) e

pub length_cut : (m : ℕ) (w : List ℕ) → length (cut_at m w) ≡ length w
unfolding cut_at
length_cut m w = omega (arith, length-append (take m w) (zeros (length w - m)), length-take m w, length-replicate {A = ℕ} (length w - m) 0)

pub cut_all : (m : ℕ) (w : List ℕ) → length w ≤ m → cut_at m w ≡ w
unfolding cut_at
cut_all m w h =
    let e : length w - m ≡ 0 = omega arith in
    ap₂ (λ (a : List ℕ) (j : ℕ). a ++ zeros j) (take_all m w h) e ∙ append-nil w

-- the cut of two parts is the cut of each
pub cut_append : (m : ℕ) (u v : List ℕ) → cut_at m (u ++ v) ≡ cut_at m u ++ cut_at (m - length u) v
cut_append m [] v =
    let e : m - 0 ≡ m = omega arith in
    ap (λ (j : ℕ). cut_at j v) (sym e) ∙ ap (λ (a : List ℕ). a ++ cut_at (m - 0) v) (sym (cut_all m [] (omega arith)))
cut_append zero (x ∷ u) v =
    let e : 0 - length (x ∷ u) ≡ 0 = omega arith in
    cut_none (x ∷ (u ++ v))
    ∙ ap zeros (length-append (x ∷ u) v) ∙ sym (replicate-append-replicate (length (x ∷ u)) (length v) 0)
    ∙ ap₂ (λ (a b : List ℕ). a ++ b) (sym (cut_none (x ∷ u))) (sym (ap (λ (j : ℕ). cut_at j v) e ∙ cut_none v))
cut_append (suc m) (x ∷ u) v =
    let e : suc m - length (x ∷ u) ≡ m - length u = omega arith in
    cut_cons m x (u ++ v) ∙ ap (λ (a : List ℕ). x ∷ a) (cut_append m u v)
    ∙ ap₂ (λ (a : List ℕ) (j : ℕ). a ++ cut_at j v) (sym (cut_cons m x u)) (sym e)

-- all zeros
pub zero-zeros : (w : List ℕ) → all_zero w ≡ true → w ≡ zeros (length w)
unfolding all_zero
zero-zeros [] e = refl
zero-zeros (x ∷ w) e =
    ap₂ (λ (a : ℕ) (b : List ℕ). a ∷ b) (eqb-true x 0 (and_left (eqb x 0) (all_zero w) e)) (zero-zeros w (and_right (eqb x 0) (all_zero w) e))

pub zeros-zero : (n : ℕ) → all_zero (zeros n) ≡ true
unfolding all_zero
zeros-zero zero = refl
zeros-zero (suc n) = zeros-zero n

pub zero-append : (u v : List ℕ) → all_zero (u ++ v) ≡ all_zero u && all_zero v
unfolding all_zero
zero-append [] v = refl
zero-append (x ∷ u) v = ap (λ (b : Bool). eqb x 0 && b) (zero-append u v) ∙ sym (assoc (eqb x 0) (all_zero u) (all_zero v))
  where
    assoc : (a b c : Bool) → (a && b) && c ≡ a && (b && c)
    assoc true b c = refl
    assoc false b c = refl

pub cut_zeros : (m j : ℕ) → cut_at m (zeros j) ≡ zeros j
cut_zeros zero j = cut_none (zeros j) ∙ ap zeros (length-replicate j 0)
cut_zeros (suc m) zero = cut_all (suc m) [] (omega arith)
cut_zeros (suc m) (suc j) = cut_cons m 0 (zeros j) ∙ ap (λ (a : List ℕ). 0 ∷ a) (cut_zeros m j)

-- where what is missing is zeros, nothing is
pub cut_stored : (m : ℕ) (w : List ℕ) → all_zero (drop m w) ≡ true → cut_at m w ≡ w
cut_stored zero w e = cut_none w ∙ sym (zero-zeros w e)
cut_stored (suc m) [] e = cut_all (suc m) [] (omega arith)
cut_stored (suc m) (x ∷ w) e = cut_cons m x w ∙ ap (λ (a : List ℕ). x ∷ a) (cut_stored m w e)

-- where what is there is zeros, all is
pub cut_absent : (m : ℕ) (w : List ℕ) → all_zero (take m w) ≡ true → cut_at m w ≡ zeros (length w)
unfolding all_zero
cut_absent zero w e = cut_none w
cut_absent (suc m) [] e = cut_all (suc m) [] (omega arith)
cut_absent (suc m) (x ∷ w) e =
    cut_cons m x w ∙ ap₂ (λ (a : ℕ) (b : List ℕ). a ∷ b) (eqb-true x 0 (and_left (eqb x 0) (all_zero (take m w)) e)) (cut_absent m w (and_right (eqb x 0) (all_zero (take m w)) e))

-- a byte after the cut
pub cut_behind : (m i : ℕ) (w : List ℕ) → m ≤ i → get_or (cut_at m w) i 0 ≡ 0
cut_behind zero i w h = ap (λ (a : List ℕ). get_or a i 0) (cut_none w) ∙ none (length w) i
  where
    none : (j k : ℕ) → get_or (zeros j) k 0 ≡ 0
    none zero k = refl
    none (suc j) zero = refl
    none (suc j) (suc k) = none j k
cut_behind (suc m) i [] h = ap (λ (a : List ℕ). get_or a i 0) (cut_all (suc m) [] (omega arith))
cut_behind (suc m) zero (x ∷ w) h = absurd (omega arith)
cut_behind (suc m) (suc i) (x ∷ w) h = ap (λ (a : List ℕ). get_or a (suc i) 0) (cut_cons m x w) ∙ cut_behind m i w (omega arith)

-- a frame that does not count as stored is cut before its end
pub missing_some : (m : ℕ) (w : List ℕ) → all_zero (drop m w) ≡ false → m < length w
missing_some m w e = go (le_or_lt (length w) m)
  where
    go : (length w ≤ m) ⊎ (m < length w) → m < length w
    go (inr h) = h
    go (inl h) = absurd (false≢true (sym e ∙ (unfold all_zero in ap all_zero (drop_of_length-le w h))))
