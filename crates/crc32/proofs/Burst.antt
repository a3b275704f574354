-- CRC-32 tells apart two messages of one length that differ only within 32 adjacent bits.
-- A step can be undone: the bit that leaves the register stands in the sum's top bit, since the polynomial's is set. So two registers that meet after
-- n ≤ 32 steps agree above their n low bits (`agree`), and at the first place where the messages differ that gives the bits there (`window`).
-- Assumes nothing.
use mathlib.Core.Path.{◌≡◌, refl, sym, ap, ap₂, ◌∙◌}
use mathlib.Core.Bool.{Bool, true, false}
use mathlib.Core.List.{List, [], ◌∷◌, ◌++◌}
use Prim.Native.Nat.{ℕ, suc, ◌+◌, ◌-◌, ◌/◌, ◌%◌, ◌^◌, ◌≤◌, ◌<◌}
use native.Mathlib.Nat.{div-eq_of_lt, add-sub_of_le}
use native.Mathlib.Numerals.{one-add}
use native.Mathlib.Omega.{arith}
use lib.Bits.{bit_xor, xor_shr}
use lib.ListN.{length, take, drop, length-take, length-drop, take-append-drop}
use lib.Pow.{shr-shr}
use lib.Seq.{drop-drop, ext_get_or, get_or-take, get_or-drop}
use Rattle.slices.specs.Bytes.{Bytes}
use Rattle.crc32.specs.Crc.{odd, differs, feedback, step, run, bits_of, bits}
use Rattle.crc32.specs.Burst.{Within32}
use Rattle.crc32.proofs.Xor.{xor_cancel}
use Rattle.crc32.proofs.Steps.{step_lt, run_lt, run-append, bit, bit_odd, value, value_bits_of}

-- ---- one step, undone

differs_cancel : (p q r : Bool) → differs p r ≡ differs q r → p ≡ q
differs_cancel false false r e = refl
differs_cancel true true r e = refl
differs_cancel false true false e = e
differs_cancel false true true e = sym e
differs_cancel true false false e = e
differs_cancel true false true e = sym e

differs_cancel' : (p q r : Bool) → differs p q ≡ differs p r → q ≡ r
differs_cancel' false q r e = e
differs_cancel' true true true e = refl
differs_cancel' true false false e = refl
differs_cancel' true true false e = sym e
differs_cancel' true false true e = sym e

-- the polynomial's top bit is set
feedback_top : (p q : Bool) → feedback p / 2 ^ 31 ≡ feedback q / 2 ^ 31 → p ≡ q
feedback_top true true e = refl
feedback_top false false e = refl
feedback_top true false e = absurd (omega arith)
feedback_top false true e = absurd (omega arith)

-- the top bit after a step is the bit that was fed back
top : (c : ℕ) (b : Bool) → c < 2 ^ 32 → step c b / 2 ^ 31 ≡ feedback (differs b (odd c)) / 2 ^ 31
unfolding step
top c b h =
    xor_shr (c / 2) (feedback (differs b (odd c))) 31
    ∙ ap (λ (x : ℕ). bit_xor x (feedback (differs b (odd c)) / 2 ^ 31)) (div-eq_of_lt {n = c / 2} {m = 2 ^ 31} (omega arith))

fed : (c d : ℕ) (a b : Bool) → c < 2 ^ 32 → d < 2 ^ 32 → step c a / 2 ^ 31 ≡ step d b / 2 ^ 31 → differs a (odd c) ≡ differs b (odd d)
fed c d a b hc hd e = feedback_top _ _ (sym (top c a hc) ∙ e ∙ top d b hd)

-- what agrees from bit n on agrees at bit 31
higher : (x y n : ℕ) → n ≤ 31 → x / 2 ^ n ≡ y / 2 ^ n → x / 2 ^ 31 ≡ y / 2 ^ 31
higher x y n h e =
    ap (λ (k : ℕ). x / 2 ^ k) (sym (add-sub_of_le h)) ∙ sym (shr-shr x n (31 - n))
    ∙ ap (λ (z : ℕ). z / 2 ^ (31 - n)) e
    ∙ shr-shr y n (31 - n) ∙ ap (λ (k : ℕ). y / 2 ^ k) (add-sub_of_le h)

-- from bit n on after a step, from bit n + 1 on before it
back : (c d n : ℕ) (a b : Bool) → differs a (odd c) ≡ differs b (odd d) → step c a / 2 ^ n ≡ step d b / 2 ^ n → c / 2 ^ suc n ≡ d / 2 ^ suc n
unfolding step
back c d n a b q e =
    low c ∙ xor_cancel (c / 2 / 2 ^ n) (d / 2 / 2 ^ n) (feedback (differs a (odd c)) / 2 ^ n)
    (sym (xor_shr (c / 2) (feedback (differs a (odd c))) n) ∙ e ∙ xor_shr (d / 2) (feedback (differs b (odd d))) n
    ∙ ap (λ (p : Bool). bit_xor (d / 2 / 2 ^ n) (feedback p / 2 ^ n)) (sym q))
    ∙ sym (low d)
  where
    low : (x : ℕ) → x / 2 ^ suc n ≡ x / 2 / 2 ^ n
    low x = ap (λ (k : ℕ). x / 2 ^ k) (sym (one-add n)) ∙ sym (shr-shr x 1 n)

-- ---- the steps of a window, undone

agree : (v w : List Bool) (c d : ℕ) → c < 2 ^ 32 → d < 2 ^ 32 → length v ≡ length w → length v ≤ 32 → run c v ≡ run d w
    → c / 2 ^ length v ≡ d / 2 ^ length v
unfolding run
agree [] [] c d hc hd l m e = ap (λ (x : ℕ). x / 1) e
agree [] (b ∷ w) c d hc hd l m e = absurd (omega arith)
agree (a ∷ v) [] c d hc hd l m e = absurd (omega arith)
agree (a ∷ v) (b ∷ w) c d hc hd l m e =
    let s : step c a / 2 ^ length v ≡ step d b / 2 ^ length v
    = agree v w (step c a) (step d b) (step_lt c a hc) (step_lt d b hd) (omega arith) (omega arith) e in
    back c d (length v) a b (fed c d a b hc hd (higher (step c a) (step d b) (length v) (omega arith) s)) s

window : (v w : List Bool) (c : ℕ) → c < 2 ^ 32 → length v ≡ length w → length v ≤ 32 → run c v ≡ run c w → v ≡ w
unfolding run
window [] [] c h l m e = refl
window [] (b ∷ w) c h l m e = absurd (omega arith)
window (a ∷ v) [] c h l m e = absurd (omega arith)
window (a ∷ v) (b ∷ w) c h l m e =
    let s : step c a / 2 ^ length v ≡ step c b / 2 ^ length v
    = agree v w (step c a) (step c b) (step_lt c a h) (step_lt c b h) (omega arith) (omega arith) e in
    let p : a ≡ b = differs_cancel a b (odd c) (fed c c a b h h (higher (step c a) (step c b) (length v) (omega arith) s)) in
    ap₂ ◌∷◌ p
    (window v w (step c a) (step_lt c a h) (omega arith) (omega arith) (e ∙ ap (λ (x : Bool). run (step c x) w) (sym p)))

-- ---- what follows the window, undone

step_back : (c d : ℕ) (b : Bool) → c < 2 ^ 32 → d < 2 ^ 32 → step c b ≡ step d b → c ≡ d
step_back c d b hc hd e =
    let q : differs b (odd c) ≡ differs b (odd d) = fed c d b b hc hd (ap (λ (x : ℕ). x / 2 ^ 31) e) in
    let h : c / 2 ^ 1 ≡ d / 2 ^ 1 = back c d 0 b b q (ap (λ (x : ℕ). x / 1) e) in
    let o : c % 2 ≡ d % 2 = sym (bit_odd c) ∙ ap bit (differs_cancel' b (odd c) (odd d) q) ∙ bit_odd d in
    omega arith

run_back : (s : List Bool) (c d : ℕ) → c < 2 ^ 32 → d < 2 ^ 32 → run c s ≡ run d s → c ≡ d
unfolding run
run_back [] c d hc hd e = e
run_back (b ∷ s) c d hc hd e =
    step_back c d b hc hd (run_back s (step c b) (step d b) (step_lt c b hc) (step_lt d b hd) e)

-- ---- the theorem, on bits

pub burst_bits : (p v w s : List Bool) (c : ℕ) → c < 2 ^ 32 → length v ≡ length w → length v ≤ 32
    → run c (p ++ (v ++ s)) ≡ run c (p ++ (w ++ s)) → v ≡ w
burst_bits p v w s c h l m e =
    window v w (run c p) (run_lt c p h) l m
    (run_back s (run (run c p) v) (run (run c p) w) (run_lt (run c p) v (run_lt c p h)) (run_lt (run c p) w (run_lt c p h))
    (sym (three v) ∙ e ∙ three w))
  where
    three : (v : List Bool) → run c (p ++ (v ++ s)) ≡ run (run (run c p) v) s
    three v = run-append c p (v ++ s) ∙ run-append (run c p) v s

-- ---- from places to a window

whole : (k : ℕ) (x : List Bool) → take k x ++ (take 32 (drop k x) ++ drop (k + 32) x) ≡ x
whole k x =
    ap (λ (s : List Bool). take k x ++ s)
    (ap (λ (s : List Bool). take 32 (drop k x) ++ s) (sym (drop-drop 32 k x)) ∙ take-append-drop 32 (drop k x))
    ∙ take-append-drop k x

module _ (x y : List Bool) (k : ℕ) (h : Within32 x y k) where
  same_front : take k x ≡ take k y
  same_front =
      ext_get_or false (take k x) (take k y) (simp length-take (omega arith))
      (λ i g.
      let m : i < k = omega (arith, length-take k x) in
      get_or-take k x i false m ∙ h.before i m ∙ sym (get_or-take k y i false m))

  same_back : drop (k + 32) x ≡ drop (k + 32) y
  same_back =
      ext_get_or false (drop (k + 32) x) (drop (k + 32) y) (simp length-drop (omega arith))
      (λ i g. get_or-drop (k + 32) x i false ∙ h.after (k + 32 + i) (omega arith) ∙ sym (get_or-drop (k + 32) y i false))

-- two registers that start alike, after messages of one length that differ within 32 places alone, tell the messages apart
pub burst_places : (x y : List Bool) (c k : ℕ) → c < 2 ^ 32 → Within32 x y k → run c x ≡ run c y → x ≡ y
burst_places x y c k hc h e =
    sym (whole k x)
    ∙ ap (λ (w : List Bool). take k x ++ (w ++ drop (k + 32) x))
    (burst_bits (take k x) (take 32 (drop k x)) (take 32 (drop k y)) (drop (k + 32) x) c hc (simp (length-take, length-drop) (omega arith)) (simp length-take (omega arith))
    (ap (run c) (whole k x) ∙ e ∙ ap (run c) (sym other)))
    ∙ other
  where
    other : take k x ++ (take 32 (drop k y) ++ drop (k + 32) x) ≡ y
    other =
        ap₂ (λ (p s : List Bool). p ++ (take 32 (drop k y) ++ s)) (same_front x y k h) (same_back x y k h)
        ∙ whole k y

-- ---- bytes are their bits

pub bits_injective : (a b : List ℕ) → Bytes a → Bytes b → bits a ≡ bits b → a ≡ b
unfolding bits bits_of
bits_injective [] [] ha hb e = refl
bits_injective [] (y ∷ b) ha hb e = absurd (omega (arith, ap length e))
bits_injective (x ∷ a) [] ha hb e = absurd (omega (arith, ap length e))
bits_injective (x ∷ a) (y ∷ b) ha hb e =
    ap₂ ◌∷◌ (sym (value_bits_of 8 x (ha 0)) ∙ ap value (ap (take 8) e) ∙ value_bits_of 8 y (hb 0))
    (bits_injective a b (λ i. ha (suc i)) (λ i. hb (suc i)) (ap (drop 8) e))
