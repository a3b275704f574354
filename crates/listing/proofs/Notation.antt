-- Decimal and hex, digit by digit.
-- Assumes nothing.
use mathlib.Core.Path.{◌≡◌, refl, sym, ap, ap₂, subst, ◌∙◌}
use mathlib.Core.List.{List, [], ◌∷◌, ◌++◌}
use Prim.Native.Nat.{ℕ, zero, suc, ◌+◌, ◌/◌, ◌%◌, ◌≤◌, ◌<◌}
use native.Mathlib.Numerals.{add-one}
use native.Mathlib.Omega.{arith}
use lib.Dec.{ltb}
use lib.ListN.{length, take, get_or}
use lib.Seq.{take-suc}
use borrow.Author.Tests.{ltb-true, ltb-false, lt-ltb, le-ltb}
use Rattle.listing.specs.Digits.{digit, hex_run, hex, decimal_in, decimal}
use Rattle.listing.specs.Internal.{Wrote, Puts}
use Rattle.listing.specs.declared.Text.{Text}
use Rattle.listing.proofs.Writes.{by_test, on, reads}

pub digit_low : (d r : ℕ) → d < 10 → r ≡ 48 + d → r ≡ digit d
unfolding digit
digit_low d r h e = simp (lt-ltb d 10 h) e

pub digit_high : (d r : ℕ) → 10 ≤ d → r ≡ 87 + d → r ≡ digit d
unfolding digit
digit_high d r h e = simp (le-ltb d 10 h) e

-- a number below 10, and one of 10 or more
in_one : (k n : ℕ) → n < 10 → decimal_in (suc k) n ≡ digit n ∷ []
unfolding decimal_in
in_one k n h = simp (lt-ltb n 10 h)

in_more : (k n : ℕ) → 10 ≤ n → decimal_in (suc k) n ≡ decimal_in k (n / 10) ++ (digit (n % 10) ∷ [])
unfolding decimal_in
in_more k n h = simp (le-ltb n 10 h)

-- with room for all its digits, how much room plays no part
enough : (j k n : ℕ) → n < j → n < k → decimal_in j n ≡ decimal_in k n
enough zero k n h l = absurd (omega arith)
enough (suc j) zero n h l = absurd (omega arith)
enough (suc j) (suc k) n h l =
    by_test (ltb n 10)
    (λ yes. in_one j n (ltb-true n 10 yes) ∙ sym (in_one k n (ltb-true n 10 yes)))
    (λ no.
    let big : 10 ≤ n = ltb-false n 10 no in
    in_more j n big ∙ ap (λ (ds : List ℕ). ds ++ (digit (n % 10) ∷ [])) (enough j k (n / 10) (omega arith) (omega arith)) ∙ sym (in_more k n big))

pub decimal-one : (n : ℕ) → n < 10 → decimal n ≡ digit n ∷ []
unfolding decimal
decimal-one n h = in_one n n h

pub decimal_more : (n : ℕ) → 10 ≤ n → decimal n ≡ decimal (n / 10) ++ (digit (n % 10) ∷ [])
unfolding decimal
decimal_more n h = in_more n n h ∙ ap (λ (ds : List ℕ). ds ++ (digit (n % 10) ∷ [])) (enough n (suc (n / 10)) (n / 10) (omega arith) (omega arith))

-- the last digit behind those before it, and a number of one digit
pub decimal_on : {a b : Text} (t u : Text) (n d : ℕ) → 10 ≤ n → Puts t (decimal (n / 10)) b → a ≡ b → d ≡ digit (n % 10) → Puts a (d ∷ []) u → Puts t (decimal n) u
decimal_on t u n d h w is e v =
    reads (sym (decimal_more n h)) (on w (reads (ap (λ (x : ℕ). x ∷ []) e) (subst (λ (x : Text). Puts x (d ∷ []) u) is v)))

pub decimal_end : {a : Text} (t u : Text) (n d : ℕ) → n < 10 → a ≡ t → d ≡ digit (n % 10) → Puts a (d ∷ []) u → Puts t (decimal n) u
decimal_end t u n d h is e v =
    let m : n % 10 ≡ n = omega arith in
    reads (ap (λ (x : ℕ). x ∷ []) (e ∙ ap digit m) ∙ sym (decimal-one n h)) (subst (λ (x : Text). Puts x (d ∷ []) u) is v)

-- ---- hex

hex-append : (xs ys : List ℕ) → hex_run (xs ++ ys) ≡ hex_run xs ++ hex_run ys
unfolding hex_run
hex-append [] ys = refl
hex-append (x ∷ xs) ys = ap (λ (l : List ℕ). digit (x / 16) ∷ digit (x % 16) ∷ l) (hex-append xs ys)

-- one byte more in hex: its two digits
pub hex_next : {s t u v : List ℕ} {p q r m x y : ℕ} (bs : List ℕ) (i : ℕ) → i < length bs → Wrote s p (hex_run (take i bs)) q t
    → x ≡ digit (get_or bs i 0 / 16) → Wrote t q (x ∷ []) r u → y ≡ digit (get_or bs i 0 % 16) → Wrote u r (y ∷ []) m v → Wrote s p (hex_run (take (i + 1) bs)) m v
unfolding hex_run
hex_next bs i h w e hi f lo =
    reads (sym (hex-append (take i bs) (get_or bs i 0 ∷ [])) ∙ ap hex_run (sym (take-suc bs i 0 h) ∙ ap (λ (n : ℕ). take n bs) (sym (add-one i))))
    (on w (reads (ap₂ (λ (x y : ℕ). x ∷ y ∷ []) e f) (on hi lo)))

pub hex_none : (bs : List ℕ) → length bs ≡ 0 → hex bs ≡ 45 ∷ []
unfolding hex
hex_none [] e = refl
hex_none (b ∷ bs) e = absurd (omega arith)

pub hex_some : (bs : List ℕ) → (length bs ≡ 0 → ⊥) → hex_run bs ≡ hex bs
unfolding hex
hex_some [] h = absurd (h refl)
hex_some (b ∷ bs) h = refl
