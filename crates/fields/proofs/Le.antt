-- Numbers as bytes: one law for every width, in each direction.
-- Assumes nothing.
use mathlib.Core.Path.{◌≡◌, refl, sym, ap, ap₂, subst, ◌∙◌}
use mathlib.Core.List.{List, [], ◌∷◌, ◌++◌}
use Prim.Native.Nat.{ℕ, zero, suc, ◌+◌, ◌*◌, ◌/◌, ◌%◌, ◌^◌, ◌≤◌, ◌<◌}
use native.Mathlib.Nat.{pow-succ', mul_assoc, mod-lt, mod-add-div}
use native.Mathlib.Omega.{arith}
use lib.ListN.{length, get_or, take, drop, length-drop}
use lib.Seq.{length-take-le, take-add, drop-drop, drop-cons}
use Rattle.std.specs.Int.{w16, w32, w64, from_le_bytes, to_le_bytes}
use Rattle.slices.specs.Bytes.{Bytes}
use Rattle.slices.specs.Put.{put}
use Rattle.slices.proofs.Bytes.{nil_bytes, cons_bytes, take_bytes, drop_bytes}
use Rattle.slices.proofs.Put.{put_on, put_run}
use Rattle.fields.specs.Le.{le, le_bytes}
use Rattle.fields.specs.Claims.{NumberComesBack, BytesComeBack, NumberFits, ReadsWritten}

pub length-le_bytes : (n x : ℕ) → length (le_bytes n x) ≡ n
unfolding le_bytes
length-le_bytes zero x = refl
length-le_bytes (suc n) x = ap suc (length-le_bytes n (x / 256))

pub bytes_le_bytes : (n x : ℕ) → Bytes (le_bytes n x)
unfolding le_bytes
bytes_le_bytes zero x = nil_bytes
bytes_le_bytes (suc n) x = cons_bytes (x % 256) (le_bytes n (x / 256)) (omega arith) (bytes_le_bytes n (x / 256))

-- ---- there and back

pub number_comes_back : NumberComesBack
unfolding le le_bytes
number_comes_back zero x h = omega arith
number_comes_back (suc n) x h = rw (number_comes_back n (x / 256) (omega arith)) (omega arith)

pub bytes_come_back : BytesComeBack
unfolding le le_bytes
bytes_come_back [] b = refl
bytes_come_back (x ∷ xs) b =
    let lo : (x + 256 * le xs) % 256 ≡ x = omega (arith, b 0) in
    let hi : (x + 256 * le xs) / 256 ≡ le xs = omega (arith, b 0) in
    rw (lo, hi, bytes_come_back xs (λ i. b (suc i)))

pub number_fits : NumberFits
unfolding le
number_fits [] b = omega arith
number_fits (x ∷ xs) b =
    let r : x + 256 * le xs < 256 ^ suc (length xs) = omega (arith, b 0, number_fits xs (λ i. b (suc i))) in
    r

pub reads-written : ReadsWritten
reads-written s at n x h l =
    let e = length-le_bytes n x in
    ap (λ (k : ℕ). le (take k (drop at (put s at (le_bytes n x))))) (sym e)
    ∙ ap le (put_run s at (le_bytes n x) (omega arith))
    ∙ number_comes_back n x l

-- equally many bytes that stand for the same number are the same
pub le_injective : (xs ys : List ℕ) → length xs ≡ length ys → Bytes xs → Bytes ys → le xs ≡ le ys → xs ≡ ys
le_injective xs ys l a b e = sym (bytes_come_back xs a) ∙ ap₂ le_bytes l e ∙ bytes_come_back ys b

-- the number of n bytes at a place fits n bytes
pub part_fits : (s : List ℕ) (at n : ℕ) → at + n ≤ length s → Bytes s → le (take n (drop at s)) < 256 ^ n
part_fits s at n h b =
    let e : length (take n (drop at s)) ≡ n = length-take-le n (drop at s) (omega (arith, length-drop at s)) in
    subst (λ (k : ℕ). le (take n (drop at s)) < 256 ^ k) e (number_fits (take n (drop at s)) (take_bytes n (drop at s) (drop_bytes at s b)))

-- ---- a number in two parts: the low one of m bytes

power_some : (m : ℕ) → 0 < 256 ^ m
power_some zero = omega arith
power_some (suc m) = omega (arith, power_some m)

power_times : (m b : ℕ) → 256 ^ suc m * b ≡ 256 * (256 ^ m * b)
power_times m b = ap (λ (k : ℕ). k * b) (pow-succ' 256 m) ∙ mul_assoc 256 (256 ^ m) b

pub le-append : (xs ys : List ℕ) → le (xs ++ ys) ≡ le xs + 256 ^ length xs * le ys
unfolding le
le-append [] ys = omega arith
le-append (x ∷ xs) ys = omega (arith, le-append xs ys, power_times (length xs) (le ys))

pub le_bytes-append : (m n a b : ℕ) → a < 256 ^ m → le_bytes (m + n) (a + 256 ^ m * b) ≡ le_bytes m a ++ le_bytes n b
unfolding le_bytes
le_bytes-append zero n a b h =
    let w : 0 + n ≡ n = omega arith in
    let e : a + 256 ^ 0 * b ≡ b = omega arith in
    ap₂ le_bytes w e
le_bytes-append (suc m) n a b h =
    let p = power_times m b in
    let lo : (a + 256 ^ suc m * b) % 256 ≡ a % 256 = omega arith in
    let hi : (a + 256 ^ suc m * b) / 256 ≡ a / 256 + 256 ^ m * b = omega arith in
    let w : suc m + n ≡ suc (m + n) = omega arith in
    ap (λ (k : ℕ). le_bytes k (a + 256 ^ suc m * b)) w
    ∙ ap₂ (λ (x y : ℕ). x ∷ le_bytes (m + n) y) lo hi
    ∙ ap (λ (t : List ℕ). a % 256 ∷ t) (le_bytes-append m n (a / 256) b (omega arith))

-- read at a place
pub le_parts : (s : List ℕ) (at m n : ℕ) → at + m ≤ length s
    → le (take (m + n) (drop at s)) ≡ le (take m (drop at s)) + 256 ^ m * le (take n (drop (at + m) s))
le_parts s at m n h =
    let e : length (take m (drop at s)) ≡ m = length-take-le m (drop at s) (omega (arith, length-drop at s)) in
    ap le (take-add m n (drop at s))
    ∙ le-append (take m (drop at s)) (take n (drop m (drop at s)))
    ∙ ap₂ (λ (k : ℕ) (t : List ℕ). le (take m (drop at s)) + 256 ^ k * le (take n t)) e (drop-drop m at s)

-- written at a place: l is s with the low part, t is l with the high part
pub put_parts : (s l t : List ℕ) (at m n x : ℕ) → at + m + n ≤ length s → l ≡ put s at (le_bytes m (x % 256 ^ m)) → t ≡ put l (at + m) (le_bytes n (x / 256 ^ m))
    → t ≡ put s at (le_bytes (m + n) x)
put_parts s l t at m n x h e g =
    let a = length-le_bytes m (x % 256 ^ m) in
    let b = length-le_bytes n (x / 256 ^ m) in
    let w : x % 256 ^ m + 256 ^ m * (x / 256 ^ m) ≡ x = mod-add-div x (256 ^ m) in
    put_on s l t at (at + m) (le_bytes m (x % 256 ^ m)) (le_bytes n (x / 256 ^ m)) e (omega arith) (omega arith) g
    ∙ ap (put s at) (sym (le_bytes-append m n (x % 256 ^ m) (x / 256 ^ m) (mod-lt x (power_some m))) ∙ ap (le_bytes (m + n)) w)

-- ---- the bytes of std's numbers

-- the byte at i further on, and those after it
le_next : (s : List ℕ) (at i n : ℕ) → at + i < length s → le (take (suc n) (drop (at + i) s)) ≡ get_or s (at + i) 0 + 256 * le (take n (drop (at + suc i) s))
unfolding le
le_next s at i n h =
    let e : suc (at + i) ≡ at + suc i = omega arith in
    ap (λ (t : List ℕ). le (take (suc n) t)) (drop-cons s (at + i) 0 h) ∙ ap (λ (k : ℕ). get_or s (at + i) 0 + 256 * le (take n (drop k s))) e

le_none : (s : List ℕ) (k : ℕ) → le (take 0 (drop k s)) ≡ 0
unfolding le
le_none s k = refl

module _ (s : List ℕ) (at : ℕ) where
  at_0 : at + 0 ≡ at
  at_0 = omega arith

  first : (n : ℕ) → at < length s → le (take (suc n) (drop at s)) ≡ get_or s at 0 + 256 * le (take n (drop (at + 1) s))
  first n h = rw at_0 at (le_next s at 0 n (omega arith))

  pub read_2 : at + 2 ≤ length s → from_le_bytes w16 (get_or s at 0 ∷ get_or s (at + 1) 0 ∷ []) ≡ le (take 2 (drop at s))
  read_2 h = omega (arith, first 1 (omega arith), le_next s at 1 0 (omega arith), le_none s (at + 2))

  pub read_4 : at + 4 ≤ length s
      → from_le_bytes w32 (get_or s at 0 ∷ get_or s (at + 1) 0 ∷ get_or s (at + 2) 0 ∷ get_or s (at + 3) 0 ∷ []) ≡ le (take 4 (drop at s))
  read_4 h =
      omega
      (arith, first 3 (omega arith), le_next s at 1 2 (omega arith), le_next s at 2 1 (omega arith), le_next s at 3 0 (omega arith), le_none s (at + 4))

  pub read_8 : at + 8 ≤ length s
      → from_le_bytes w64 (get_or s at 0 ∷ get_or s (at + 1) 0 ∷ get_or s (at + 2) 0 ∷ get_or s (at + 3) 0 ∷ get_or s (at + 4) 0 ∷ get_or s (at + 5) 0 ∷ get_or s (at + 6) 0 ∷ get_or s (at + 7) 0 ∷ [])
      ≡ le (take 8 (drop at s))
  read_8 h =
      omega
      (arith, first 7 (omega arith), le_next s at 1 6 (omega arith), le_next s at 2 5 (omega arith), le_next s at 3 4 (omega arith), le_next s at 4 3 (omega arith), le_next s at 5 2 (omega arith), le_next s at 6 1 (omega arith), le_next s at 7 0 (omega arith), le_none s (at + 8))

pub bytes_2 : (x : ℕ) → to_le_bytes w16 x ≡ le_bytes 2 x
unfolding le_bytes
bytes_2 x = refl

pub bytes_4 : (x : ℕ) → to_le_bytes w32 x ≡ le_bytes 4 x
unfolding le_bytes
bytes_4 x = ap₂ ◌∷◌ refl (ap₂ ◌∷◌ (omega arith) (ap₂ ◌∷◌ (omega arith) (ap₂ ◌∷◌ (omega arith) refl)))

pub bytes_8 : (x : ℕ) → to_le_bytes w64 x ≡ le_bytes 8 x
unfolding le_bytes
bytes_8 x =
    ap₂ ◌∷◌ refl
    (ap₂ ◌∷◌ (omega arith)
    (ap₂ ◌∷◌ (omega arith)
    (ap₂ ◌∷◌ (omega arith) (ap₂ ◌∷◌ (omega arith) (ap₂ ◌∷◌ (omega arith) (ap₂ ◌∷◌ (omega arith) (ap₂ ◌∷◌ (omega arith) refl)))))))
