-- Text written at a place, piece after piece: lengths, places, and what a buffer that is long enough or too short is left with.
-- Assumes nothing.
use mathlib.Core.Path.{◌≡◌, refl, sym, ap, ap₂, subst, ◌∙◌}
use mathlib.Core.Bool.{Bool, true, false}
use mathlib.Core.List.{List, [], ◌∷◌, ◌++◌}
use Prim.Native.Nat.{ℕ, zero, suc, ◌+◌, ◌≤◌, ◌<◌}
use native.Mathlib.Numerals.{add-one}
use native.Mathlib.Omega.{arith}
use lib.Dec.{ltb, leb}
use lib.ListN.{length, take, get_or, set, length-set, length-append}
use lib.Seq.{sets, length-sets, set_out, take-suc}
use borrow.Author.Tests.{ltb-true, ltb-false, lt-ltb, le-ltb, leb-true, leb-false, le-leb, lt-leb}
use Rattle.std.specs.Prelude.Option.{Some, None}
use Rattle.listing.specs.Writing.{written, listed}
use Rattle.listing.specs.Internal.{stepped, behind, Wrote}

-- by cases on a test
pub by_test : {A : Type 0} (b : Bool) → (b ≡ true → A) → (b ≡ false → A) → A
by_test true f g = f refl
by_test false f g = g refl

pub length-written : (s : List ℕ) (p : ℕ) (xs : List ℕ) → length (written s p xs) ≡ length s
unfolding written
length-written s p xs = length-sets s p xs

-- nothing fits past the end
sets_out : (s : List ℕ) (p : ℕ) (xs : List ℕ) → length s ≤ p → sets s p xs ≡ s
sets_out s p [] h = refl
sets_out s p (x ∷ xs) h = ap (λ (t : List ℕ). sets t (suc p) xs) (set_out s p x h) ∙ sets_out s (suc p) xs (omega arith)

pub written_out : (s : List ℕ) (p : ℕ) (xs : List ℕ) → length s ≤ p → written s p xs ≡ s
unfolding written
written_out s p xs h = sets_out s p xs h

-- the place of a byte that fits, and of one that does not
stepped_in : (n p : ℕ) → p < n → stepped n p ≡ suc p
unfolding stepped
stepped_in n p h = simp (lt-ltb p n h) (add-one p)

stepped_out : (n p : ℕ) → n ≤ p → stepped n p ≡ n + 1
unfolding stepped
stepped_out n p h = simp (le-ltb p n h)

-- once past the end, always
behind_out : (n p k : ℕ) → n ≤ p → n ≤ behind n p k
unfolding behind
behind_out n p zero h = h
behind_out n p (suc k) h = behind_out n (stepped n p) k (omega (arith, stepped_out n p h))

behind-add : (n p j k : ℕ) → behind n p (j + k) ≡ behind n (behind n p j) k
unfolding behind
behind-add n p zero k = let e : 0 + k ≡ k = omega arith in ap (behind n p) e
behind-add n p (suc j) k = let e : suc j + k ≡ suc (j + k) = omega arith in ap (behind n p) e ∙ behind-add n (stepped n p) j k

-- a second piece, after a first
sets_append : (s : List ℕ) (p : ℕ) (xs ys : List ℕ) → sets s p (xs ++ ys) ≡ sets (sets s p xs) (behind (length s) p (length xs)) ys
unfolding behind
sets_append s p [] ys = refl
sets_append s p (x ∷ xs) ys =
    by_test (ltb p (length s))
    (λ yes.
    let at : stepped (length s) p ≡ suc p = stepped_in (length s) p (ltb-true p (length s) yes) in
    sets_append (set s p x) (suc p) xs ys
    ∙ ap₂ (λ (n q : ℕ). sets (sets (set s p x) (suc p) xs) (behind n q (length xs)) ys) (length-set s p x) (sym at))
    (λ no.
    let past : length s ≤ p = ltb-false p (length s) no in
    let same : sets s p (x ∷ xs) ≡ s = sets_out s p (x ∷ xs) past in
    let out : length s ≤ behind (length s) (stepped (length s) p) (length xs) = behind_out (length s) _ (length xs) (omega (arith, stepped_out (length s) p past)) in
    sets_out s p (x ∷ (xs ++ ys)) past
    ∙ sym (ap (λ (t : List ℕ). sets t (behind (length s) (stepped (length s) p) (length xs)) ys) same ∙ sets_out s _ ys out))

pub written-append : (s : List ℕ) (p : ℕ) (xs ys : List ℕ) → written s p (xs ++ ys) ≡ written (written s p xs) (behind (length s) p (length xs)) ys
unfolding written
written-append s p xs ys = sets_append s p xs ys

-- ---- pieces in a row

pub wrote : {s t : List ℕ} {p q : ℕ} {xs : List ℕ} → q ≡ behind (length s) p (length xs) → t ≡ written s p xs → Wrote s p xs q t
wrote e f = record { place = e; buffer = f }

pub wrote_none_lem : (s : List ℕ) (p : ℕ) → Wrote s p [] p s
unfolding written behind
wrote_none_lem s p = record { place = refl; buffer = refl }

pub wrote-length : {s t : List ℕ} {p q : ℕ} {xs : List ℕ} → Wrote s p xs q t → length t ≡ length s
wrote-length {s} {t} {p} {q} {xs} w = ap length w.buffer ∙ length-written s p xs

-- a second piece after the first
pub on : {s t u : List ℕ} {p q r : ℕ} {xs ys : List ℕ} → Wrote s p xs q t → Wrote t q ys r u → Wrote s p (xs ++ ys) r u
on {s} {t} {u} {p} {q} {r} {xs} {ys} w v =
    record {
      place =
          v.place ∙ ap₂ (λ (n m : ℕ). behind n m (length ys)) (wrote-length w) w.place
          ∙ sym (behind-add (length s) p (length xs) (length ys))
          ∙ ap (behind (length s) p) (sym (length-append xs ys));
      buffer = v.buffer ∙ ap₂ (λ (l : List ℕ) (m : ℕ). written l m ys) w.buffer w.place ∙ sym (written-append s p xs ys);
    }

-- the same text in other words
pub reads : {s t : List ℕ} {p q : ℕ} {xs ys : List ℕ} → xs ≡ ys → Wrote s p xs q t → Wrote s p ys q t
reads {s} {t} {p} {q} e w = subst (λ (l : List ℕ). Wrote s p l q t) e w

-- one byte, where it fits and where not
pub byte_in : (s : List ℕ) (p b q : ℕ) → p < length s → q ≡ p + 1 → Wrote s p (b ∷ []) q (set s p b)
unfolding written behind
byte_in s p b q h e = record { place = e ∙ add-one p ∙ sym (stepped_in (length s) p h); buffer = refl }

pub byte_out : (s : List ℕ) (p b q : ℕ) → length s ≤ p → q ≡ length s + 1 → Wrote s p (b ∷ []) q s
unfolding written behind
byte_out s p b q h e = record { place = e ∙ sym (stepped_out (length s) p h); buffer = sym (set_out s p b h) }

-- one byte more of a run
pub bytes_next : {s t u : List ℕ} {p q r : ℕ} (xs : List ℕ) (i : ℕ) → i < length xs → Wrote s p (take i xs) q t → Wrote t q (get_or xs i 0 ∷ []) r u
    → Wrote s p (take (i + 1) xs) r u
bytes_next xs i h w v = reads (sym (take-suc xs i 0 h) ∙ ap (λ (n : ℕ). take n xs) (sym (add-one i))) (on w v)

-- ---- the answer

pub listed-whole : (n k : ℕ) → k ≤ n → Some k ≡ listed n k
unfolding listed
listed-whole n k h = simp (le-leb k n h)

pub listed_no_room : (n k : ℕ) → n < k → None ≡ listed n k
unfolding listed
listed_no_room n k h = simp (lt-leb k n h)

-- the place after k bytes from p on, which is at most n: where they fit, and where not
pub behind_in : (n p k : ℕ) → p + k ≤ n → behind n p k ≡ p + k
unfolding behind
behind_in n p zero h = omega arith
behind_in n p (suc k) h =
    let at : stepped n p ≡ suc p = stepped_in n p (omega arith) in
    let e : suc p + k ≡ p + suc k = omega arith in
    ap (λ (q : ℕ). behind n q k) at ∙ behind_in n (suc p) k (omega arith) ∙ e

behind_over : (n p k : ℕ) → n < p → n < behind n p k
unfolding behind
behind_over n p zero h = h
behind_over n p (suc k) h = behind_over n (stepped n p) k (omega (arith, stepped_out n p (omega arith)))

behind_past : (n p k : ℕ) → n < p + k → n < behind n p k
unfolding behind
behind_past n p zero h = omega arith
behind_past n p (suc k) h =
    by_test (ltb p n)
    (λ yes. let at : stepped n p ≡ suc p = stepped_in n p (ltb-true p n yes) in rw at (behind_past n (suc p) k (omega arith)))
    (λ no. behind_over n (stepped n p) k (omega (arith, stepped_out n p (ltb-false p n no))))

-- the answer for a text from the buffer's start on
pub listed-behind : (n k : ℕ) → listed n (behind n 0 k) ≡ listed n k
listed-behind n k =
    by_test (leb k n)
    (λ yes. let e : behind n 0 k ≡ 0 + k = behind_in n 0 k (omega (arith, leb-true k n yes)) in let f : 0 + k ≡ k = omega arith in ap (listed n) (e ∙ f))
    (λ no. sym (listed_no_room n (behind n 0 k) (behind_past n 0 k (omega (arith, leb-false k n no)))) ∙ listed_no_room n k (leb-false k n no))
