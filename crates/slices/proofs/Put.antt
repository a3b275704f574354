-- Runs of elements put into a slice: lengths, what stands before, in and after a run, and runs put one after another.
-- Assumes nothing.
use mathlib.Core.Path.{◌≡◌, refl, sym, ap, ap₂, ◌∙◌}
use mathlib.Core.List.{List, [], ◌∷◌, ◌++◌, append_assoc, append-nil}
use Prim.Native.Nat.{ℕ, ◌+◌, ◌-◌, ◌≤◌, ◌<◌}
use native.Mathlib.Numerals.{add-one}
use native.Mathlib.Omega.{arith}
use lib.ListN.{length, get_or, take, drop, set, length-append, length-take, length-drop, take-append-drop, drop_of_length-le}
use borrow.Rule.Slice.PartMut.{put_mid, post_of, Post-is}
use Rattle.std.specs.List.{copy_within}
use lib.Seq.{take_at, drop_at, take-take, take-add, drop-drop, take-append-le, drop-append-le, set_split, length-take-le, get_or-drop, get_or-take}
use Rattle.slices.specs.Bytes.{Bytes}
use Rattle.slices.specs.Put.{put}
use Rattle.slices.proofs.Bytes.{append_bytes, take_bytes, drop_bytes}

pub put_is : {A : Type 0} (s : List A) (p : ℕ) (xs : List A) → put s p xs ≡ take p s ++ (xs ++ drop (p + length xs) s)
unfolding put
put_is s p xs = refl

-- nothing put
pub put_none : {A : Type 0} (s : List A) (p : ℕ) → put s p [] ≡ s
unfolding put
put_none s p = let e : p + 0 ≡ p = omega arith in ap (λ (i : ℕ). take p s ++ drop i s) e ∙ take-append-drop p s

-- all of the slice
pub put_all : {A : Type 0} (s xs : List A) → length xs ≡ length s → put s 0 xs ≡ xs
unfolding put
put_all {A = A} s xs h =
    let e : 0 + length xs ≡ length xs = omega arith in
    ap (λ (i : ℕ). xs ++ drop i s) e
    ∙ ap (λ (t : List A). xs ++ t) (drop_of_length-le s {i = length xs} (omega arith))
    ∙ append-nil xs

-- a part of the slice written over
pub mid_put : {A : Type 0} (s : List A) (p n : ℕ) (ys xs : List A) → ys ≡ xs → length xs ≡ n → put_mid p (p + n - p) s ys ≡ put s p xs
unfolding put
mid_put {A = A} s p n ys xs e h =
    ap (λ (t : List A). take p s ++ (t ++ post_of p (p + n - p) s)) e
    ∙ ap (λ (t : List A). take p s ++ (xs ++ t)) (Post-is p (p + n) s (omega arith) ∙ ap (λ (k : ℕ). drop (p + k) s) (sym h))

-- a part of the slice copied to another place
pub within_put : {A : Type 0} (s : List A) (p i n : ℕ) → i + n ≤ length s → copy_within s i (i + n) p ≡ put s p (take n (drop i s))
unfolding put
within_put {A = A} s p i n h =
    let k : i + n - i ≡ n = omega arith in
    let m : length (take n (drop i s)) ≡ n = length-take-le n (drop i s) (omega (arith, length-drop i s)) in
    append_assoc (take p s) (take (i + n - i) (drop i s)) (drop (p + (i + n - i)) s)
    ∙ ap (λ (k : ℕ). take p s ++ (take k (drop i s) ++ drop (p + k) s)) k
    ∙ ap (λ (k : ℕ). take p s ++ (take n (drop i s) ++ drop (p + k) s)) (sym m)

-- one element stored
pub put_one : {A : Type 0} (s : List A) (p : ℕ) (x : A) → p < length s → set s p x ≡ put s p (x ∷ [])
unfolding put
put_one s p x h = set_split s p x h ∙ ap (λ (i : ℕ). take p s ++ (x ∷ drop i s)) (sym (add-one p))

pub put_bytes : (s : List ℕ) (p : ℕ) (xs : List ℕ) → Bytes s → Bytes xs → Bytes (put s p xs)
unfolding put
put_bytes s p xs b c =
    append_bytes (take p s) (xs ++ drop (p + length xs) s) (take_bytes p s b)
    (append_bytes xs (drop (p + length xs) s) c (drop_bytes (p + length xs) s b))

-- a run that lies within the slice
module _ {A : Type 0} (s : List A) (p : ℕ) (xs : List A) (h : p + length xs ≤ length s) where
  front_length : length (take p s ++ xs) ≡ p + length xs
  front_length = omega (arith, length-append (take p s) xs, length-take p s)

  put_front : put s p xs ≡ (take p s ++ xs) ++ drop (p + length xs) s
  unfolding put
  put_front = sym (append_assoc (take p s) xs (drop (p + length xs) s))

  pub length_put : length (put s p xs) ≡ length s
  unfolding put
  length_put =
      omega
      (arith, length-append (take p s) (xs ++ drop (p + length xs) s), length-append xs (drop (p + length xs) s), length-take p s, length-drop (p + length xs) s)

  -- what stands before it
  pub take_put : (n : ℕ) → n ≤ p → take n (put s p xs) ≡ take n s
  unfolding put
  take_put n l =
      take-append-le n (take p s) (xs ++ drop (p + length xs) s) (omega (arith, length-take p s))
      ∙ take-take n p s l

  -- all up to its end
  pub take_put_end : take (p + length xs) (put s p xs) ≡ take p s ++ xs
  take_put_end = ap (take (p + length xs)) put_front ∙ take_at (take p s ++ xs) (drop (p + length xs) s) (p + length xs) front_length

  -- all from its start on
  pub drop_put : drop p (put s p xs) ≡ xs ++ drop (p + length xs) s
  unfolding put
  drop_put = drop_at (take p s) (xs ++ drop (p + length xs) s) p (length-take-le p s (omega arith))

  -- a part of it
  pub put_part : (i n : ℕ) → i + n ≤ length xs → take n (drop (p + i) (put s p xs)) ≡ take n (drop i xs)
  put_part i n l =
      ap (take n)
      (sym (drop-drop i p (put s p xs)) ∙ ap (drop i) drop_put ∙ drop-append-le i xs (drop (p + length xs) s) (omega arith))
      ∙ take-append-le n (drop i xs) (drop (p + length xs) s) (omega (arith, length-drop i xs))

  -- the run itself
  pub put_run : take (length xs) (drop p (put s p xs)) ≡ xs
  put_run = ap (take (length xs)) drop_put ∙ take_at xs (drop (p + length xs) s) (length xs) refl

  -- what stands after it
  pub drop_put_behind : (n : ℕ) → p + length xs ≤ n → drop n (put s p xs) ≡ drop n s
  drop_put_behind n l =
      let e : p + length xs + (n - (p + length xs)) ≡ n = omega arith in
      ap (λ (i : ℕ). drop i (put s p xs)) (sym e)
      ∙ sym (drop-drop (n - (p + length xs)) (p + length xs) (put s p xs))
      ∙ ap (drop (n - (p + length xs)))
      (ap (drop (p + length xs)) put_front ∙ drop_at (take p s ++ xs) (drop (p + length xs) s) (p + length xs) front_length)
      ∙ drop-drop (n - (p + length xs)) (p + length xs) s
      ∙ ap (λ (i : ℕ). drop i s) e

  -- a part before it, and one after it
  pub part_before : (q n : ℕ) → q + n ≤ p → take n (drop q (put s p xs)) ≡ take n (drop q s)
  part_before q n l = part_of_lem q n (put s p xs) (omega (arith, length_put)) ∙ ap (drop q) (take_put (q + n) l) ∙ sym (part_of_lem q n s (omega arith))
    where
      part_of_lem : (a b : ℕ) (t : List A) → a ≤ length t → take b (drop a t) ≡ drop a (take (a + b) t)
      part_of_lem a b t k = sym (ap (drop a) (take-add a b t) ∙ drop_at (take a t) (take b (drop a t)) a (length-take-le a t k))

  pub part_behind : (q n : ℕ) → p + length xs ≤ q → take n (drop q (put s p xs)) ≡ take n (drop q s)
  part_behind q n l = ap (take n) (drop_put_behind q l)

-- a byte before it, of it, and after it
module _ (s : List ℕ) (p : ℕ) (xs : List ℕ) (h : p + length xs ≤ length s) where
  pub get_d_put_before : (n : ℕ) → n < p → get_or (put s p xs) n 0 ≡ get_or s n 0
  get_d_put_before n l =
      sym (get_or-take p (put s p xs) n 0 l) ∙ ap (λ (t : List ℕ). get_or t n 0) (take_put s p xs h p (omega arith)) ∙ get_or-take p s n 0 l

  pub get_d_put : (i : ℕ) → i < length xs → get_or (put s p xs) (p + i) 0 ≡ get_or xs i 0
  get_d_put i l =
      sym (get_or-drop p (put s p xs) i 0) ∙ sym (get_or-take (length xs) (drop p (put s p xs)) i 0 l)
      ∙ ap (λ (t : List ℕ). get_or t i 0) (put_run s p xs h)

  pub get_d_put_behind : (n : ℕ) → p + length xs ≤ n → get_or (put s p xs) n 0 ≡ get_or s n 0
  get_d_put_behind n l =
      let e : n + 0 ≡ n = omega arith in
      ap (λ (i : ℕ). get_or (put s p xs) i 0) (sym e)
      ∙ sym (get_or-drop n (put s p xs) 0 0)
      ∙ ap (λ (t : List ℕ). get_or t 0 0) (drop_put_behind s p xs h n l)
      ∙ get_or-drop n s 0 0
      ∙ ap (λ (i : ℕ). get_or s i 0) e

-- two runs, one after the other
pub put-put : {A : Type 0} (s : List A) (p : ℕ) (xs ys : List A) → p + length xs + length ys ≤ length s → put (put s p xs) (p + length xs) ys ≡ put s p (xs ++ ys)
put-put {A = A} s p xs ys h =
    let all : p + length xs + length ys ≡ p + length (xs ++ ys) = omega (arith, length-append xs ys) in
    put_is (put s p xs) (p + length xs) ys
    ∙ ap₂ (λ (a b : List A). a ++ (ys ++ b)) (take_put_end s p xs (omega arith))
    (drop_put_behind s p xs (omega arith) (p + length xs + length ys) (omega arith) ∙ ap (λ (i : ℕ). drop i s) all)
    ∙ append_assoc (take p s) xs (ys ++ drop (p + length (xs ++ ys)) s)
    ∙ ap (λ (t : List A). take p s ++ t) (sym (append_assoc xs ys (drop (p + length (xs ++ ys)) s)))
    ∙ sym (put_is s p (xs ++ ys))

-- the same, by equations: l is s with xs put, m is l with ys put where xs end
pub put_on : {A : Type 0} (s l m : List A) (p q : ℕ) (xs ys : List A) → l ≡ put s p xs → q ≡ p + length xs → p + length xs + length ys ≤ length s → m ≡ put l q ys
    → m ≡ put s p (xs ++ ys)
put_on {A = A} s l m p q xs ys e i h g = g ∙ ap₂ (λ (t : List A) (j : ℕ). put t j ys) e i ∙ put-put s p xs ys h

-- two runs, the second before the first
pub put-before : {A : Type 0} (s : List A) (p : ℕ) (xs ys : List A) → p + length xs + length ys ≤ length s → put (put s (p + length xs) ys) p xs ≡ put s p (xs ++ ys)
put-before {A = A} s p xs ys h =
    let all : p + length xs + length ys ≡ p + length (xs ++ ys) = omega (arith, length-append xs ys) in
    put_is (put s (p + length xs) ys) p xs
    ∙ ap₂ (λ (a b : List A). a ++ (xs ++ b)) (take_put s (p + length xs) ys h p (omega arith)) (drop_put s (p + length xs) ys h)
    ∙ ap (λ (i : ℕ). take p s ++ (xs ++ (ys ++ drop i s))) all
    ∙ ap (λ (t : List A). take p s ++ t) (sym (append_assoc xs ys (drop (p + length (xs ++ ys)) s)))
    ∙ sym (put_is s p (xs ++ ys))

-- a run put over one that is as long
pub put_over : {A : Type 0} (s : List A) (p : ℕ) (xs ys : List A) → p + length xs ≤ length s → length xs ≡ length ys → put (put s p xs) p ys ≡ put s p ys
put_over {A = A} s p xs ys h e =
    put_is (put s p xs) p ys
    ∙ ap₂ (λ (a b : List A). a ++ (ys ++ b)) (take_put s p xs h p (omega arith)) (drop_put_behind s p xs h (p + length ys) (omega arith))
    ∙ sym (put_is s p ys)

-- what stands there already
pub put_here : {A : Type 0} (s : List A) (p n : ℕ) → p + n ≤ length s → put s p (take n (drop p s)) ≡ s
put_here {A = A} s p n h =
    let e : length (take n (drop p s)) ≡ n = length-take-le n (drop p s) (omega (arith, length-drop p s)) in
    put_is s p (take n (drop p s))
    ∙ ap (λ (t : List A). take p s ++ (take n (drop p s) ++ t)) (ap (λ (i : ℕ). drop (p + i) s) e ∙ sym (drop-drop n p s))
    ∙ ap (λ (t : List A). take p s ++ t) (take-append-drop n (drop p s))
    ∙ take-append-drop p s

-- two runs that lie apart, in either order
pub put_apart : {A : Type 0} (s : List A) (p q : ℕ) (xs ys : List A) → p + length xs ≤ q → q + length ys ≤ length s → put (put s p xs) q ys ≡ put (put s q ys) p xs
put_apart {A = A} s p q xs ys h l =
    ap₂ (λ (t : List A) (i : ℕ). put t i ys) (ap (λ (t : List A). put t p xs) (sym here) ∙ put-before s p xs m (omega (arith, m_length))) q_long
    ∙ put-put s p (xs ++ m) ys (omega (arith, q_long))
    ∙ ap (put s p) (append_assoc xs m ys)
    ∙ sym (put-before s p xs (m ++ ys) (omega (arith, m_length, length-append m ys)))
    ∙ ap (λ (t : List A). put t p xs)
    (sym (put-put s (p + length xs) m ys (omega (arith, m_length))) ∙ ap₂ (λ (t : List A) (i : ℕ). put t i ys) here (sym q_is))
  where
    m : List A
    m = take (q - (p + length xs)) (drop (p + length xs) s)

    m_length : length m ≡ q - (p + length xs)
    m_length = length-take-le (q - (p + length xs)) (drop (p + length xs) s) (omega (arith, length-drop (p + length xs) s))

    here : put s (p + length xs) m ≡ s
    here = put_here s (p + length xs) (q - (p + length xs)) (omega arith)

    q_is : q ≡ p + length xs + length m
    q_is = omega (arith, m_length)

    q_long : q ≡ p + length (xs ++ m)
    q_long = omega (arith, m_length, length-append xs m)
