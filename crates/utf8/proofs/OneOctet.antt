-- Bytes that each are a character of one octet: what comes before the others may be left out.
-- Assumes nothing.
use mathlib.Core.Path.{◌≡◌, refl, sym, ap, ◌∙◌}
use mathlib.Core.Bool.{Bool, true, false, ◌&&◌}
use mathlib.Core.List.{List, [], ◌∷◌, ◌++◌}
use Prim.Native.Nat.{ℕ, ◌+◌, ◌≤◌, ◌<◌}
use native.Mathlib.Numerals.{add-one}
use native.Mathlib.Omega.{arith}
use borrow.Author.Tests.{ltb-true}
use lib.Dec.{ltb, lit<}
use lib.ListN.{length, drop, take, get_or, take-append-drop, drop_of_length-le}
use lib.Seq.{drop-cons}
use Rattle.utf8.specs.Utf8.{Follow, grammar, following, after, after_all, whole, utf8}
use Rattle.utf8.specs.Wanted.{are_one_octet}
use Rattle.utf8.proofs.Rules.{and_both, by_rule}

-- a character of one octet is whole
begins_anew : (x : ℕ) → x < 128 → after (following []) x ≡ following []
unfolding after grammar
begins_anew x h = by_rule 0 x (lit< tt) (omega arith) (omega arith)

first_left_out : (x : ℕ) (xs : List ℕ) → x < 128 → utf8 (x ∷ xs) ≡ utf8 xs
unfolding utf8 after_all
first_left_out x xs h = ap (λ (f : Follow). whole (after_all f xs)) (begins_anew x h)

left_out : (xs ys : List ℕ) → are_one_octet xs ≡ true → utf8 (xs ++ ys) ≡ utf8 ys
unfolding are_one_octet
left_out [] ys h = refl
left_out (x ∷ xs) ys h =
    let w = and_both (ltb x 128) (are_one_octet xs) h in
    first_left_out x (xs ++ ys) (ltb-true x 128 w.0) ∙ left_out xs ys w.1

pub front_left_out : (n : ℕ) (xs front back : List ℕ) → front ≡ take n xs → back ≡ drop n xs → are_one_octet front ≡ true → utf8 back ≡ utf8 xs
front_left_out n xs front back f b h = sym (left_out front back h) ∙ ap utf8 (rw (f, b) (take-append-drop n xs))

pub octets_pass : (xs : List ℕ) → are_one_octet xs ≡ true → utf8 xs ≡ true
unfolding are_one_octet utf8 after_all whole
octets_pass [] h = refl
octets_pass (x ∷ xs) h =
    let w = and_both (ltb x 128) (are_one_octet xs) h in
    first_left_out x xs (ltb-true x 128 w.0) ∙ octets_pass xs w.1

-- one byte more is looked at
pub next_octet : (a : Bool) (i : ℕ) (xs : List ℕ) → i < length xs
    → (a && ltb (get_or xs i 0) 128) && are_one_octet (drop (i + 1) xs) ≡ a && are_one_octet (drop i xs)
unfolding are_one_octet
next_octet false i xs h = refl
next_octet true i xs h = rw (add-one, drop-cons xs i 0 h)

pub no_more : (a : Bool) (i : ℕ) (xs : List ℕ) → length xs ≤ i → a && are_one_octet (drop i xs) ≡ a
unfolding are_one_octet
no_more false i xs h = refl
no_more true i xs h = ap are_one_octet (drop_of_length-le xs h)
