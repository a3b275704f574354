-- Which rule a first octet begins: no two rules of the grammar share one.
-- Assumes nothing.
use mathlib.Core.Path.{◌≡◌, refl}
use mathlib.Core.Bool.{Bool, true, false, cond, ◌&&◌, ◌||◌, false≢true}
use mathlib.Core.List.{List, [], ◌∷◌}
use Prim.Native.Nat.{ℕ, zero, suc, ◌≤◌, ◌<◌}
use native.Mathlib.Omega.{arith}
use lib.Dec.{leb, ltb}
use lib.ListN.{length, get_or}
use borrow.Author.Tests.{le-leb, lt-leb, leb-true, ltb-true}
use Rattle.utf8.specs.Utf8.{Range, Rule, range, rule, among, grammar, no_character, following, begun}

-- ---- tests

pub and_both : (a b : Bool) → a && b ≡ true → (a ≡ true) × (b ≡ true)
and_both true b h = (refl, h)
and_both false b h = absurd (false≢true h)

-- ---- an octet and a range

pub among_in : (r : Range) (x : ℕ) → r.low ≤ x → x ≤ r.high → among r x ≡ true
unfolding among
among_in r x h k = simp (le-leb _ _ h, le-leb _ _ k)

pub among_under : (r : Range) (x : ℕ) → x < r.low → among r x ≡ false
unfolding among
among_under r x h = simp (lt-leb _ _ h)

pub among_over : (r : Range) (x : ℕ) → r.high < x → among r x ≡ false
unfolding among
among_over r x h = and_no (leb r.low x) (lt-leb _ _ h)
  where
    and_no : (a : Bool) → leb x r.high ≡ false → a && leb x r.high ≡ false
    and_no true e = e
    and_no false e = refl

pub among_bounds : (r : Range) (x : ℕ) → among r x ≡ true → (r.low ≤ x) × (x ≤ r.high)
unfolding among
among_bounds r x h =
    let w = and_both (leb r.low x) (leb x r.high) h in
    (leb-true _ _ w.0, leb-true _ _ w.1)

-- ---- the rule of a first octet

-- the range shares no octet with a rule's first
unfoldable pub clear : Range → List Rule → Bool
clear r [] = true
clear r (g ∷ gs) = (ltb g.first.high r.low || ltb r.high g.first.low) && clear r gs

-- no two rules share a first octet
unfoldable pub apart : List Rule → Bool
apart [] = true
apart (g ∷ gs) = clear g.first gs && apart gs

outside : (r q : Range) (x : ℕ) → (ltb q.high r.low || ltb r.high q.low) ≡ true → among r x ≡ true → among q x ≡ false
outside r q x h a = by_side (ltb q.high r.low) refl h
  where
    by_side : (b : Bool) → ltb q.high r.low ≡ b → (b || ltb r.high q.low) ≡ true → among q x ≡ false
    by_side true e k = among_over q x (omega (arith, ltb-true q.high r.low e, among_bounds r x a))
    by_side false e k = among_under q x (omega (arith, ltb-true r.high q.low k, among_bounds r x a))

-- an octet of a range that is clear of the rules begins none
pub begun_none : (r : Range) (gs : List Rule) (x : ℕ) → clear r gs ≡ true → among r x ≡ true → begun gs x ≡ no_character
unfolding begun clear
begun_none r [] x h a = refl
begun_none r (g ∷ gs) x h a =
    let w = and_both (ltb g.first.high r.low || ltb r.high g.first.low) (clear r gs) h in
    rw (outside r g.first x w.0 a) (begun_none r gs x w.1 a)

abbrev pub rule_at : List Rule → ℕ → Rule
rule_at gs k = get_or gs k (rule 1 0 [])

-- an octet of a rule's first range begins that rule
pub begun_at : (gs : List Rule) (k x : ℕ) → apart gs ≡ true → k < length gs → among (rule_at gs k).first x ≡ true
    → begun gs x ≡ following (rule_at gs k).behind
unfolding begun apart
begun_at [] k x h l a = absurd (omega arith)
begun_at (g ∷ gs) zero x h l a = rw a
begun_at (g ∷ gs) (suc k) x h l a =
    let w = and_both (clear g.first gs) (apart gs) h in
    later (begun_at gs k x w.1 (omega arith) a) (among g.first x) refl
  where
    later : begun gs x ≡ following (rule_at gs k).behind → (b : Bool) → among g.first x ≡ b
        → cond b (following g.behind) (begun gs x) ≡ following (rule_at gs k).behind
    later e true i =
        let none : begun gs x ≡ no_character = begun_none g.first gs x (and_both (clear g.first gs) (apart gs) h).0 i in
        absurd (let z : ◌≡◌ {A = ℕ} 0 1 = cc in omega arith)
    later e false i = e

pub grammar_apart : apart grammar ≡ true
unfolding apart clear grammar
grammar_apart = refl

-- the grammar's k-th rule
pub by_rule : (k x : ℕ) → k < length grammar → (rule_at grammar k).first.low ≤ x → x ≤ (rule_at grammar k).first.high
    → begun grammar x ≡ following (rule_at grammar k).behind
by_rule k x l h i = begun_at grammar k x grammar_apart l (among_in (rule_at grammar k).first x h i)

-- the octets that begin no character
pub never_first : (a b x : ℕ) → clear (range a b) grammar ≡ true → a ≤ x → x ≤ b → begun grammar x ≡ no_character
never_first a b x h i k = begun_none (range a b) grammar x h (among_in (range a b) x i k)
