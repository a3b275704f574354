-- Helper: for proofs; no promise rests on reading it.
-- What the functions that write text into a lent buffer answer and leave.
-- Assumes nothing.
use Rattle.std.specs.Prelude.{◌≡◌, cond, List, Option, ℕ, zero, suc, ◌+◌, ltb, length}
use Rattle.listing.specs.declared.Text.{Text}
use Rattle.listing.specs.Writing.{listed, written}

-- the place after one byte more, in a buffer of n bytes: n + 1 where it does not fit
unfoldable pub stepped : ℕ → ℕ → ℕ
stepped n p = cond (ltb p n) (p + 1) (n + 1)

-- the place after k bytes more
unfoldable pub behind : ℕ → ℕ → ℕ → ℕ
behind n p zero = p
behind n p (suc k) = behind n (stepped n p) k

-- xs are written into s at p: q is the place after them, t what is left in the buffer
pub record Wrote (s : List ℕ) (p : ℕ) (xs : List ℕ) (q : ℕ) (t : List ℕ) : Type 0 where
  pub place : q ≡ behind (length s) p (length xs)
  pub buffer : t ≡ written s p xs

-- the same of a text: t' is the text behind which xs are written
abbrev pub Puts : Text → List ℕ → Text → Type 0
Puts t xs t' = Wrote t.out.now t.at xs t'.at t'.out.now

-- both texts are in the same buffer
abbrev pub SameOut : Text → Text → Type 0
SameOut t t' = t'.out.ghost_name ≡ t.out.ghost_name

-- the text xs stands in the buffer s from its start on: a is what is answered, t what is left in the buffer
abbrev pub Lists : List ℕ → List ℕ → Option ℕ → List ℕ → Type 0
Lists s xs a t = (a ≡ listed (length s) (length xs)) × (t ≡ written s 0 xs)

-- the same from a place p on: what is answered is for all that ends with xs
abbrev pub ListsFrom : List ℕ → ℕ → List ℕ → Option ℕ → List ℕ → Type 0
ListsFrom s p xs a t = (a ≡ listed (length s) (behind (length s) p (length xs))) × (t ≡ written s p xs)
