-- Helper: for proofs; no promise rests on reading it.
-- Folding: each byte of a message is added to later ones, until all that is left stands in the last 300.
-- Assumes nothing.
use Rattle.std.specs.Prelude.{◌≡◌, List, [], ◌∷◌, ℕ, ◌+◌, ◌/◌, ◌%◌, ◌<◌, get_or}
use Rattle.std.specs.Int.Bits.{bit_xor}

-- the exponents of x ^ 300 + x ^ 155 + x ^ 117 + x ^ 89 + 1, a multiple of the polynomial of CRC-32: those below the highest, and all
abbrev pub lower : List ℕ
lower = 155 ∷ 117 ∷ 89 ∷ 0 ∷ []

abbrev pub exponents : List ℕ
exponents = 300 ∷ lower

-- the sum of f over a list
unfoldable pub summed : List ℕ → (ℕ → ℕ) → ℕ
summed [] f = 0
summed (k ∷ ks) f = bit_xor (f k) (summed ks f)

-- a message with the bytes of a register added from its front on, lowest first
unfoldable pub entered : ℕ → List ℕ → List ℕ
entered c [] = []
entered c (x ∷ xs) = bit_xor x (c % 256) ∷ entered (c / 256) xs

-- u starts with 300 zero bytes
abbrev pub Clear : List ℕ → Type 0
Clear u = (j : ℕ) → j < 300 → get_or u j 0 ≡ 0

-- u starts with 300 zero bytes, and after them stands the fold of d's first n bytes: the byte at i is the sum of what u has at i + k, over the exponents k
pub record Folded (n : ℕ) (d u : List ℕ) : Type 0 where
  pub clear : Clear u
  pub sums : (i : ℕ) → i < n → get_or d i 0 ≡ summed exponents (λ k. get_or u (k + i) 0)
