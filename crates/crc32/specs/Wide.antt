-- Helper: for proofs; no promise rests on reading it.
-- The tables by which bytes go into the register at once: the byte table of 256 entries, and the wide table, 16 parts of 256 entries end to end,
-- of which the byte table is the first.
-- Assumes nothing.
use Rattle.std.specs.Prelude.{◌≡◌, List, [], ◌∷◌, ℕ, zero, suc, ◌/◌, ◌%◌, ◌≤◌, ◌<◌, length, get_or}
use Rattle.slices.specs.Bytes.{zeros}
use Rattle.crc32.specs.Crc.{run, bits}

-- the entry at m * 256 + k, for k below 256, which is the entry k of part m: the register after m + 1 zero bytes, from the register k
unfoldable pub wide_entry : ℕ → ℕ
wide_entry j = run (j % 256) (bits (zeros (suc (j / 256))))

-- n entries, from place j on
unfoldable pub wide_from : ℕ → ℕ → List ℕ
wide_from j zero = []
wide_from j (suc n) = wide_entry j ∷ wide_from (suc j) n

unfoldable pub byte_table : List ℕ
byte_table = wide_from 0 256

unfoldable pub wide_table : List ℕ
wide_table = wide_from 0 4096

-- t starts with the wide table's first n entries
pub record Starts (n : ℕ) (t : List ℕ) : Type 0 where
  pub long : n ≤ length t
  pub right : (j : ℕ) → j < n → get_or t j 0 ≡ wide_entry j
