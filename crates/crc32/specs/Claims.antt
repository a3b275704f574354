-- Claim.
-- What is promised of CRC-32 beside the functions' contracts. Each claim is proved in proofs/ under its name with hyphens.
-- Assumes nothing.
use Rattle.std.specs.Prelude.{◌≡◌, List, ◌++◌, ℕ, ◌<◌, length, get_or}
use Rattle.slices.specs.Bytes.{Bytes}
use Rattle.fields.specs.Le.{le}
use Rattle.crc32.specs.Crc.{run, bits_of, bits, crc32}
use Rattle.crc32.specs.Wide.{byte_table}
use Rattle.crc32.specs.Burst.{Within32}

-- 01, closing list: "a table of 256 entries whose rule is proved over all of it". An entry is the register after eight zero bits, from its place.
-- That the code's constant is this list is the contract of `byte_table`.
abbrev pub TableRule : Type 0
TableRule = (k : ℕ) → k < 256 → get_or byte_table k 0 ≡ run k (bits_of 8 0)

-- the register over two parts, one after the other: so a checksum over several slices is several runs, each from where the last one ended
abbrev pub PartsJoin : Type 0
PartsJoin = (c : ℕ) (xs ys : List ℕ) → run c (bits (xs ++ ys)) ≡ run (run c (bits xs)) (bits ys)

-- two lists of bytes that differ, of one length and with all differing bits within 32 adjacent ones, lowest bit of each byte first, have
-- different CRC-32
abbrev pub BurstDetected : Type 0
BurstDetected =
    (xs ys : List ℕ) (k : ℕ) → Bytes xs → Bytes ys → Within32 (bits xs) (bits ys) k → (xs ≡ ys → ⊥) → crc32 xs ≡ crc32 ys → ⊥

-- where the four stored bytes of a checksum fit a list, no other four bytes do
abbrev pub StoredSumTold : Type 0
StoredSumTold =
    (xs ws vs : List ℕ) → Bytes ws → Bytes vs → length ws ≡ 4 → length vs ≡ 4 → le ws ≡ crc32 xs → (ws ≡ vs → ⊥) → le vs ≡ crc32 xs → ⊥
