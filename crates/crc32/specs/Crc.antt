-- Definition (01, "Frames").
-- CRC-32 as IEEE 802.3 has it, bit by bit (01: "The checksum is CRC-32 over the type byte, then the data"; ORDER, demand 2: "CRC-32 (IEEE 802.3)").
-- The register is a number below 2 ^ 32, the message a list of bits. The polynomial is reflected: the register's lowest bit is the one that
-- leaves it, and a byte's lowest bit comes first.
-- Assumes nothing.
use Rattle.std.specs.Prelude.{Bool, true, false, List, [], ◌∷◌, ◌++◌, ℕ, zero, suc, ◌/◌, ◌%◌, eqb}
use Rattle.std.specs.Int.Bits.{bit_xor}

-- the lowest bit of a number
unfoldable pub odd : ℕ → Bool
odd n = eqb (n % 2) 1

-- the two bits differ
abbrev pub differs : Bool → Bool → Bool
differs false q = q
differs true true = false
differs true false = true

-- what is added to the register where the bit that leaves it differs from the message's: x^32 + x^26 + x^23 + x^22 + x^16 + x^12 + x^11 + x^10
-- + x^8 + x^7 + x^5 + x^4 + x^2 + x + 1 without its x^32, reflected
abbrev pub feedback : Bool → ℕ
feedback true = 0xEDB88320
feedback false = 0

-- one bit of the message goes into the register
unfoldable pub step : ℕ → Bool → ℕ
step c b = bit_xor (c / 2) (feedback (differs b (odd c)))

-- the bits of a message, first to last
unfoldable pub run : ℕ → List Bool → ℕ
run c [] = c
run c (b ∷ bs) = run (step c b) bs

-- the k low bits of a number, lowest first
unfoldable pub bits_of : ℕ → ℕ → List Bool
bits_of zero n = []
bits_of (suc k) n = odd n ∷ bits_of k (n / 2)

-- the bits of a list of bytes, lowest bit of each byte first
unfoldable pub bits : List ℕ → List Bool
bits [] = []
bits (x ∷ xs) = bits_of 8 x ++ bits xs

-- CRC-32 of a list of bytes: from the register with all bits set, and each bit of the last register turned
unfoldable pub crc32 : List ℕ → ℕ
crc32 xs = bit_xor (run 0xFFFFFFFF (bits xs)) 0xFFFFFFFF
