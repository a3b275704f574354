-- Claim.
-- What is claimed of the text and of writing it; each is proved in proofs/ under the same name in snake case.
-- Assumes nothing.
use Rattle.std.specs.Prelude.{◌≡◌, true, cond, List, [], ◌∷◌, ◌++◌, map, ℕ, ◌+◌, ◌*◌, ◌-◌, ◌^◌, ◌≤◌, ◌<◌, ◌/◌, ◌%◌, ltb, length, take, get_or}
use Rattle.slices.specs.Bytes.{Bytes}
use Rattle.slices.specs.Put.{put}
use Rattle.queues.specs.Queues.{stored, Queue, queue, name_bytes, record_count, payload_bytes, in_order}
use Rattle.queues.specs.Unblocked.{unblocked}
use Rattle.queues.specs.Layout.{Memory, meaning, arranged}
use Rattle.listing.specs.Digits.{hex_run, decimal}
use Rattle.listing.specs.Writing.{written}
use Rattle.listing.specs.Listing.{shift_lines, whole_bytes, half_even, fill_tenths, listing, refusal}

-- ---- 01's example

-- after create "a" and an append of "one" and an empty payload, all in block 0
abbrev pub example_queue : Queue
example_queue = queue (97 ∷ []) 0 (stored 0 (111 ∷ 110 ∷ 101 ∷ []) 0 ∷ stored 1 [] 0 ∷ [])

-- "queues 1"
abbrev pub example_line1 : List ℕ
example_line1 = 113 ∷ 117 ∷ 101 ∷ 117 ∷ 101 ∷ 115 ∷ 32 ∷ 49 ∷ 10 ∷ []

-- "queue 61 start 0 next 2 held 2"
abbrev pub example_line2 : List ℕ
example_line2 = 113 ∷ 117 ∷ 101 ∷ 117 ∷ 101 ∷ 32 ∷ 54 ∷ 49 ∷ 32 ∷ 115 ∷ 116 ∷ 97 ∷ 114 ∷ 116 ∷ 32 ∷ 48 ∷ 32 ∷ 110 ∷ 101 ∷ 120 ∷ 116 ∷ 32 ∷ 50 ∷ 32 ∷ 104 ∷ 101 ∷ 108 ∷ 100 ∷ 32 ∷ 50 ∷ 10 ∷ []

-- "record 0 6f6e65"
abbrev pub example_line3 : List ℕ
example_line3 = 114 ∷ 101 ∷ 99 ∷ 111 ∷ 114 ∷ 100 ∷ 32 ∷ 48 ∷ 32 ∷ 54 ∷ 102 ∷ 54 ∷ 101 ∷ 54 ∷ 53 ∷ 10 ∷ []

-- "record 1 -"
abbrev pub example_line4 : List ℕ
example_line4 = 114 ∷ 101 ∷ 99 ∷ 111 ∷ 114 ∷ 100 ∷ 32 ∷ 49 ∷ 32 ∷ 45 ∷ 10 ∷ []

-- "lost 0"
abbrev pub example_line5 : List ℕ
example_line5 = 108 ∷ 111 ∷ 115 ∷ 116 ∷ 32 ∷ 48 ∷ 10 ∷ []

-- "fill 0.2"
abbrev pub example_line6 : List ℕ
example_line6 = 102 ∷ 105 ∷ 108 ∷ 108 ∷ 32 ∷ 48 ∷ 46 ∷ 50 ∷ 10 ∷ []

-- frames of 19 and 46 bytes on one zeroed block give exactly the six lines
abbrev pub Example : Type 0
Example = listing (example_queue ∷ []) 0 65 32768 ≡ example_line1 ++ (example_line2 ++ (example_line3 ++ (example_line4 ++ (example_line5 ++ (example_line6)))))

-- ---- other computed facts

-- "18446744073709551615", and one digit more
abbrev pub LastNumber : Type 0
LastNumber = (decimal 0xFFFFFFFFFFFFFFFF ≡ 49 ∷ 56 ∷ 52 ∷ 52 ∷ 54 ∷ 55 ∷ 52 ∷ 52 ∷ 48 ∷ 55 ∷ 51 ∷ 55 ∷ 48 ∷ 57 ∷ 53 ∷ 53 ∷ 49 ∷ 54 ∷ 49 ∷ 53 ∷ []) × (decimal (10 ^ 20) ≡ 49 ∷ 48 ∷ 48 ∷ 48 ∷ 48 ∷ 48 ∷ 48 ∷ 48 ∷ 48 ∷ 48 ∷ 48 ∷ 48 ∷ 48 ∷ 48 ∷ 48 ∷ 48 ∷ 48 ∷ 48 ∷ 48 ∷ 48 ∷ 48 ∷ [])

-- of one block: nothing used, the exact halves of a tenth (6.25, 18.75, 31.25 .. 93.75 percent), all; and half a block used of one with a tail
abbrev pub Fills : Type 0
Fills = (map (λ (p : ℕ). fill_tenths p 32768) (0 ∷ 2048 ∷ 6144 ∷ 10240 ∷ 14336 ∷ 18432 ∷ 22528 ∷ 26624 ∷ 30720 ∷ 32768 ∷ []) ≡ 0 ∷ 62 ∷ 188 ∷ 312 ∷ 438 ∷ 562 ∷ 688 ∷ 812 ∷ 938 ∷ 1000 ∷ []) × (fill_tenths 16384 65535 ≡ 500)

-- "shift 2", "shift 0", "shift 18446744073709551615": in the order of the list
abbrev pub ShiftTexts : Type 0
ShiftTexts = shift_lines (2 ∷ 0 ∷ 0xFFFFFFFFFFFFFFFF ∷ []) ≡ 115 ∷ 104 ∷ 105 ∷ 102 ∷ 116 ∷ 32 ∷ 50 ∷ 10 ∷ 115 ∷ 104 ∷ 105 ∷ 102 ∷ 116 ∷ 32 ∷ 48 ∷ 10 ∷ 115 ∷ 104 ∷ 105 ∷ 102 ∷ 116 ∷ 32 ∷ 49 ∷ 56 ∷ 52 ∷ 52 ∷ 54 ∷ 55 ∷ 52 ∷ 52 ∷ 48 ∷ 55 ∷ 51 ∷ 55 ∷ 48 ∷ 57 ∷ 53 ∷ 53 ∷ 49 ∷ 54 ∷ 49 ∷ 53 ∷ 10 ∷ []

-- "refused 14"
abbrev pub RefusalText : Type 0
RefusalText = refusal 14 ≡ 114 ∷ 101 ∷ 102 ∷ 117 ∷ 115 ∷ 101 ∷ 100 ∷ 32 ∷ 49 ∷ 52 ∷ 10 ∷ []

-- ---- what is not listed

-- queues that are equal but for block numbers (02, Ticket 10) have one text
abbrev pub BlocksUnlisted : Type 0
BlocksUnlisted = (qs qs' : List Queue) (lost resumed n : ℕ) → map unblocked qs ≡ map unblocked qs' → listing qs lost resumed n ≡ listing qs' lost resumed n

-- ---- numbers and bytes can be read back

-- the number that digits stand for, read on from a
unfoldable pub value_on : ℕ → List ℕ → ℕ
value_on a [] = a
value_on a (d ∷ ds) = value_on (10 * a + (d - 48)) ds

abbrev pub DecimalReads : Type 0
DecimalReads = (n : ℕ) → value_on 0 (decimal n) ≡ n

-- what a hex digit stands for, and two of them
unfoldable pub digit_value : ℕ → ℕ
digit_value d = cond (ltb d 58) (d - 48) (d - 87)

unfoldable pub bytes_of : List ℕ → List ℕ
bytes_of [] = []
bytes_of (h ∷ []) = []
bytes_of (h ∷ l ∷ ds) = (16 * digit_value h + digit_value l) ∷ bytes_of ds

abbrev pub HexReads : Type 0
HexReads = (bs : List ℕ) → Bytes bs → bytes_of (hex_run bs) ≡ bs

-- ---- the rounding

-- 02, Ticket 2: t is a / b to "the nearest", "and at an exact half the even" one, over whole numbers
pub record Rounded (a b t : ℕ) : Type 0 where
  -- t is at most 1/2 above a / b, and at most 1/2 below
  pub not_above : 2 * b * t ≤ 2 * a + b
  pub not_below : 2 * a ≤ 2 * b * t + b
  -- where it is exactly 1/2 above, or exactly 1/2 below, it is even
  pub even_above : 2 * b * t ≡ 2 * a + b → t % 2 ≡ 0
  pub even_below : 2 * a ≡ 2 * b * t + b → t % 2 ≡ 0

abbrev pub HalfEven : Type 0
HalfEven = (a b : ℕ) → 0 < b → Rounded a b (half_even a b)

-- no other number has these properties
abbrev pub HalfEvenOnly : Type 0
HalfEvenOnly = (a b t : ℕ) → 0 < b → Rounded a b t → t ≡ half_even a b

-- the fill of a log with a block, in tenths of a percent of its whole blocks
abbrev pub FillRounded : Type 0
FillRounded = (resumed n : ℕ) → 32768 ≤ n → Rounded (1000 * resumed) (whole_bytes n) (fill_tenths resumed n)

-- ---- what a buffer is left with

-- a text that fits stands at its place, and all else is unchanged
abbrev pub WrittenFits : Type 0
WrittenFits = (s : List ℕ) (p : ℕ) (xs : List ℕ) → p + length xs ≤ length s → written s p xs ≡ put s p xs

-- of one that is too long for the buffer, as much as fits
abbrev pub WrittenShort : Type 0
WrittenShort = (s xs : List ℕ) → length s ≤ length xs → written s 0 xs ≡ take (length s) xs

-- ---- how long a text gets

-- the fill of a log of n bytes can be told: it has a block and at most 4,096, and the resume point lies in it
pub record LogFits (resumed n : ℕ) : Type 0 where
  pub a_block : 32768 ≤ n
  pub few_blocks : n / 32768 ≤ 4096
  pub inside : resumed ≤ n

-- the line of a mark has at most 27 bytes, with a shift number of 8
abbrev pub ShiftsShort : Type 0
ShiftsShort = (ns : List ℕ) → ((i : ℕ) → get_or ns i 0 < 2 ^ 64) → length (shift_lines ns) ≤ 27 * length ns

-- with the sizes that 01 gives `readout`: "64 queues, 1,024 records, 32,768 payload bytes and 32,768 name bytes"
abbrev pub ListingShort : Type 0
ListingShort = (qs : List Queue) (lost resumed n : ℕ) → in_order qs ≡ true → length qs ≤ 64 → record_count qs ≤ 1024 → name_bytes qs ≤ 32768 → payload_bytes qs ≤ 32768
    → lost < 2 ^ 64 → LogFits resumed n → length (listing qs lost resumed n) ≤ 167461

-- the text of an arranged memory of these sizes
abbrev pub MemoryShort : Type 0
MemoryShort = (m : Memory) (lost resumed n : ℕ) → arranged m ≡ true → length m.entries ≤ 1024 → length m.names ≤ 32768 → length m.payloads ≤ 32768
    → lost < 2 ^ 64 → LogFits resumed n → length (listing (meaning m) lost resumed n) ≤ 167461
