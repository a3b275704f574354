-- Claim.
-- What is claimed of the text for a card; each is proved in proofs/ under the same name in snake case.
-- Assumes nothing.
use Rattle.std.specs.Prelude.{◌≡◌, List, [], ◌∷◌, ◌++◌, Option, ℕ, ◌≤◌, ◌<◌, length}
use Rattle.slices.specs.Bytes.{Bytes, zeros}
use Rattle.std.specs.Prelude.Option.{Some}
use Rattle.listing.specs.Writing.{written, listed}
use Rattle.listing.specs.Listing.{refusal}
use Rattle.listing.specs.Claims.{example_line1, example_line2, example_line3, example_line4, example_line5, example_line6}
use Rattle.readout_text.specs.Card.{card_text}

-- A buffer of 420,235 bytes has room for the text of every card: the answer is never that there is no room. 252,774 of them are the lines of 9,362 marks, more than two
-- blocks can have frames.
abbrev pub CardShort : Type 0
CardShort = (input : List ℕ) → Bytes input → length (card_text input) ≤ 420235

abbrev pub NeverNoRoom : Type 0
NeverNoRoom = (input : List ℕ) (room : ℕ) → Bytes input → 420235 ≤ room → listed room (length (card_text input)) ≡ Some (length (card_text input))

-- what is answered for a text lies in the buffer that it leaves
abbrev pub InTheBuffer : Type 0
InTheBuffer = (room k : ℕ) (text after : List ℕ) (r : Option ℕ) (n : ℕ) → r ≡ Some n → (r ≡ listed room k) × (after ≡ written (zeros room) 0 text) → n ≤ length after

-- "over 65,536 bytes of input is 1", and under one block
abbrev pub TooLong : Type 0
TooLong = (input : List ℕ) → 65536 < length input → card_text input ≡ refusal 1

abbrev pub TooShort : Type 0
TooShort = (input : List ℕ) → length input < 32768 → card_text input ≡ refusal 1

-- ---- 01's example

-- frames of 19 and 46 bytes: a touch of "a" at 0, and an append of "one" and an empty payload
abbrev pub example_frames : List ℕ
example_frames = 97 ∷ 58 ∷ 174 ∷ 5 ∷ 12 ∷ 0 ∷ 1 ∷ 2 ∷ 0 ∷ 0 ∷ 0 ∷ 0 ∷ 0 ∷ 0 ∷ 0 ∷ 0 ∷ 1 ∷ 0 ∷ 97 ∷ 186 ∷ 130 ∷ 55 ∷ 187 ∷ 39 ∷ 0 ∷ 1 ∷ 4 ∷ 0 ∷ 0 ∷ 0 ∷ 0 ∷ 0 ∷ 0 ∷ 0 ∷ 0 ∷ 1 ∷ 0 ∷ 97 ∷ 0 ∷ 0 ∷ 0 ∷ 0 ∷ 0 ∷ 0 ∷ 0 ∷ 0 ∷ 3 ∷ 0 ∷ 0 ∷ 0 ∷ 111 ∷ 110 ∷ 101 ∷ 1 ∷ 0 ∷ 0 ∷ 0 ∷ 0 ∷ 0 ∷ 0 ∷ 0 ∷ 0 ∷ 0 ∷ 0 ∷ 0 ∷ []

-- on one zeroed block
abbrev pub CardExample : Type 0
CardExample = card_text (example_frames ++ zeros 32703) ≡ example_line1 ++ (example_line2 ++ (example_line3 ++ (example_line4 ++ (example_line5 ++ example_line6))))
