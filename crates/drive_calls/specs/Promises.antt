-- Claim.
-- What is promised of the text for a file of commands; each is proved in proofs/ under its name in snake case.
-- Assumes nothing.
use Rattle.std.specs.Prelude.{◌≡◌, List, ℕ, ◌≤◌, length}
use Rattle.slices.specs.Bytes.{Bytes}
use Rattle.std.specs.Prelude.Option.{Some}
use Rattle.listing.specs.Writing.{listed}
use Rattle.readout_text.specs.Card.{card_text}
use Rattle.drive_calls.specs.Driven.{driven, listing_of, drive_text}

-- "What it lists equals what replaying its own log lists."
abbrev pub ListsItsLog : Type 0
ListsItsLog = (input : List ℕ) → Bytes input → listing_of (driven input).state ≡ card_text (driven input).state.log

-- a buffer of 247,570 bytes has room for the text of every input: the answer is never that there is no room
abbrev pub DriveShort : Type 0
DriveShort = (input : List ℕ) → Bytes input → length (drive_text input) ≤ 247570

abbrev pub DriveRoom : Type 0
DriveRoom = (input : List ℕ) (room : ℕ) → Bytes input → 247570 ≤ room → listed room (length (drive_text input)) ≡ Some (length (drive_text input))
