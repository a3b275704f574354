-- Claim.
-- What is claimed of the text for a file of commands; each is proved in proofs/ under the same name in snake case.
-- Assumes nothing.
use Rattle.std.specs.Prelude.{◌≡◌, List, ◌++◌, ℕ, ◌+◌, ◌≤◌, ◌<◌, length}
use Rattle.slices.specs.Bytes.{Bytes}
use Rattle.calls.specs.State.{Call}
use Rattle.calls.specs.Run.{StatesRun}
use Rattle.listing.specs.Listing.{listing, refusal}
use Rattle.readout_text.specs.Card.{card_text}
use Rattle.drive_commands.specs.Commands.{command, command_at}
use Rattle.drive_calls.specs.Driven.{driven, joined, listing_of, drive_text, drive_log}

-- the calls of an input's commands are a list of calls from an empty start, as demands 2 and 3 have it
abbrev pub DriveRuns : Type 0
DriveRuns = (input : List ℕ) → Bytes input → StatesRun (driven input).history (driven input).state

-- an input of at most 65,536 bytes prints its lines, and then what `readout` prints for the log left
abbrev pub DriveLists : Type 0
DriveLists = (input log : List ℕ) → Bytes input → length input ≤ 65536 → drive_text input ≡ joined (driven input).lines ++ card_text (drive_log input log)

-- in a log of two blocks the listing is the same whether `fill` counts to where a replay resumes or to the write position
abbrev pub FillByPlace : Type 0
FillByPlace = (input : List ℕ) → Bytes input
    → listing_of (driven input).state ≡ listing (driven input).state.queues 0 (driven input).state.place 65536

-- "Over 65,536 bytes of input prints only `refused 1`."; then the lent log is as it was
pub record LeavesAll (input log : List ℕ) : Type 0 where
  pub text : drive_text input ≡ refusal 1
  pub log_stays : drive_log input log ≡ log

abbrev pub TooLong : Type 0
TooLong = (input log : List ℕ) → 65536 < length input → LeavesAll input log

-- ---- how many lines, and how long a text gets

-- a command takes at least 9 bytes
abbrev pub Consumes : Type 0
Consumes = (input : List ℕ) (k : Call) (rest : List ℕ) → command_at input ≡ command k rest → length rest + 9 ≤ length input

-- at most 7,281 commands, and a line for bytes that are none
abbrev pub LinesFew : Type 0
LinesFew = (input : List ℕ) → length input ≤ 65536 → length (driven input).lines ≤ 7282

-- and some input of 65,536 bytes has as many
pub record LinesMost : Type 0 where
  pub input : List ℕ
  pub size : length input ≡ 65536
  pub bytes : Bytes input
  pub lines : length (driven input).lines ≡ 7282
