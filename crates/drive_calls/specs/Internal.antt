-- Helper: for proofs; no promise rests on reading it.
-- One turn of a loop over the bytes that are left.
-- Assumes nothing.
use Rattle.std.specs.Prelude.{◌≡◌, List, [], ◌∷◌, ◌++◌, ℕ, ◌*◌, ◌≤◌, length}
use Rattle.calls.specs.State.{State, Call}
use Rattle.calls.specs.Calls.{call_of}
use Rattle.calls.specs.Machine.{Fed}
use Rattle.listing.specs.Listing.{refusal}
use Rattle.drive_commands.specs.Commands.{none_left, bad, command, command_at}
use Rattle.drive_calls.specs.Driven.{Driven, line_of, fed, also_line, driven_in, driven_from, joined}

-- a turn for every 9 bytes suffices: more give the same
abbrev pub DriveEnds : Type 0
DriveEnds = (i : ℕ) (h : List Fed) (s : State) (input : List ℕ) → length input ≤ 9 * i → driven_in i h s input ≡ driven_in (length input) h s input

-- from a history and a state on, by the bytes that are left
abbrev pub driven_rest : List Fed → State → List ℕ → Driven
driven_rest h s input = driven_in (length input) h s input

pub record DriveTurn : Type 0 where
  pub ends : (h : List Fed) (s : State) (input : List ℕ) → command_at input ≡ none_left → driven_rest h s input ≡ record { lines = []; history = h; state = s }
  pub stops : (h : List Fed) (s : State) (input : List ℕ) → command_at input ≡ bad → driven_rest h s input ≡ record { lines = refusal 16 ∷ []; history = h; state = s }
  pub goes_on : (h : List Fed) (s : State) (input : List ℕ) (k : Call) (rest : List ℕ) → command_at input ≡ command k rest
      → driven_rest h s input ≡ also_line (line_of s k) (driven_rest (fed s k ∷ h) (call_of s k).state rest)

-- the lines from a state on, and the state at the end
abbrev pub lines_from : State → List ℕ → List ℕ
lines_from s input = joined (driven_from s input).lines

abbrev pub state_from : State → List ℕ → State
state_from s input = (driven_from s input).state

-- a turn by the lines and the state: the history is in neither
pub record TextTurn : Type 0 where
  pub ends : (s : State) (input : List ℕ) → command_at input ≡ none_left → (lines_from s input ≡ []) × (state_from s input ≡ s)
  pub stops : (s : State) (input : List ℕ) → command_at input ≡ bad → (lines_from s input ≡ refusal 16) × (state_from s input ≡ s)
  pub goes_on : (s : State) (input : List ℕ) (k : Call) (rest : List ℕ) → command_at input ≡ command k rest
      → (lines_from s input ≡ line_of s k ++ lines_from (call_of s k).state rest) × (state_from s input ≡ state_from (call_of s k).state rest)
