-- Helper: for proofs; no promise rests on reading it.
-- What the functions between the input and its text answer and leave.
-- Assumes nothing.
use Rattle.std.specs.Prelude.{◌≡◌, cond, List, [], ◌∷◌, ◌++◌, Option, ℕ, ◌+◌, ◌-◌, ltb, length, take, drop, get_or}
use Rattle.slices.specs.Bytes.{zeros}
use Rattle.calls.specs.State.{Call}
use Rattle.calls.specs.Calls.{call_of}
use Rattle.contracts.specs.Promises.{state_of}
use Rattle.abi_call.specs.OnBytes.{LentBytes}
use Rattle.abi_tables.specs.Tables.{lent_in}
use Rattle.std.specs.Prelude.Option.{Some, None}
use Rattle.listing.specs.Writing.{written, listed}
use Rattle.listing.specs.Internal.{Wrote}
use Rattle.listing.specs.Listing.{refusal}
use Rattle.drive_commands.specs.Commands.{width, command, command_at}
use Rattle.drive_calls.specs.Driven.{line_of, driven, joined}
use Rattle.drive_calls.specs.Internal.{lines_from, state_from}

-- ---- the commands

-- where the bytes behind a command begin
unfoldable pub passed : List ℕ → ℕ → ℕ
passed input p = p + 1 + width (get_or input p 0)

-- the line for bytes that are left and no command
unfoldable pub end_line : List ℕ → List ℕ
end_line [] = []
end_line (b ∷ bs) = refusal 16

-- one command: what its call leaves, and its line
pub record Turned (input : List ℕ) (p : ℕ) (g g' : LentBytes) (out : List ℕ) (at r : ℕ) (out' : List ℕ) : Type 0 where
  pub asked : Call
  pub stands : command_at (drop p input) ≡ command asked (drop (passed input p) input)
  pub state : state_of (lent_in g') ≡ (call_of (state_of (lent_in g)) asked).state
  pub line : Wrote out at (line_of (state_of (lent_in g)) asked) r out'

-- all commands
pub record Ran (input : List ℕ) (g g' : LentBytes) (out : List ℕ) (at r : ℕ) (out' : List ℕ) : Type 0 where
  pub lines : Wrote out at (lines_from (state_of (lent_in g)) input) r out'
  pub state : state_of (lent_in g') ≡ state_from (state_of (lent_in g)) input

-- all commands, from the start that `drive` has
pub record Drove (input log' out : List ℕ) (r : ℕ) (out' : List ℕ) : Type 0 where
  pub lines : Wrote out 0 (joined (driven input).lines) r out'
  pub log_left : log' ≡ (driven input).state.log

-- ---- a text behind what stands in a buffer up to a place

unfoldable pub on_listed : ℕ → Option ℕ → Option ℕ
on_listed at (Some n) = Some (at + n)
on_listed at None = None

unfoldable pub listed_behind : ℕ → ℕ → List ℕ → Option ℕ
listed_behind n at text = cond (ltb n at) None (on_listed at (listed (n - at) (length text)))

unfoldable pub left_behind : List ℕ → ℕ → List ℕ → List ℕ
left_behind out at text = cond (ltb (length out) at) out (take at out ++ written (zeros (length out - at)) 0 text)
