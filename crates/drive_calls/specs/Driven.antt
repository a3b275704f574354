-- Definition (02, Ticket 4).
-- The calls of an input's commands from an empty log of two blocks with `readout`'s memory; the text that is printed for the input, and the log that is left.
-- Assumes nothing.
use Rattle.std.specs.Prelude.{Bool, true, cond, List, [], ◌∷◌, ◌++◌, ℕ, zero, suc, ltb, length}
use Rattle.slices.specs.Bytes.{zeros}
use Rattle.recordlog.specs.Read.{resume}
use Rattle.calls.specs.State.{State, Call}
use Rattle.calls.specs.Calls.{call_of}
use Rattle.calls.specs.Machine.{Fed, was_refused}
use Rattle.listing.specs.Listing.{listing, refusal}
use Rattle.readout_text.specs.Card.{readout_room, readout_scratch}
use Rattle.drive_commands.specs.Commands.{Parsed, none_left, bad, command, command_at}
use Rattle.drive_commands.specs.Lines.{line_by}

-- ---- the calls, one after the other

-- the line of a call: what it answers
unfoldable pub line_of : State → Call → List ℕ
line_of s k = line_by k (call_of s k).answer

-- the lines; what was fed to the plain machine, the latest call first; and the state left
pub record Driven : Type 0 where
  pub lines : List (List ℕ)
  pub history : List Fed
  pub state : State

abbrev pub fed : State → Call → Fed
fed s k = record { asked = k; refused = was_refused (call_of s k).answer }

-- a line before those of the rest
unfoldable pub also_line : List ℕ → Driven → Driven
also_line line d = record { lines = line ∷ d.lines; history = d.history; state = d.state }

-- `go` goes on, also where the call was refused; "the run stops after that line with the listing of what came before"
unfoldable pub driven_on : Parsed → List Fed → State → (List Fed → State → List ℕ → Driven) → Driven
driven_on none_left h s go = record { lines = []; history = h; state = s }
driven_on bad h s go = record { lines = refusal 16 ∷ []; history = h; state = s }
driven_on (command k rest) h s go = also_line (line_of s k) (go (fed s k ∷ h) (call_of s k).state rest)

-- at most so many commands
unfoldable pub driven_in : ℕ → List Fed → State → List ℕ → Driven
driven_in zero h s input = record { lines = []; history = h; state = s }
driven_in (suc i) h s input = driven_on (command_at input) h s (driven_in i)

-- no input has more commands than bytes
unfoldable pub driven_from : State → List ℕ → Driven
driven_from s input = driven_in (length input) [] s input

-- "from an empty log of two blocks, with `readout`'s memory"
abbrev pub opening : State
opening = record { log = zeros 65536; place = 0; queues = []; arranged = true; capacities = readout_room; scratch = readout_scratch }

unfoldable pub driven : List ℕ → Driven
driven input = driven_from opening input

-- ---- the text, and the log

unfoldable pub joined : List (List ℕ) → List ℕ
joined [] = []
joined (l ∷ ls) = l ++ joined ls

-- "then `readout`'s listing", of the queues that the calls left. "Its `fill` counts to where a replay of its log would resume." Nothing is lost in a log that
-- calls wrote.
unfoldable pub listing_of : State → List ℕ
listing_of s = listing s.queues 0 (resume s.log readout_scratch) (length s.log)

unfoldable pub driven_text : Driven → List ℕ
driven_text d = joined d.lines ++ listing_of d.state

unfoldable pub too_long : List ℕ → Bool
too_long input = ltb 65536 (length input)

-- "Over 65,536 bytes of input prints only `refused 1`."
unfoldable pub drive_text : List ℕ → List ℕ
drive_text input = cond (too_long input) (refusal 1) (driven_text (driven input))

-- what a lent log is left with: what the calls wrote, or, where the input is too long, what it held
unfoldable pub drive_log : List ℕ → List ℕ → List ℕ
drive_log input log = cond (too_long input) log (driven input).state.log
