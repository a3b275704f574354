-- Helper: for proofs; no promise rests on reading it.
-- A line by the command's byte; tests of the operands.
-- Assumes nothing.
use Rattle.std.specs.Prelude.{Result, Ok, Err, Bool, false, cond, List, [], ◌∷◌, ◌++◌, ℕ, eqb}
use Rattle.call_write.specs.declared.Called.{Called}
use Rattle.call_decide.specs.Request.{position_of}
use Rattle.calls.specs.declared.Refusal.{Refusal}
use Rattle.calls.specs.Refused.{refusal_number}
use Rattle.listing.specs.Listing.{space, numbered, number_line, refusal}
use Rattle.drive_commands.specs.declared.Command.{Command}
use Rattle.drive_commands.specs.declared.Command.TheVariants.{Create, Append, Truncate, Delete}
use Rattle.drive_commands.specs.Commands.{is_command}
use Rattle.drive_commands.specs.Lines.{ok_word, position_text}

-- the byte of a command
abbrev pub byte_of : Command → ℕ
byte_of Create = 1
byte_of Append = 2
byte_of Truncate = 3
byte_of Delete = 4

-- what is told behind `ok`: the last position after an append, the evicted count after a truncate
unfoldable pub told_for : ℕ → Called → List ℕ
told_for b x = cond (eqb b 2) (space ++ position_text (position_of x.last)) (cond (eqb b 3) (numbered space x.evicted) [])

unfoldable pub ok_for : ℕ → Called → List ℕ
ok_for b x = ok_word ++ (told_for b x ++ (numbered space x.frame_bytes ++ number_line space x.padding_bytes))

unfoldable pub line_for : ℕ → Result Called Refusal → List ℕ
line_for b (Ok x) = ok_for b x
line_for b (Err r) = refusal (refusal_number r)

-- whether a command with its operands stands at the start of these bytes
unfoldable pub starts_command : List ℕ → Bool
starts_command [] = false
starts_command (b ∷ bs) = is_command b bs
