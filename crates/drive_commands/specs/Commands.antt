-- Definition (02, Ticket 4).
-- The commands of an input, one after the other.
-- Assumes nothing.
use Rattle.std.specs.Prelude.{Bool, cond, ◌&&◌, List, [], ◌∷◌, ℕ, leb, ltb, eqb, length, take, drop}
use Rattle.fields.specs.Le.{le}
use Rattle.queues.specs.Queues.{Position, no_position, at}
use Rattle.calls.specs.State.{Call, create_call, delete_call, truncate_call, append_call}

-- no byte is left; the bytes are no command (16); a call, and the bytes behind its command
pub data Parsed : Type 0 where
  none_left : Parsed
  bad : Parsed
  command : Call → List ℕ → Parsed

-- ---- operands

-- "Zero bytes at a name's end are cut off": a byte before what is left of those behind it
unfoldable pub trim_on : ℕ → List ℕ → List ℕ
trim_on b [] = cond (eqb b 0) [] (b ∷ [])
trim_on b (c ∷ cs) = b ∷ c ∷ cs

unfoldable pub trimmed : List ℕ → List ℕ
trimmed [] = []
trimmed (b ∷ bs) = trim_on b (trimmed bs)

-- the operands stand in this order: "8-byte name", "8-byte position", "16-byte payload"
unfoldable pub name_in : List ℕ → List ℕ
name_in xs = trimmed (take 8 xs)

-- 01: "all stored numbers are little-endian"
unfoldable pub number_in : List ℕ → ℕ
number_in xs = le (take 8 (drop 8 xs))

unfoldable pub payload_in : List ℕ → List ℕ
payload_in xs = take 16 (drop 16 xs)

-- "position 2^64-1 in an append means none named"
unfoldable pub position_by : ℕ → Position
position_by p = cond (eqb p 0xFFFFFFFFFFFFFFFF) no_position (at p)

-- ---- a command

-- "commands of one byte with operands of fixed widths: hex 01 create, 8-byte name; 02 append, name, 8-byte position, 16-byte payload; 03 truncate, name,
-- position; 04 delete, name": the bytes behind the command's byte, 0 where "a command byte is unknown"
unfoldable pub width : ℕ → ℕ
width b = cond (eqb b 1) 8 (cond (eqb b 2) 32 (cond (eqb b 3) 16 (cond (eqb b 4) 8 0)))

-- the call that a known command byte makes with these operands
unfoldable pub call_by : ℕ → List ℕ → Call
call_by b xs =
    cond (eqb b 1) (create_call (name_in xs))
    (cond (eqb b 2) (append_call (name_in xs) (position_by (number_in xs)) (payload_in xs) (16 ∷ []))
    (cond (eqb b 3) (truncate_call (name_in xs) (number_in xs)) (delete_call (name_in xs))))

-- "16 when a command byte is unknown or its operands run out"
unfoldable pub is_command : ℕ → List ℕ → Bool
is_command b bs = ltb 0 (width b) && leb (width b) (length bs)

unfoldable pub command_at : List ℕ → Parsed
command_at [] = none_left
command_at (b ∷ bs) = cond (is_command b bs) (command (call_by b bs) (drop (width b) bs)) bad
