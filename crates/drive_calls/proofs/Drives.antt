-- The calls of an input's commands are a list of calls.
-- Assumes nothing.
use mathlib.Core.Path.{refl, subst}
use mathlib.Core.Bool.{Bool, true, false, cond}
use mathlib.Core.List.{List, [], ◌∷◌, append-nil}
use Prim.Native.Nat.{ℕ, zero, suc}
use native.Mathlib.Omega.{arith}
use lib.Dec.{eqb}
use lib.ListN.{length, drop}
use Rattle.slices.specs.Bytes.{Bytes, zeros}
use Rattle.slices.proofs.Bytes.{take_bytes, drop_bytes}
use Rattle.calls.specs.State.{State, Call, create_call, delete_call, truncate_call, append_call, Typed}
use Rattle.calls.specs.Calls.{call_of}
use Rattle.calls.specs.Machine.{Fed}
use Rattle.calls.specs.Run.{StatesRun, begin, call}
use Rattle.readout_text.specs.Card.{readout_room, readout_scratch}
use Rattle.drive_commands.specs.Commands.{Parsed, none_left, bad, command, payload_in, name_in, number_in, position_by, width, call_by, is_command, command_at}
use Rattle.drive_calls.specs.Driven.{Driven, also_line, driven_on, driven_in, driven_from, driven, opening, fed}
use Rattle.drive_calls.specs.Claims.{DriveRuns}

-- ---- a command of bytes is a call of bytes, and bytes are left behind it

abbrev pub ParsedFine : Parsed → Type 0
ParsedFine none_left = Unit {0}
ParsedFine bad = Unit {0}
ParsedFine (command k rest) = Typed k × Bytes rest

payload_bytes_lem : (xs : List ℕ) → Bytes xs → Bytes (payload_in xs)
unfolding payload_in
payload_bytes_lem xs b = take_bytes 16 (drop 16 xs) (drop_bytes 16 xs b)

typed_by : (i j k : Bool) (xs : List ℕ) → Bytes xs
    → Typed (cond i (create_call (name_in xs)) (cond j (append_call (name_in xs) (position_by (number_in xs)) (payload_in xs) (16 ∷ [])) (cond k (truncate_call (name_in xs) (number_in xs)) (delete_call (name_in xs)))))
typed_by true j k xs b = tt
typed_by false true k xs b = payload_bytes_lem xs b
typed_by false false true xs b = tt
typed_by false false false xs b = tt

call_typed : (b : ℕ) (xs : List ℕ) → Bytes xs → Typed (call_by b xs)
unfolding call_by
call_typed b xs h = typed_by (eqb b 1) (eqb b 2) (eqb b 3) xs h

fine_by : (i : Bool) (k : Call) (rest : List ℕ) → Typed k → Bytes rest → ParsedFine (cond i (command k rest) bad)
fine_by true k rest t b = (t, b)
fine_by false k rest t b = tt

pub command_fine : (input : List ℕ) → Bytes input → ParsedFine (command_at input)
unfolding command_at
command_fine [] h = tt
command_fine (b ∷ bs) h =
    let r : Bytes bs = λ i. h (suc i) in
    fine_by (is_command b bs) (call_by b bs) (drop (width b) bs) (call_typed b bs r) (drop_bytes (width b) bs r)

-- ---- the fold

abbrev Ran : Driven → Type 0
Ran d = StatesRun d.history d.state

on_run : (p : Parsed) (h : List Fed) (s : State) (go : List Fed → State → List ℕ → Driven)
    → ((h' : List Fed) (s' : State) (rest : List ℕ) → StatesRun h' s' → Bytes rest → Ran (go h' s' rest))
    → StatesRun h s → ParsedFine p → Ran (driven_on p h s go)
unfolding driven_on also_line
on_run none_left h s go w r f = r
on_run bad h s go w r f = r
on_run (command k rest) h s go w r f =
    w (fed s k ∷ h) (call_of s k).state rest (call k (call_of s k).answer (call_of s k).state r f.0 refl refl) f.1

pub in_run : (i : ℕ) (h : List Fed) (s : State) (input : List ℕ) → StatesRun h s → Bytes input → Ran (driven_in i h s input)
unfolding driven_in
in_run zero h s input r b = r
in_run (suc i) h s input r b =
    on_run (command_at input) h s (driven_in i) (λ h' s' rest r' b'. in_run i h' s' rest r' b') r (command_fine input b)

pub opening-run : StatesRun [] opening
opening-run =
    subst (λ (log : List ℕ). StatesRun [] (record { log = log; place = 0; queues = []; arranged = true; capacities = readout_room; scratch = readout_scratch }))
    (append-nil (zeros 65536)) (begin 2 [] readout_room readout_scratch (omega arith) (omega arith) (omega arith))

pub drive_runs : DriveRuns
unfolding driven driven_from
drive_runs input b = in_run (length input) [] opening input opening-run b
