-- No command writes a mark, so a day's log has none.
-- Assumes nothing.
use mathlib.Core.Path.{◌≡◌, refl, ap, ◌∙◌}
use mathlib.Core.Bool.{Bool, true, false, cond}
use mathlib.Core.List.{List, [], ◌∷◌, ◌++◌}
use Prim.Native.Nat.{ℕ, zero, suc}
use lib.Dec.{eqb}
use lib.ListN.{length, drop}
use Rattle.record.specs.Record.{Record, truncate, touch, delete, append, mark}
use Rattle.queues.specs.Queues.{find}
use Rattle.calls.specs.State.{State, Call, create_call, delete_call, truncate_call, append_call, mark_call}
use Rattle.calls.specs.Payloads.{gives_empty, first_position, items_at}
use Rattle.calls.specs.Named.{next_of}
use Rattle.calls.specs.Calls.{call_of}
use Rattle.calls.specs.Machine.{Listed, Machine, Fed, puts, puts_append, machine_call, machine, records_of}
use Rattle.calls.specs.Marks.{shifts_of}
use Rattle.drive_commands.specs.Commands.{Parsed, none_left, bad, command, payload_in, name_in, number_in, position_by, width, call_by, is_command, command_at}
use Rattle.drive_calls.specs.Driven.{Driven, also_line, driven_on, driven_in, driven_from, driven, opening, fed}

-- ---- the calls of commands

abbrev Unmarked : Call → Type 0
Unmarked (create_call n) = Unit {0}
Unmarked (delete_call n) = Unit {0}
Unmarked (truncate_call n e) = Unit {0}
Unmarked (append_call n a run ks) = Unit {0}
Unmarked (mark_call n body) = ⊥

abbrev ParsedUnmarked : Parsed → Type 0
ParsedUnmarked none_left = Unit {0}
ParsedUnmarked bad = Unit {0}
ParsedUnmarked (command k rest) = Unmarked k

call_by_lem : (i j k : Bool) (xs : List ℕ)
    → Unmarked (cond i (create_call (name_in xs)) (cond j (append_call (name_in xs) (position_by (number_in xs)) (payload_in xs) (16 ∷ [])) (cond k (truncate_call (name_in xs) (number_in xs)) (delete_call (name_in xs)))))
call_by_lem true j k xs = tt
call_by_lem false true k xs = tt
call_by_lem false false true xs = tt
call_by_lem false false false xs = tt

parsed_by : (i : Bool) (k : Call) (rest : List ℕ) → Unmarked k → ParsedUnmarked (cond i (command k rest) bad)
parsed_by true k rest u = u
parsed_by false k rest u = tt

command_unmarked : (input : List ℕ) → ParsedUnmarked (command_at input)
unfolding command_at call_by
command_unmarked [] = tt
command_unmarked (b ∷ bs) = parsed_by (is_command b bs) (call_by b bs) (drop (width b) bs) (call_by_lem (eqb b 1) (eqb b 2) (eqb b 3) bs)

abbrev pub AllUnmarked : List Fed → Type 0
AllUnmarked [] = Unit {0}
AllUnmarked (f ∷ h) = Unmarked f.asked × AllUnmarked h

on_unmarked : (p : Parsed) (h : List Fed) (s : State) (go : List Fed → State → List ℕ → Driven)
    → ((h' : List Fed) (s' : State) (rest : List ℕ) → AllUnmarked h' → AllUnmarked (go h' s' rest).history)
    → AllUnmarked h → ParsedUnmarked p → AllUnmarked (driven_on p h s go).history
unfolding driven_on also_line
on_unmarked none_left h s go w u f = u
on_unmarked bad h s go w u f = u
on_unmarked (command k rest) h s go w u f = w (fed s k ∷ h) (call_of s k).state rest (f, u)

in_unmarked : (i : ℕ) (h : List Fed) (s : State) (input : List ℕ) → AllUnmarked h → AllUnmarked (driven_in i h s input).history
unfolding driven_in
in_unmarked zero h s input u = u
in_unmarked (suc i) h s input u = on_unmarked (command_at input) h s (driven_in i) (λ h' s' rest u'. in_unmarked i h' s' rest u') u (command_unmarked input)

pub drive_unmarked : (input : List ℕ) → AllUnmarked (driven input).history
unfolding driven driven_from
drive_unmarked input = in_unmarked (length input) [] opening input tt

-- ---- the machine's list

-- a record at a list's end that is no mark
shifts_end : (ls : List Listed) (l : Listed) → shifts_of (l.written ∷ []) ≡ [] → shifts_of (records_of (ls ++ (l ∷ []))) ≡ shifts_of (records_of ls)
unfolding shifts_of
shifts_end [] l e = e
shifts_end (x ∷ ls) l e = on x.written (shifts_end ls l e)
  where
    on : (r : Record) → shifts_of (records_of (ls ++ (l ∷ []))) ≡ shifts_of (records_of ls) → shifts_of (r ∷ records_of (ls ++ (l ∷ []))) ≡ shifts_of (r ∷ records_of ls)
    on (truncate p n) d = d
    on (touch p n) d = d
    on (delete p n) d = d
    on (append p n is) d = d
    on (mark i body) d = ap (◌∷◌ i) d

abbrev shifts_in : Machine → List ℕ
shifts_in m = shifts_of (records_of m.records)

call_shifts : (m : Machine) (k : Call) → Unmarked k → shifts_in (machine_call m k) ≡ shifts_in m
unfolding machine_call puts puts_append shifts_of
call_shifts m (create_call n) u = shifts_end m.records _ refl
call_shifts m (delete_call n) u = shifts_end m.records _ refl
call_shifts m (truncate_call n e) u = shifts_end m.records _ refl
call_shifts m (append_call n a run ks) u = by (gives_empty a next ks)
  where
    next : ℕ
    next = next_of (find n m.queues)

    by : (b : Bool) → shifts_in (cond b m (puts_append m n (first_position a next) (items_at (first_position a next) run ks))) ≡ shifts_in m
    by true = refl
    by false = shifts_end m.records _ refl
call_shifts m (mark_call n body) u = absurd u

pub no_shifts : (h : List Fed) → AllUnmarked h → shifts_in (machine h) ≡ []
unfolding machine shifts_of
no_shifts [] u = refl
no_shifts (f ∷ h) u = by f.refused (no_shifts h u.1)
  where
    by : (b : Bool) → shifts_in (machine h) ≡ [] → shifts_in (cond b (machine h) (machine_call (machine h) f.asked)) ≡ []
    by true e = e
    by false e = call_shifts (machine h) f.asked u.0 ∙ e
