-- The listing of the queues that the calls left is what replaying their log lists.
-- Assumes nothing.
use mathlib.Core.Path.{◌≡◌, refl, sym, ap, ap₂, subst, ◌∙◌}
use mathlib.Core.Bool.{Bool, true, false, cond}
use mathlib.Core.List.{List, [], ◌∷◌, ◌++◌}
use Prim.Native.Nat.{ℕ, zero, suc}
use native.Mathlib.Omega.{arith}
use lib.ListN.{length}
use Rattle.slices.proofs.Put.{length_put}
use Rattle.recordlog.specs.Write.{record_bytes}
use Rattle.recordlog.specs.Read.{resume}
use Rattle.recordlog.proofs.Frames.{length_record}
use Rattle.record.specs.Record.{Record, mark, encode}
use Rattle.queues.specs.Queues.{Queue, Position}
use Rattle.calls.specs.State.{State, Call, create_call, delete_call, truncate_call, append_call, mark_call}
use Rattle.calls.specs.Payloads.{gives_empty, first_position}
use Rattle.calls.specs.Refusals.{next_named, refusals_of, refusal_of}
use Rattle.calls.specs.Calls.{logged, wrote, create_done, delete_done, truncate_done, empty_answer, append_taking, append_done, marked, mark_done, done_of, returned_by, call_of}
use Rattle.calls.specs.Reading.{readings, lost_in}
use Rattle.calls.specs.Replay.{Outcome, replayed_by, replay_call}
use Rattle.calls.specs.Machine.{Listed, Fed, machine, records_of}
use Rattle.calls.specs.Run.{StatesRun}
use Rattle.calls.specs.Desks.{marks_in, listed_by, marks_listed}
use Rattle.calls.specs.Marks.{shifts_of}
use Rattle.calls.proofs.Passed.{WriteTaken, AppendPassed, create_passed, delete_passed, truncate_passed, append-passed, mark_passed}
use Rattle.calls.proofs.Steps.{follows}
use Rattle.calls.proofs.Runs.{same_records, reading}
use Rattle.calls.proofs.PlacedRuns.{states_round_trip}
use Rattle.calls.proofs.Marks.{marks_given}
use Rattle.lost_bytes.proofs.Hit.{states_lose_nothing}
use Rattle.listing.specs.Listing.{shift_lines, listing}
use Rattle.readout_text.specs.Card.{text_by, text_for, text_in, readout_room, readout_scratch, sized_text, card_text}
use Rattle.readout_text.proofs.Sizes.{just_sized}
use Rattle.drive_commands.specs.Commands.{Parsed, none_left, bad, command, command_at}
use Rattle.drive_calls.specs.Driven.{Driven, also_line, driven_on, driven_in, driven_from, driven, opening, fed, listing_of}
use Rattle.drive_calls.specs.Promises.{ListsItsLog}
use Rattle.drive_calls.proofs.Drives.{drive_runs}
use Rattle.drive_calls.proofs.Unmarked.{AllUnmarked, drive_unmarked, no_shifts}

-- ---- sizes are kept

-- two blocks, and `readout`'s memory and scratch
pub record Sized (s : State) : Type 0 where
  pub room_is : s.capacities ≡ readout_room
  pub scratch_is : s.scratch ≡ readout_scratch
  pub log_size : length s.log ≡ 65536

pub opening_sized : Sized opening
opening_sized = record { room_is = refl; scratch_is = refl; log_size = refl }

module _ (s : State) (z : Sized s) where
  logged_sized : (r : Record) (qs : List Queue) (fits : Bool) → WriteTaken s r fits → Sized (logged s r qs)
  unfolding logged
  logged_sized r qs fits w =
      record {
        room_is = z.room_is;
        scratch_is = z.scratch_is;
        log_size = length_put s.log s.place (record_bytes s.place (encode r)) (omega (arith, length_record s.place (encode r), w.in_log)) ∙ z.log_size;
      }

  append_sized : (n : List ℕ) (a : Position) (run ks : List ℕ) → AppendPassed s n a run ks → (e : Bool) → gives_empty a (next_named s n) ks ≡ e
      → Sized (cond e (empty_answer s) (append_taking s n (first_position a (next_named s n)) run ks)).state
  unfolding empty_answer append_taking wrote
  append_sized n a run ks w true e = z
  append_sized n a run ks w false e = logged_sized _ _ _ (w.taking e).write

  done_sized : (k : Call) → refusal_of s k ≡ 0 → Sized (done_of s k).state
  unfolding refusals_of done_of create_done delete_done truncate_done append_done wrote mark_done marked logged
  done_sized (create_call n) e = logged_sized _ _ _ (create_passed s n e).write
  done_sized (delete_call n) e = logged_sized _ _ _ (delete_passed s n e).write
  done_sized (truncate_call n x) e = logged_sized _ _ _ (truncate_passed s n x e).write
  done_sized (append_call n a run ks) e = append_sized n a run ks (append-passed s n a run ks e) (gives_empty a (next_named s n) ks) refl
  done_sized (mark_call n body) e =
      record {
        room_is = z.room_is;
        scratch_is = z.scratch_is;
        log_size = (logged_sized (mark n body) s.queues true (mark_passed s n body e).write).log_size;
      }

  returned_sized : (k : Call) (i : ℕ) → refusal_of s k ≡ i → Sized (returned_by i s (done_of s k)).state
  unfolding returned_by
  returned_sized k zero e = done_sized k e
  returned_sized k (suc i) e = z

  pub call_sized : (k : Call) → Sized (call_of s k).state
  unfolding call_of
  call_sized k = returned_sized k (refusal_of s k) refl

on_sized : (p : Parsed) (h : List Fed) (s : State) (go : List Fed → State → List ℕ → Driven)
    → ((h' : List Fed) (s' : State) (rest : List ℕ) → Sized s' → Sized (go h' s' rest).state)
    → Sized s → Sized (driven_on p h s go).state
unfolding driven_on also_line
on_sized none_left h s go w z = z
on_sized bad h s go w z = z
on_sized (command k rest) h s go w z = w (fed s k ∷ h) (call_of s k).state rest (call_sized s z k)

in_sized : (i : ℕ) (h : List Fed) (s : State) (input : List ℕ) → Sized s → Sized (driven_in i h s input).state
unfolding driven_in
in_sized zero h s input z = z
in_sized (suc i) h s input z = on_sized (command_at input) h s (driven_in i) (λ h' s' rest z'. in_sized i h' s' rest z') z

pub driven_sized : (input : List ℕ) → Sized (driven input).state
unfolding driven driven_from
driven_sized input = in_sized (length input) [] opening input opening_sized

-- ---- the text for the log

-- a new desk lists the marks that the calls wrote
run_marks : (h : List Fed) (s : State) → StatesRun h s → marks_in (readings s.log s.scratch) ≡ shifts_of (records_of (machine h).records)
run_marks h s r =
    ap marks_in (reading s (follows r).list (follows r).stands s.scratch (follows r).stands.in_scratch)
    ∙ marks_given (records_of (follows r).list)
    ∙ ap (λ (ls : List Listed). shifts_of (records_of ls)) (sym (same_records r))

-- of a log that calls wrote, none of them a mark, with the memory that they were lent
pub text_of_run : (h : List Fed) (s : State) → StatesRun h s → AllUnmarked h
    → text_in s.log s.capacities s.scratch ≡ listing s.queues 0 (resume s.log s.scratch) (length s.log)
unfolding text_in text_for text_by replay_call replayed_by marks_listed listed_by shift_lines
text_of_run h s r u =
    let ms : List ℕ = marks_in (readings s.log s.scratch) in
    ap₂ (λ (o : Outcome) (n : ℕ). text_for (replayed_by o (lost_in (readings s.log s.scratch)) n (resume s.log s.scratch)) (listed_by o ms) (length s.log))
    (states_round_trip h s r) (states_lose_nothing h s r)
    ∙ ap (λ (ns : List ℕ). shift_lines ns ++ listing s.queues 0 (resume s.log s.scratch) (length s.log)) (run_marks h s r ∙ no_shifts h u)

pub run_lists : (h : List Fed) (s : State) → StatesRun h s → AllUnmarked h → Sized s → listing_of s ≡ card_text s.log
unfolding listing_of sized_text
run_lists h s r u z =
    sym (just_sized s.log (omega (arith, z.log_size)) (omega (arith, z.log_size))
    ∙ subst (λ (l : ℕ). text_in s.log readout_room l ≡ listing s.queues 0 (resume s.log l) (length s.log)) z.scratch_is
    (subst (λ c. text_in s.log c s.scratch ≡ listing s.queues 0 (resume s.log s.scratch) (length s.log)) z.room_is (text_of_run h s r u)))

pub lists_its_log : ListsItsLog
lists_its_log input b = run_lists (driven input).history (driven input).state (drive_runs input b) (drive_unmarked input) (driven_sized input)
