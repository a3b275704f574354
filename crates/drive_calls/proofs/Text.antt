-- How long the text for an input gets: a line is at most eleven ninths as long as its command.
-- Assumes nothing.
use mathlib.Core.Path.{◌≡◌, refl, sym, subst}
use mathlib.Core.Bool.{Bool, true, false, cond, ◌&&◌}
use mathlib.Core.List.{List, [], ◌∷◌}
use Prim.Native.Nat.{ℕ, zero, suc, ◌+◌, ◌*◌, ◌≤◌, ◌<◌}
use native.Mathlib.Omega.{arith}
use lib.Dec.{eqb, ltb, leb}
use lib.ListN.{length, take, drop, length-append, length-take, length-drop}
use borrow.Author.Tests.{ltb-true, ltb-false, leb-true}
use Rattle.slices.specs.Bytes.{Bytes}
use Rattle.frame.specs.Block.{blocks}
use Rattle.recordlog.specs.Read.{resume}
use Rattle.queues.specs.Queues.{Queue, name_bytes, record_count, payload_bytes, in_order, Capacities}
use Rattle.queues.proofs.Both.{and_left, and_right}
use Rattle.calls.specs.State.{State, Call, create_call, delete_call, truncate_call, append_call}
use Rattle.calls.specs.Calls.{call_of}
use Rattle.calls.specs.Machine.{Fed}
use Rattle.calls.specs.Run.{StatesRun, call}
use Rattle.calls.specs.Claims.{queues_arranged}
use Rattle.calls.proofs.AnyLog.{resumes_in_log}
use Rattle.calls.proofs.Runs.{states_arranged}
use Rattle.listing.specs.Listing.{refusal}
use Rattle.listing.proofs.Bounds.{listing_short}
use Rattle.listing.proofs.Writes.{listed-whole}
use Rattle.readout_text.specs.Card.{readout_scratch}
use Rattle.drive_commands.specs.Commands.{Parsed, none_left, bad, command, trim_on, trimmed, name_in, number_in, payload_in, position_by, width, call_by, is_command, command_at}
use Rattle.drive_calls.specs.Driven.{Driven, line_of, fed, also_line, driven_on, driven_in, driven_from, driven, opening, joined, listing_of, driven_text, too_long, drive_text}
use Rattle.drive_calls.specs.Promises.{DriveShort, DriveRoom}
use Rattle.drive_calls.proofs.Drives.{ParsedFine, command_fine, opening-run, drive_runs}
use Rattle.drive_calls.proofs.Lists.{Sized, opening_sized, call_sized, driven_sized}
use Rattle.drive_calls.proofs.Short.{ShortCall, refusal_short, line_most, line_short}

-- ---- names

trim_on_lem : (b : ℕ) (xs : List ℕ) → length (trim_on b xs) ≤ suc (length xs)
unfolding trim_on
trim_on_lem b [] = by (eqb b 0)
  where
    by : (e : Bool) → length (cond {A = List ℕ} e [] (b ∷ [])) ≤ 1
    by true = omega arith
    by false = omega arith
trim_on_lem b (c ∷ cs) = omega arith

trim_short : (xs : List ℕ) → length (trimmed xs) ≤ length xs
unfolding trimmed
trim_short [] = omega arith
trim_short (b ∷ bs) = omega (arith, trim_on_lem b (trimmed bs), trim_short bs)

name_short : (xs : List ℕ) → length (name_in xs) ≤ 8
unfolding name_in
name_short xs = omega (arith, trim_short (take 8 xs), length-take 8 xs)

-- ---- a command and its line

abbrev call_as : Bool → Bool → Bool → List ℕ → Call
call_as i j k xs = cond i (create_call (name_in xs)) (cond j (append_call (name_in xs) (position_by (number_in xs)) (payload_in xs) (16 ∷ [])) (cond k (truncate_call (name_in xs) (number_in xs)) (delete_call (name_in xs))))

short_as : (i j k : Bool) (xs : List ℕ) → ShortCall (call_as i j k xs)
short_as true j k xs = name_short xs
short_as false true k xs = (name_short xs, refl)
short_as false false true xs = name_short xs
short_as false false false xs = name_short xs

pub command_short : (b : ℕ) (xs : List ℕ) → ShortCall (call_by b xs)
unfolding call_by
command_short b xs = short_as (eqb b 1) (eqb b 2) (eqb b 3) xs

weigh_as : (i j k l : Bool) (xs : List ℕ) → 0 < cond i 8 (cond j 32 (cond k 16 (cond l 8 0)))
    → 9 * line_most (call_as i j k xs) ≤ 11 * suc (cond i 8 (cond j 32 (cond k 16 (cond l 8 0))))
unfolding line_most
weigh_as true j k l xs h = omega arith
weigh_as false true k l xs h = omega arith
weigh_as false false true l xs h = omega arith
weigh_as false false false true xs h = omega arith
weigh_as false false false false xs h = absurd (omega (arith, h))

weigh : (b : ℕ) (xs : List ℕ) → 0 < width b → 9 * line_most (call_by b xs) ≤ 11 * suc (width b)
unfolding width call_by
weigh b xs h = weigh_as (eqb b 1) (eqb b 2) (eqb b 3) (eqb b 4) xs h

abbrev Weighed : ℕ → Parsed → Type 0
Weighed n none_left = Unit {0}
Weighed n bad = 1 ≤ n
Weighed n (command k rest) = ShortCall k × (9 * line_most k + 11 * length rest ≤ 11 * n)

weighed_by : (b : ℕ) (bs : List ℕ) (e : Bool) → is_command b bs ≡ e → Weighed (suc (length bs)) (cond e (command (call_by b bs) (drop (width b) bs)) bad)
unfolding is_command
weighed_by b bs true e =
    let w = weigh b bs (ltb-true 0 (width b) (and_left (ltb 0 (width b)) (leb (width b) (length bs)) e)) in
    let l : width b ≤ length bs = leb-true (width b) (length bs) (and_right (ltb 0 (width b)) (leb (width b) (length bs)) e) in
    (command_short b bs, omega (arith, w, l, length-drop (width b) bs))
weighed_by b bs false e = omega arith

weighed : (input : List ℕ) → Weighed (length input) (command_at input)
unfolding command_at
weighed [] = tt
weighed (b ∷ bs) = weighed_by b bs (is_command b bs) refl

-- ---- the queues that calls left fit `readout`'s memory

pub record Held (qs : List Queue) : Type 0 where
  pub ordered : in_order qs ≡ true
  pub queues : length qs ≤ 64
  pub names : name_bytes qs ≤ 32768
  pub records : record_count qs ≤ 1024
  pub payloads : payload_bytes qs ≤ 32768

pub run_held : (h : List Fed) (s : State) → StatesRun h s → Sized s → Held s.queues
unfolding queues_arranged
run_held h s r z =
    let qs : List Queue = s.queues in
    let q1 : Bool = leb (length qs) 64 in
    let q2 : Bool = leb (name_bytes qs) 32768 in
    let q3 : Bool = leb (record_count qs) 1024 in
    let q4 : Bool = leb (payload_bytes qs) 32768 in
    let w : in_order qs && (q1 && (q2 && (q3 && q4))) ≡ true = subst (λ (c : Capacities). queues_arranged c qs ≡ true) z.room_is (states_arranged h s r) in
    let w1 : q1 && (q2 && (q3 && q4)) ≡ true = and_right (in_order qs) (q1 && (q2 && (q3 && q4))) w in
    let w2 : q2 && (q3 && q4) ≡ true = and_right q1 (q2 && (q3 && q4)) w1 in
    let w3 : q3 && q4 ≡ true = and_right q2 (q3 && q4) w2 in
    record {
      ordered = and_left (in_order qs) (q1 && (q2 && (q3 && q4))) w;
      queues = leb-true (length qs) 64 (and_left q1 (q2 && (q3 && q4)) w1);
      names = leb-true (name_bytes qs) 32768 (and_left q2 (q3 && q4) w2);
      records = leb-true (record_count qs) 1024 (and_left q3 q4 w3);
      payloads = leb-true (payload_bytes qs) 32768 (and_right q3 q4 w3);
    }

-- ---- the lines together

on_text : (p : Parsed) (n : ℕ) (h : List Fed) (s : State) (go : List Fed → State → List ℕ → Driven)
    → ((h' : List Fed) (s' : State) (rest : List ℕ) → StatesRun h' s' → Sized s' → Bytes rest → 9 * length (joined (go h' s' rest).lines) ≤ 11 * (length rest + 8))
    → StatesRun h s → Sized s → ParsedFine p → Weighed n p → 9 * length (joined (driven_on p h s go).lines) ≤ 11 * (n + 8)
unfolding driven_on also_line joined
on_text none_left n h s go g r z f w = omega arith
on_text bad n h s go g r z f w = omega (arith, length-append (refusal 16) [], refusal_short 16 (omega arith), w)
on_text (command k rest) n h s go g r z f w =
    let h' : List Fed = fed s k ∷ h in
    let s' : State = (call_of s k).state in
    let ls : List (List ℕ) = (go h' s' rest).lines in
    let l = line_short s k w.0 (run_held h s r z).records in
    let m : 9 * length (joined ls) ≤ 11 * (length rest + 8) = g h' s' rest (call k (call_of s k).answer s' r f.0 refl refl) (call_sized s z k) f.1 in
    omega (arith, length-append (line_of s k) (joined ls), l, m, w.1)

in_text : (i : ℕ) (h : List Fed) (s : State) (input : List ℕ) → StatesRun h s → Sized s → Bytes input → 9 * length (joined (driven_in i h s input).lines) ≤ 11 * (length input + 8)
unfolding driven_in joined
in_text zero h s input r z b = omega arith
in_text (suc i) h s input r z b =
    on_text (command_at input) (length input) h s (driven_in i) (λ h' s' rest r' z' b'. in_text i h' s' rest r' z' b') r z (command_fine input b) (weighed input)

pub lines_short : (input : List ℕ) → Bytes input → length input ≤ 65536 → length (joined (driven input).lines) ≤ 80109
unfolding driven driven_from
lines_short input b l = omega (arith, in_text (length input) [] opening input opening-run opening_sized b, l)

-- ---- the listing

pub listed_short : (h : List Fed) (s : State) → StatesRun h s → Sized s → length (listing_of s) ≤ 167461
unfolding listing_of
listed_short h s r z =
    let w = run_held h s r z in
    let n : blocks s.log ≡ 2 = omega (arith, z.log_size) in
    let p : resume s.log readout_scratch ≤ blocks s.log * 32768 = resumes_in_log s.log readout_scratch (omega (arith, n)) in
    listing_short s.queues 0 (resume s.log readout_scratch) (length s.log) w.ordered w.queues w.records w.names w.payloads (omega arith)
    (record { a_block = omega (arith, z.log_size); few_blocks = omega (arith, z.log_size); inside = omega (arith, p, n, z.log_size) })

-- ---- the text

short_by : (input : List ℕ) → Bytes input → (e : Bool) → ltb 65536 (length input) ≡ e → length (cond e (refusal 1) (driven_text (driven input))) ≤ 247570
unfolding driven_text
short_by input b true e = omega (arith, refusal_short 1 (omega arith))
short_by input b false e =
    omega (
      arith,
      length-append (joined (driven input).lines) (listing_of (driven input).state),
      lines_short input b (ltb-false 65536 (length input) e),
      listed_short (driven input).history (driven input).state (drive_runs input b) (driven_sized input),
    )

pub drive_short : DriveShort
unfolding drive_text too_long
drive_short input b = short_by input b (ltb 65536 (length input)) refl

pub drive_room : DriveRoom
drive_room input room b h = sym (listed-whole room (length (drive_text input)) (omega (arith, drive_short input b, h)))
