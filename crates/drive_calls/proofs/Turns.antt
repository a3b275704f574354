-- How many turns and lines an input takes; the input that is too long.
-- Assumes nothing.
use mathlib.Core.Path.{◌≡◌, refl, sym, ap, subst, ◌∙◌}
use mathlib.Core.Bool.{Bool, true, false, cond}
use mathlib.Core.List.{List, [], ◌∷◌, ◌++◌}
use Prim.Native.Nat.{ℕ, zero, suc, ◌+◌, ◌*◌, ◌≤◌, ◌<◌}
use native.Mathlib.Omega.{arith}
use lib.Dec.{eqb, ltb, leb}
use lib.ListN.{length, drop, length-drop}
use borrow.Author.Tests.{ltb-true, leb-true, le-ltb, lt-ltb}
use Rattle.queues.proofs.Both.{and_left, and_right}
use Rattle.calls.specs.State.{State, Call}
use Rattle.calls.specs.Calls.{call_of}
use Rattle.calls.specs.Machine.{Fed}
use Rattle.listing.specs.Listing.{refusal}
use Rattle.readout_text.specs.Card.{card_text}
use Rattle.drive_commands.specs.Commands.{Parsed, none_left, bad, command, width, call_by, is_command, command_at}
use Rattle.drive_calls.specs.Driven.{Driven, line_of, fed, also_line, driven_on, driven_in, driven_from, driven, opening, joined, driven_text, too_long, drive_text, drive_log}
use Rattle.drive_calls.specs.Claims.{Consumes, LinesFew, TooLong, DriveLists}
use Rattle.drive_calls.specs.Internal.{DriveEnds, DriveTurn, driven_rest}
use Rattle.drive_calls.proofs.Lists.{lists_its_log}

-- ---- a command takes at least 9 bytes

width_by : (i j k l : Bool) → 0 < cond i 8 (cond j 32 (cond k 16 (cond l 8 0))) → 8 ≤ cond i 8 (cond j 32 (cond k 16 (cond l 8 0)))
width_by true j k l h = omega arith
width_by false true k l h = omega arith
width_by false false true l h = omega arith
width_by false false false true h = omega arith
width_by false false false false h = absurd (omega (arith, h))

pub width_some : (b : ℕ) → 0 < width b → 8 ≤ width b
unfolding width
width_some b h = width_by (eqb b 1) (eqb b 2) (eqb b 3) (eqb b 4) h

-- a command's operands are there, and what is left is shorter by 9 bytes or more
abbrev ShorterThan : ℕ → Parsed → Type 0
ShorterThan n none_left = Unit {0}
ShorterThan n bad = Unit {0}
ShorterThan n (command k rest) = length rest + 9 ≤ n

shorter_by : (b : ℕ) (bs : List ℕ) (k : Call) (e : Bool) → is_command b bs ≡ e → ShorterThan (suc (length bs)) (cond e (command k (drop (width b) bs)) bad)
unfolding is_command
shorter_by b bs k true e =
    let w : 8 ≤ width b = width_some b (ltb-true 0 (width b) (and_left (ltb 0 (width b)) (leb (width b) (length bs)) e)) in
    let l : width b ≤ length bs = leb-true (width b) (length bs) (and_right (ltb 0 (width b)) (leb (width b) (length bs)) e) in
    omega (arith, w, l, length-drop (width b) bs)
shorter_by b bs k false e = tt

pub shorter : (input : List ℕ) → ShorterThan (length input) (command_at input)
unfolding command_at
shorter [] = tt
shorter (b ∷ bs) = shorter_by b bs (call_by b bs) (is_command b bs) refl

pub consumes : Consumes
consumes input k rest e = subst (ShorterThan (length input)) e (shorter input)

-- ---- turns

-- two ways to go on that agree on shorter inputs
on_same : (p : Parsed) (n : ℕ) (h : List Fed) (s : State) (go go' : List Fed → State → List ℕ → Driven)
    → ((h' : List Fed) (s' : State) (rest : List ℕ) → length rest + 9 ≤ n → go h' s' rest ≡ go' h' s' rest)
    → ShorterThan n p → driven_on p h s go ≡ driven_on p h s go'
unfolding driven_on
on_same none_left n h s go go' w l = refl
on_same bad n h s go go' w l = refl
on_same (command k rest) n h s go go' w l = ap (also_line (line_of s k)) (w (fed s k ∷ h) (call_of s k).state rest l)

none_same : (j : ℕ) (h : List Fed) (s : State) → driven_in j h s [] ≡ record { lines = []; history = h; state = s }
unfolding driven_in driven_on command_at
none_same zero h s = refl
none_same (suc j) h s = refl

short_same : (j : ℕ) (h : List Fed) (s : State) (input : List ℕ) → length input ≤ 0 → driven_in j h s input ≡ record { lines = []; history = h; state = s }
short_same j h s [] a = none_same j h s
short_same j h s (x ∷ xs) a = absurd (omega (arith, a))

pub turns_same : (i j : ℕ) (h : List Fed) (s : State) (input : List ℕ) → length input ≤ 9 * i → length input ≤ 9 * j → driven_in i h s input ≡ driven_in j h s input
unfolding driven_in
turns_same zero j h s input a b = sym (short_same j h s input (omega (arith, a)))
turns_same (suc i) zero h s input a b = short_same (suc i) h s input (omega (arith, b))
turns_same (suc i) (suc j) h s input a b =
    on_same (command_at input) (length input) h s (driven_in i) (driven_in j)
    (λ h' s' rest l. turns_same i j h' s' rest (omega (arith, l, a)) (omega (arith, l, b))) (shorter input)

pub drive_ends : DriveEnds
drive_ends i h s input l = turns_same i (length input) h s input l (omega arith)

-- a turn that is not the last, whatever number of turns was begun with
turn_by_lem : (h : List Fed) (s : State) (input : List ℕ) (p : Parsed) → command_at input ≡ p → driven_rest h s input ≡ driven_on p h s driven_rest
unfolding driven_in
turn_by_lem h s input p e =
    turns_same (length input) (suc (length input)) h s input (omega arith) (omega arith)
    ∙ on_same (command_at input) (length input) h s (driven_in (length input)) driven_rest
    (λ h' s' rest l. turns_same (length input) (length rest) h' s' rest (omega (arith, l)) (omega arith)) (shorter input)
    ∙ ap (λ (q : Parsed). driven_on q h s driven_rest) e

pub drive_turn : DriveTurn
unfolding driven_on
drive_turn =
    record {
      ends = λ h s input e. turn_by_lem h s input none_left e;
      stops = λ h s input e. turn_by_lem h s input bad e;
      goes_on = λ h s input k rest e. turn_by_lem h s input (command k rest) e;
    }

-- ---- lines

on_lines : (p : Parsed) (n : ℕ) (h : List Fed) (s : State) (go : List Fed → State → List ℕ → Driven)
    → ((h' : List Fed) (s' : State) (rest : List ℕ) → 9 * length (go h' s' rest).lines ≤ length rest + 8)
    → ShorterThan n p → 1 ≤ n → 9 * length (driven_on p h s go).lines ≤ n + 8
unfolding driven_on also_line
on_lines none_left n h s go w l m = omega arith
on_lines bad n h s go w l m = omega (arith, m)
on_lines (command k rest) n h s go w l m = omega (arith, w (fed s k ∷ h) (call_of s k).state rest, l)

pub in_lines : (i : ℕ) (h : List Fed) (s : State) (input : List ℕ) → 9 * length (driven_in i h s input).lines ≤ length input + 8
unfolding driven_in
in_lines zero h s input = omega arith
in_lines (suc i) h s [] = omega (arith, ap (λ (d : Driven). length d.lines) (none_same (suc i) h s))
in_lines (suc i) h s (x ∷ xs) = on_lines (command_at (x ∷ xs)) (length (x ∷ xs)) h s (driven_in i) (in_lines i) (shorter (x ∷ xs)) (omega arith)

pub lines_few : LinesFew
unfolding driven driven_from
lines_few input l = omega (arith, in_lines (length input) [] opening input, l)

-- ---- the text

pub too_long_lem : TooLong
unfolding drive_text drive_log too_long
too_long_lem input log l =
    record {
      text = ap (λ (b : Bool). cond b (refusal 1) (driven_text (driven input))) (lt-ltb 65536 (length input) l);
      log_stays = ap (λ (b : Bool). cond b log (driven input).state.log) (lt-ltb 65536 (length input) l);
    }

-- of an input that is not too long
module _ (input : List ℕ) (l : length input ≤ 65536) where
  pub text_is : drive_text input ≡ driven_text (driven input)
  unfolding drive_text too_long
  text_is = ap (λ (e : Bool). cond e (refusal 1) (driven_text (driven input))) (le-ltb 65536 (length input) l)

  pub log_is : (log : List ℕ) → drive_log input log ≡ (driven input).state.log
  unfolding drive_log too_long
  log_is log = ap (λ (e : Bool). cond e log (driven input).state.log) (le-ltb 65536 (length input) l)

pub drive_lists : DriveLists
unfolding driven_text
drive_lists input log b l =
    text_is input l
    ∙ ap (λ (t : List ℕ). joined (driven input).lines ++ t) (lists_its_log input b ∙ ap card_text (sym (log_is input l log)))
