-- One command after another: what stands at a place of the input, its call and its line, and the loop over them.
-- Assumes nothing.
use mathlib.Core.Path.{◌≡◌, refl, sym, ap, ap₂, subst, ◌∙◌}
use mathlib.Core.Bool.{Bool, true, false, cond, false≢true}
use mathlib.Core.List.{List, [], ◌∷◌, ◌++◌, append_assoc}
use Prim.Native.Nat.{ℕ, suc, ◌+◌, ◌-◌, ◌≤◌, ◌<◌}
use native.Mathlib.Omega.{arith}
use lib.Dec.{ltb, leb}
use lib.ListN.{length, take, drop, get_or, length-drop, drop_of_length-le}
use lib.Seq.{drop-cons, drop-drop, take_all}
use borrow.Author.Tests.{ltb-true, ltb-false, leb-true}
use Rattle.queues.proofs.Both.{and_left, and_right}
use Rattle.calls.specs.State.{State, Call}
use Rattle.calls.specs.Calls.{call_of}
use Rattle.std.specs.Prelude.{Result}
use Rattle.calls.specs.declared.Refusal.{Refusal}
use Rattle.call_write.specs.declared.Called.{Called}
use Rattle.contracts.specs.Promises.{state_of}
use Rattle.contracts.specs.Numbers.{called_numbers}
use Rattle.contracts.proofs.Runs.{call_means}
use Rattle.abi_call.specs.OnBytes.{LentBytes}
use Rattle.abi_tables.specs.Tables.{lent_in, CallOnTables}
use Rattle.listing.specs.Internal.{Wrote}
use Rattle.listing.specs.Listing.{refusal}
use Rattle.listing.proofs.Writes.{on, reads, wrote_none_lem}
use Rattle.drive_commands.specs.Commands.{bad, command, width, call_by, is_command, command_at}
use Rattle.drive_commands.specs.Lines.{line_by}
use Rattle.drive_commands.specs.Internal.{line_for, starts_command}
use Rattle.drive_commands.proofs.Pieces.{line_is}
use Rattle.drive_calls.specs.Driven.{line_of}
use Rattle.drive_calls.specs.Internal.{lines_from, state_from}
use Rattle.drive_calls.proofs.Texts.{text_turn}
use Rattle.drive_text.proofs.Asked.{asks}
use Rattle.drive_text.specs.Internal.{passed, end_line, Turned, Ran}

-- ---- what stands at a place

-- a command with its operands
pub record There (input : List ℕ) (p : ℕ) : Type 0 where
  pub inside : p < length input
  pub wide : 0 < width (get_or input p 0)
  pub whole : width (get_or input p 0) ≤ length (drop (p + 1) input)
  pub ends : passed input p ≤ length input
  pub further : p < passed input p
  pub stands : command_at (drop p input) ≡ command (call_by (get_or input p 0) (drop (p + 1) input)) (drop (passed input p) input)

some_left : (input : List ℕ) (p : ℕ) → starts_command (drop p input) ≡ true → p < length input
unfolding starts_command
some_left input p e = by (ltb p (length input)) refl
  where
    by : (t : Bool) → ltb p (length input) ≡ t → p < length input
    by true h = ltb-true p (length input) h
    by false h = absurd (false≢true (sym (ap starts_command (drop_of_length-le input {i = p} (ltb-false p (length input) h))) ∙ e))

pub there : (input : List ℕ) (p : ℕ) → starts_command (drop p input) ≡ true → There input p
unfolding starts_command is_command command_at passed
there input p e =
    let h : p < length input = some_left input p e in
    let b : ℕ = get_or input p 0 in
    let bs : List ℕ = drop (p + 1) input in
    let one : p + 1 ≡ suc p = omega arith in
    let cut : drop p input ≡ b ∷ bs = drop-cons input p 0 h ∙ ap (λ (n : ℕ). b ∷ drop n input) (sym one) in
    let f : is_command b bs ≡ true = sym (ap starts_command cut) ∙ e in
    let w : 0 < width b = ltb-true 0 (width b) (and_left (ltb 0 (width b)) (leb (width b) (length bs)) f) in
    let l : width b ≤ length bs = leb-true (width b) (length bs) (and_right (ltb 0 (width b)) (leb (width b) (length bs)) f) in
    record {
      inside = h;
      wide = w;
      whole = l;
      ends = omega (arith, l, h, length-drop (p + 1) input);
      further = omega arith;
      stands =
          ap command_at cut ∙ ap (λ (t : Bool). cond t (command (call_by b bs) (drop (width b) bs)) bad) f
          ∙ ap (command (call_by b bs)) (drop-drop (width b) (p + 1) input);
    }

-- none, or bytes that are no command
module _ (s : State) (left : List ℕ) (e : starts_command left ≡ false) where
  ends_by : (xs : List ℕ) → left ≡ xs → starts_command xs ≡ false → (lines_from s left ≡ end_line xs) × (state_from s left ≡ s)
  unfolding end_line starts_command command_at
  ends_by [] f h = text_turn.ends s left (ap command_at f)
  ends_by (b ∷ bs) f h = text_turn.stops s left (ap command_at f ∙ ap (λ (t : Bool). cond t (command (call_by b bs) (drop (width b) bs)) bad) h)

  pub ends_so : (lines_from s left ≡ end_line left) × (state_from s left ≡ s)
  ends_so = ends_by left refl e

pub end_none : (input out : List ℕ) (p at : ℕ) → length input ≤ p → Wrote out at (end_line (drop p input)) at out
unfolding end_line
end_none input out p at h = reads (sym (ap end_line (drop_of_length-le input {i = p} h))) (wrote_none_lem out at)

pub end_some : {out out' : List ℕ} {at r : ℕ} (input : List ℕ) (p : ℕ) → p < length input → Wrote out at (refusal 16) r out' → Wrote out at (end_line (drop p input)) r out'
unfolding end_line
end_some input p h w = reads (sym (ap end_line (drop-cons input p 0 h))) w

-- the part of a slice from a place on
pub part_is : (xs : List ℕ) (k : ℕ) → take (length xs - k) (drop k xs) ≡ drop k xs
part_is xs k = take_all (length xs - k) (drop k xs) (omega (arith, length-drop k xs))

pub whole_part : (input : List ℕ) (p : ℕ) → There input p
    → (0 < width (get_or input p 0)) × (width (get_or input p 0) ≤ length (take (length input - (p + 1)) (drop (p + 1) input)))
whole_part input p t = (t.wide, subst (λ (xs : List ℕ). width (get_or input p 0) ≤ length xs) (sym (part_is input (p + 1))) t.whole)

-- ---- the line of a call

pub turned : {g g' : LentBytes} {out out' : List ℕ} {at r : ℕ} (input : List ℕ) (p : ℕ) (called : Result Called Refusal) → There input p
    → CallOnTables g (call_by (get_or input p 0) (take (length input - (p + 1)) (drop (p + 1) input))) (called_numbers called) g'
    → Wrote out at (line_for (get_or input p 0) called) r out' → Turned input p g g' out at r out'
unfolding line_of
turned {g} {g'} input p called t w₀ v =
    let w : CallOnTables g (call_by (get_or input p 0) (drop (p + 1) input)) (called_numbers called) g' = asks (ap (call_by (get_or input p 0)) (part_is input (p + 1))) w₀ in
    let b : ℕ = get_or input p 0 in
    let k : Call = call_by b (drop (p + 1) input) in
    let s : State = state_of (lent_in g) in
    let a : called_numbers called ≡ (call_of s k).answer = w.kept.answer in
    record {
      asked = k;
      stands = t.stands;
      state = call_means (lent_in g) (lent_in g') k (called_numbers called) w.kept;
      line = reads (line_is b (drop (p + 1) input) called ∙ ap (line_by k) a) v;
    }

-- ---- the loop

-- after some commands: their lines are written, and what is left comes to what the whole comes to
pub record Going (input : List ℕ) (g₀ g : LentBytes) (out₀ : List ℕ) (at₀ : ℕ) (out : List ℕ) (p at : ℕ) : Type 0 where
  pub text : List ℕ
  pub wrote : Wrote out₀ at₀ text at out
  pub lines : text ++ lines_from (state_of (lent_in g)) (drop p input) ≡ lines_from (state_of (lent_in g₀)) input
  pub state : state_from (state_of (lent_in g)) (drop p input) ≡ state_from (state_of (lent_in g₀)) input
  pub inside : p ≤ length input

pub going_none : (input : List ℕ) (g : LentBytes) (out : List ℕ) (at : ℕ) → Going input g g out at out 0 at
going_none input g out at = record { text = []; wrote = wrote_none_lem out at; lines = refl; state = refl; inside = omega arith }

pub going_on : {input : List ℕ} {g₀ g g' : LentBytes} {out₀ out out' : List ℕ} {at₀ p q at r : ℕ} → There input p → q ≡ passed input p
    → Turned input p g g' out at r out' → Going input g₀ g out₀ at₀ out p at → Going input g₀ g' out₀ at₀ out' q r
going_on {input} {g₀} {g} {g'} {p = p} {q = q} h e t w =
    let s : State = state_of (lent_in g) in
    let turn = text_turn.goes_on s (drop p input) t.asked (drop (passed input p) input) t.stands in
    let line : List ℕ = line_of s t.asked in
    let same : state_of (lent_in g') ≡ (call_of s t.asked).state = t.state in
    record {
      text = w.text ++ line;
      wrote = on w.wrote t.line;
      lines =
          append_assoc w.text line (lines_from (state_of (lent_in g')) (drop q input))
          ∙ ap₂ (λ (x : State) (n : ℕ). w.text ++ (line ++ lines_from x (drop n input))) same e
          ∙ ap (λ (l : List ℕ). w.text ++ l) (sym turn.0) ∙ w.lines;
      state = ap₂ (λ (x : State) (n : ℕ). state_from x (drop n input)) same e ∙ sym turn.1 ∙ w.state;
      inside = omega (arith, e, h.ends);
    }

pub going_end : {input : List ℕ} {g₀ g : LentBytes} {out₀ out out' : List ℕ} {at₀ p at r : ℕ} → starts_command (drop p input) ≡ false
    → Going input g₀ g out₀ at₀ out p at → Wrote out at (end_line (drop p input)) r out' → Ran input g₀ g out₀ at₀ r out'
going_end {input} {g₀} {g} {p = p} e w v =
    let last = ends_so (state_of (lent_in g)) (drop p input) e in
    record {
      lines = reads (ap (λ (l : List ℕ). w.text ++ l) (sym last.0) ∙ w.lines) (on w.wrote v);
      state = sym last.1 ∙ w.state;
    }
