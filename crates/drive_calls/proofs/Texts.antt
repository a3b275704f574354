-- The lines and the state from a state on, for a loop over the bytes that are left: no history, no number of turns.
-- Assumes nothing.
use mathlib.Core.Path.{◌≡◌, refl, ap, ◌∙◌}
use mathlib.Core.List.{List, [], ◌∷◌, ◌++◌, append-nil}
use Prim.Native.Nat.{ℕ, zero, suc}
use lib.ListN.{length}
use Rattle.calls.specs.State.{State, Call}
use Rattle.calls.specs.Calls.{call_of}
use Rattle.calls.specs.Machine.{Fed}
use Rattle.listing.specs.Listing.{refusal}
use Rattle.drive_commands.specs.Commands.{Parsed, none_left, bad, command, command_at}
use Rattle.drive_calls.specs.Driven.{Driven, line_of, fed, also_line, driven_on, driven_in, driven_from, joined}
use Rattle.drive_calls.specs.Internal.{lines_from, state_from, TextTurn}
use Rattle.drive_calls.proofs.Turns.{drive_turn}

-- what is left of a run but for its history
pub record SameBut (d e : Driven) : Type 0 where
  pub lines : d.lines ≡ e.lines
  pub state : d.state ≡ e.state

on_same : (p : Parsed) (h h' : List Fed) (s : State) (go : List Fed → State → List ℕ → Driven)
    → ((g g' : List Fed) (s' : State) (rest : List ℕ) → SameBut (go g s' rest) (go g' s' rest))
    → SameBut (driven_on p h s go) (driven_on p h' s go)
unfolding driven_on also_line
on_same none_left h h' s go w = record { lines = refl; state = refl }
on_same bad h h' s go w = record { lines = refl; state = refl }
on_same (command k rest) h h' s go w =
    let v = w (fed s k ∷ h) (fed s k ∷ h') (call_of s k).state rest in
    record { lines = ap (λ (ls : List (List ℕ)). line_of s k ∷ ls) v.lines; state = v.state }

in_same : (i : ℕ) (h h' : List Fed) (s : State) (input : List ℕ) → SameBut (driven_in i h s input) (driven_in i h' s input)
unfolding driven_in
in_same zero h h' s input = record { lines = refl; state = refl }
in_same (suc i) h h' s input = on_same (command_at input) h h' s (driven_in i) (λ g g' s' rest. in_same i g g' s' rest)

module _ (s : State) (input : List ℕ) where
  ends_so : command_at input ≡ none_left → (lines_from s input ≡ []) × (state_from s input ≡ s)
  unfolding driven_from joined
  ends_so e =
      (ap (λ (d : Driven). joined d.lines) (drive_turn.ends [] s input e), ap (λ (d : Driven). d.state) (drive_turn.ends [] s input e))

  stops_so : command_at input ≡ bad → (lines_from s input ≡ refusal 16) × (state_from s input ≡ s)
  unfolding driven_from joined
  stops_so e = (
    ap (λ (d : Driven). joined d.lines) (drive_turn.stops [] s input e) ∙ append-nil (refusal 16),
    ap (λ (d : Driven). d.state) (drive_turn.stops [] s input e),
  )

  goes_so : (k : Call) (rest : List ℕ) → command_at input ≡ command k rest
      → (lines_from s input ≡ line_of s k ++ lines_from (call_of s k).state rest) × (state_from s input ≡ state_from (call_of s k).state rest)
  unfolding driven_from joined also_line
  goes_so k rest e =
      let v = in_same (length rest) (fed s k ∷ []) [] (call_of s k).state rest in
      let t = drive_turn.goes_on [] s input k rest e in
      (ap (λ (d : Driven). joined d.lines) t ∙ ap (λ (ls : List (List ℕ)). line_of s k ++ joined ls) v.lines, ap (λ (d : Driven). d.state) t ∙ v.state)

pub text_turn : TextTurn
text_turn = record { ends = λ s input e. ends_so s input e; stops = λ s input e. stops_so s input e; goes_on = λ s input k rest e. goes_so s input k rest e }
