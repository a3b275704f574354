-- `utf8::follows_grammar` meets its contract. The loop's invariant: what the state wants, with the bytes to come, ends as the whole does.
-- Assumes nothing.
use mathlib.Core.Path.{◌≡◌}
use mathlib.Core.List.{List, []}
use Prim.Native.Nat.{ℕ, ◌≤◌}
use lib.ListN.{length, drop}
use Rattle.utf8.specs.declared.Wanted.{Wanted}
use Rattle.utf8.specs.Utf8.{following, after_all}
use Rattle.utf8.specs.Wanted.{wanted}
use Rattle.utf8.proofs.follows_grammar.Given as goal

pub record Turn (s : List ℕ) (w : Wanted) (i : ℕ) : Type 0 where
  pub inside : i ≤ length s
  pub rest : after_all (wanted w) (drop i s) ≡ after_all (following []) s

abbrev pub invariant-loop-b : goal.invariant-loop-b
invariant-loop-b l = Turn l.s l.w l.b-index
