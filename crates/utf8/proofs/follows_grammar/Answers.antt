use mathlib.Core.Path.{◌≡◌, refl, sym, ap, ◌∙◌}
use mathlib.Core.Bool.{false}
use mathlib.Core.List.{List, []}
use Prim.Native.Nat.{ℕ, ◌+◌, ◌≤◌, ◌<◌}
use native.Mathlib.Omega.{arith}
use lib.ListN.{length, drop, get_or}
use lib.Dec.{eqb}
use Rattle.utf8.specs.declared.Wanted.{Wanted}
use Rattle.std.specs.Prelude.{Option, Some, None}
use Rattle.utf8.specs.Utf8.{following, after, after_all, whole, utf8}
use Rattle.utf8.specs.Wanted.{ranges, wanted, follow}
use Rattle.utf8.proofs.Follows.{refused, after_next, after_end, whole-wanted}
use Rattle.utf8.proofs.follows_grammar.Invariants.{Turn}
use Rattle.utf8.proofs.follows_grammar.Goals as goal

start : (s : List ℕ) (low high : ℕ) → Turn s (record { low = low; high = high; left = 0 }) 0
unfolding ranges
start s low high = record { inside = omega arith; rest = refl }

module _ {s : List ℕ} {w : Wanted} {i : ℕ} (t : Turn s w i) where
  module _ (n : Option Wanted) (l : i < length s) (e : follow n ≡ after (wanted w) (get_or s i 0)) where
    next : after_all (follow n) (drop (i + 1) s) ≡ after_all (following []) s
    next = rw e (sym (after_next (wanted w) i s l)) ∙ t.rest

    turn : {v : Wanted} → n ≡ Some v → Turn s v (i + 1)
    unfolding follow
    turn q = record { inside = omega arith; rest = rw q at next }

    stop : n ≡ None → false ≡ utf8 s
    unfolding follow utf8 whole
    stop q = ap whole (sym (refused (drop (i + 1) s)) ∙ (rw q at next))

  end : length s ≤ i → eqb w.left 0 ≡ utf8 s
  unfolding utf8
  end h = sym (whole-wanted w) ∙ ap whole (sym (after_end (wanted w) i s h) ∙ t.rest)

pub loop-b-init : goal.loop-b-init
loop-b-init c = start _ _ _

pub returns-in_default : goal.returns-in_default
returns-in_default c = stop c.loop-b.invariant c.step.result (omega arith) c.step.ensures c.in_default.is

pub loop-b-preserved : goal.loop-b-preserved
loop-b-preserved c = turn c.loop-b.invariant c.step.result (omega arith) c.step.ensures c.in-Some.is

pub returns : goal.returns
returns c = end c.loop-b.invariant (omega arith)
