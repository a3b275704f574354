-- `utf8::are_one_octet` meets its contract. The loop's invariant: with the bytes that are left it comes to what it does for all of them.
-- Assumes nothing.
use mathlib.Core.Path.{◌≡◌}
use mathlib.Core.Bool.{◌&&◌}
use Prim.Native.Nat.{◌≤◌}
use lib.ListN.{length, drop}
use Rattle.utf8.specs.Wanted.{are_one_octet}
use Rattle.utf8.proofs.are_one_octet.Given as goal

abbrev pub invariant-loop-b : goal.invariant-loop-b
invariant-loop-b l = (l.b-index ≤ length l.s) × (l.all && are_one_octet (drop l.b-index l.s) ≡ are_one_octet l.s)
