use mathlib.Core.Path.{refl, sym, ap, ◌∙◌}
use Prim.Native.Nat.{ℕ, ◌+◌}
use native.Mathlib.Omega.{arith}
use lib.ListN.{drop}
use Rattle.crc32.specs.Crc.{run, bits}
use Rattle.crc32.proofs.Parts.{run-next, run_none}
use Rattle.crc32_parts.proofs.PartsTable.by_ones.Goals as goal

pub loop-b-init : goal.loop-b-init
loop-b-init c = (omega arith, refl)

pub loop-b-preserved : goal.loop-b-preserved
loop-b-preserved c = (
  omega arith,
  ap (λ (r : ℕ). run r (bits (drop (c.loop-b.b-index + 1) c.args.«data».now))) c.next-c.ensures
      ∙ run-next c.loop-b.c c.loop-b.b-index c.args.«data».now (omega arith) ∙ c.loop-b.invariant.1,
)

pub returns : goal.returns
returns c = sym (run_none c.loop-b.c c.loop-b.b-index _ (omega arith)) ∙ c.loop-b.invariant.1
