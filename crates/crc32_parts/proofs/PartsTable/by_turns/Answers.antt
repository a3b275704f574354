use mathlib.Core.Path.{◌∙◌}
use Rattle.crc32.proofs.Parts.{run_split}
use Rattle.crc32_parts.proofs.PartsTable.by_turns.Goals as goal

pub loop-s-preserved : goal.loop-s-preserved
loop-s-preserved c =
    let cut = c.in-Some.ensures.cases in
    run_split _ _ _ _ _ _ cut.1 cut.2 c.several-c.ensures ∙ c.loop-s.invariant
