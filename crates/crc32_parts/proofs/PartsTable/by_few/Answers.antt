use mathlib.Core.Path.{ap, ◌∙◌}
use mathlib.Core.List.{List}
use Prim.Native.Nat.{ℕ}
use Rattle.std.proofs.lemmas.List.{append-nil}
use Rattle.crc32.specs.Crc.{run, bits}
use Rattle.crc32.proofs.Parts.{run_split}
use Rattle.crc32_parts.proofs.PartsTable.by_few.Goals as goal

pub returns : goal.returns
returns c =
    let cut = c.in-Some.ensures.cases in
    c.by_ones-2.ensures
    ∙ run_split _ 4 _ _ _ _ cut.1 cut.2
    (c.bytes_share-c.ensures ∙ ap (λ (l : List ℕ). run c.args.crc (bits l)) (append-nil c.in-Some.s.now))
