-- `crc32_parts::PartsTable::several` meets its contract: the first four bytes through the others, and those by themselves.
-- Assumes nothing.
use mathlib.Core.Path.{ap, ap₂, ◌∙◌}
use mathlib.Core.List.{List}
use Prim.Native.Nat.{ℕ, ◌+◌, ◌-◌}
use native.Mathlib.Omega.{arith}
use lib.Bits.{bit_xor}
use lib.ListN.{length}
use lib.Seq.{take_all}
use Rattle.crc32.specs.Crc.{run, bits}
use Rattle.crc32.proofs.Wide.{parts_share}
use Rattle.crc32_parts.proofs.PartsTable.several.Goals as goal

pub returns : goal.returns
returns c =
    let xs : List ℕ = c.args.s.now in
    ap₂ bit_xor c.bytes_share.ensures c.bytes_share-last.ensures
    ∙ parts_share c.args.crc 4 (length xs - 4) xs (omega arith)
    ∙ ap (λ (l : List ℕ). run c.args.crc (bits l)) (take_all (4 + (length xs - 4)) xs (omega arith))
