-- The entry at the place of the low byte in part k.
-- Assumes nothing.
use native.Mathlib.Omega.{arith}
use Rattle.crc32.proofs.Entries.{fewer}
use Rattle.crc32.proofs.Wide.{share_entry}
use Rattle.crc32_parts.proofs.PartsTable.byte_share.Goals as goal

pub returns : goal.returns
returns c =
    share_entry c.args.self.entries.now c.args.k c.args.crc c.args.b (fewer _ 4096 _ (omega arith) c.args.self.right)
