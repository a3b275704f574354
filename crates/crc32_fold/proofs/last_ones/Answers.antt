-- `crc32_fold::last_ones` meets its contract: each register goes on from the one before it.
-- Assumes nothing.
use Rattle.crc32_fold.proofs.Folding.{last_sum}
use Rattle.crc32_fold.proofs.last_ones.Goals as goal

pub returns : goal.returns
returns c =
    last_sum c.args.w.now c.by_table-a.result c.by_table-b.result c.by_table-c.result c.by_table-d.result
    c.by_table-a.ensures c.by_table-b.ensures c.by_table-c.ensures c.by_table-d.ensures
