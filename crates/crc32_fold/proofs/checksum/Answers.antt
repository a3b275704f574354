-- `crc32_fold::checksum` meets its contract, whichever way it goes.
-- Assumes nothing.
use Rattle.crc32.proofs.Parts.{frame_sum_lem}
use Rattle.crc32_fold.proofs.checksum.Goals as goal

pub returns-then-data-lt832 : goal.returns-then-data-lt832
returns-then-data-lt832 c =
    frame_sum_lem _ c.args.«data».now c.next-c.result c.by_table.result c.next-c.ensures c.by_table.ensures

pub returns-else-data-lt832 : goal.returns-else-data-lt832
returns-else-data-lt832 c =
    frame_sum_lem _ c.args.«data».now c.next-c.result c.by_folds.result c.next-c.ensures c.by_folds.ensures
