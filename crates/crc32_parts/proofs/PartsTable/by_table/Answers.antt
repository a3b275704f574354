use Rattle.crc32.proofs.Parts.{run_split}
use Rattle.crc32_parts.proofs.PartsTable.by_table.Goals as goal

pub returns : goal.returns
returns c = rw c.by_turns.ensures (run_split _ _ _ _ _ _ c.split_at.ensures.front c.split_at.ensures.back c.by_turns-c.ensures)
