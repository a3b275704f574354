use Rattle.crc32.proofs.Entries.{wide_table_lem}
use Rattle.crc32_parts.proofs.parts_table.Goals as goal

pub invariant_of-result : goal.invariant_of-result
invariant_of-result c = record { right = wide_table_lem _ c.parts.ensures }
