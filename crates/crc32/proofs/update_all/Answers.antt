-- `crc32::update_all` meets its contract.
-- Assumes nothing.
use Rattle.crc32.proofs.Entries.{byte_table_lem}
use Rattle.crc32.proofs.update_all.Goals as goal

pub new-requires : goal.new-requires
new-requires c = byte_table_lem _ c.byte_table-t.ensures
