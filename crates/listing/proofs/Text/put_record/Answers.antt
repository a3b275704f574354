-- `listing::Text::put_record` meets its contract.
-- Assumes nothing.
use Rattle.listing.proofs.Parts.{record_on}
use Rattle.listing.proofs.Text.put_record.Goals as goal

pub returns-clause-puts : goal.returns-clause-puts
returns-clause-puts c = record_on _ _ c.put_numbered.ensures.puts c.put_byte.ensures.puts c.put_hex.ensures.puts c.put_byte-2.ensures.puts
