-- `listing::Text::put_head` meets its contract.
-- Assumes nothing.
use Rattle.listing.proofs.Parts.{head_on}
use Rattle.listing.proofs.Text.put_head.Goals as goal

pub returns-clause-puts : goal.returns-clause-puts
returns-clause-puts c = head_on _ _ _ _ c.put_bytes.ensures.puts c.put_hex.ensures.puts c.put_numbered.ensures.puts c.put_numbered-2.ensures.puts c.put_number_line.ensures.puts
