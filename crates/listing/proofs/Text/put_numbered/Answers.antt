-- `listing::Text::put_numbered` meets its contract.
-- Assumes nothing.
use Rattle.listing.proofs.Parts.{numbered_on}
use Rattle.listing.proofs.Text.put_numbered.Goals as goal

pub returns-clause-puts : goal.returns-clause-puts
returns-clause-puts c = numbered_on _ _ c.put_bytes.ensures.puts c.put_decimal.ensures.puts
