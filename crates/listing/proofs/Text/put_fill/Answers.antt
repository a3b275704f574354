-- `listing::Text::put_fill` meets its contract.
-- Assumes nothing.
use Rattle.listing.proofs.Parts.{fill_on}
use Rattle.listing.proofs.Text.put_fill.Goals as goal

pub returns-clause-puts : goal.returns-clause-puts
returns-clause-puts c = fill_on _ c.put_numbered.ensures.puts c.put_number_line.ensures.puts
