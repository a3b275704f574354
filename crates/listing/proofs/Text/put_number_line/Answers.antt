-- `listing::Text::put_number_line` meets its contract.
-- Assumes nothing.
use Rattle.listing.proofs.Parts.{line_on}
use Rattle.listing.proofs.Text.put_number_line.Goals as goal

pub returns-clause-puts : goal.returns-clause-puts
returns-clause-puts c = line_on _ _ c.put_numbered.ensures.puts c.put_byte.ensures.puts
