-- `listing::Text::end_lines` meets its contract.
-- Assumes nothing.
use Rattle.listing.proofs.Steps.{end_on}
use Rattle.listing.proofs.Text.end_lines.Goals as goal

pub returns-clause-lists : goal.returns-clause-lists
returns-clause-lists c = end_on _ _ _ _ _ c.put_number_line.ensures.puts c.fill_tenths.ensures c.put_fill.ensures.puts c.listed.ensures
