-- `listing::Text::row_line` meets its contract.
-- Assumes nothing.
use Rattle.listing.proofs.Steps.{row_on}
use Rattle.listing.proofs.Text.row_line.Goals as goal

pub returns-clause-puts : goal.returns-clause-puts
returns-clause-puts c = row_on _ _ _ _ _ _ _ _ c.name_length.ensures c.queue_start-first.ensures c.queue_next-next.ensures c.put_head.ensures.puts
