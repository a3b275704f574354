-- `report_text::put_counts` meets its contract.
-- Assumes nothing.
use Rattle.report_text.proofs.Pieces.{counts_on}
use Rattle.report_text.proofs.put_counts.Goals as goal

pub returns-clause-puts : goal.returns-clause-puts
returns-clause-puts c = counts_on _ c.put_number_line.ensures.puts c.put_table.ensures.puts c.put_others.ensures.puts
