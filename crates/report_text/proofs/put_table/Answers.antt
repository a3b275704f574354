-- `report_text::put_table` meets its contract.
-- Assumes nothing.
use Rattle.report_text.proofs.Pieces.{table_on}
use Rattle.report_text.proofs.put_table.Goals as goal

pub returns-clause-puts : goal.returns-clause-puts
returns-clause-puts c = table_on _ c.put_row.ensures.puts c.put_row-2.ensures.puts c.put_row-3.ensures.puts c.put_row-4.ensures.puts
