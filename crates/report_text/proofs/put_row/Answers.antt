-- `report_text::put_row` meets its contract.
-- Assumes nothing.
use Rattle.report_text.proofs.Pieces.{row_on}
use Rattle.report_text.proofs.put_row.Goals as goal

pub returns-clause-puts : goal.returns-clause-puts
returns-clause-puts c = row_on _ _ _ c.put_numbered.ensures.puts c.put_number_line.ensures.puts
