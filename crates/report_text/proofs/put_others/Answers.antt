-- `report_text::put_others` meets its contract.
-- Assumes nothing.
use Rattle.report_text.proofs.Pieces.{others_on}
use Rattle.report_text.proofs.put_others.Goals as goal

pub returns-clause-puts : goal.returns-clause-puts
returns-clause-puts c = others_on _ c.put_number_line.ensures.puts c.put_number_line-2.ensures.puts c.put_number_line-3.ensures.puts
