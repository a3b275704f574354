-- `report_text::put_parts` meets its contract.
-- Assumes nothing.
use Rattle.report_text.proofs.Pieces.{parts_on}
use Rattle.report_text.proofs.put_parts.Goals as goal

pub returns-clause-puts : goal.returns-clause-puts
returns-clause-puts c = parts_on _ _ _ c.put_numbered.ensures.puts c.put_numbered-2.ensures.puts c.put_number_line.ensures.puts
