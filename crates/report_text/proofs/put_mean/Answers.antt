-- `report_text::put_mean` meets its contract.
-- Assumes nothing.
use Rattle.report_text.proofs.Pieces.{mean_is, none_is, refused_is}
use Rattle.report_text.proofs.put_mean.Goals as goal

pub returns-in-Ok-Some-clause-puts : goal.returns-in-Ok-Some-clause-puts
returns-in-Ok-Some-clause-puts c = mean_is _ _ _ c.in-Ok-Some.is (rw c.in-Ok-Some.is at c.in-Ok-Some.field-0-is) c.put_parts.ensures.puts

pub returns-in-Ok-None-clause-puts : goal.returns-in-Ok-None-clause-puts
returns-in-Ok-None-clause-puts c = none_is _ _ c.in-Ok-None.is (rw c.in-Ok-None.is at c.in-Ok-None.field-0-is) c.put_bytes.ensures.puts

pub returns-in-Err-clause-puts : goal.returns-in-Err-clause-puts
returns-in-Err-clause-puts c = refused_is _ _ c.in-Err.is c.number.ensures c.put_number_line.ensures.puts
