-- `mrecordlog::questions::mrecordlog_largest` meets its contract.
-- Assumes nothing.
use Rattle.mrecordlog.proofs.Leaving.{largest_exported}
use Rattle.mrecordlog.proofs.questions.mrecordlog_largest.Goals as goal

pub returns : goal.returns
returns c = largest_exported c.largest-answer.ensures c.tell_largest.ensures
