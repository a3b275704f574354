-- `mrecordlog::questions::mrecordlog_range` meets its contract.
-- Assumes nothing.
use Rattle.mrecordlog.proofs.Leaving.{range_exported}
use Rattle.mrecordlog.proofs.questions.mrecordlog_range.Goals as goal

pub returns : goal.returns
returns c = range_exported c.bound-lo.ensures c.bound-hi.ensures c.range-answer.ensures c.tell_range.ensures
