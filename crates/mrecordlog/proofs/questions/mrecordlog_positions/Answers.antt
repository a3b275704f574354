-- `mrecordlog::questions::mrecordlog_positions` meets its contract.
-- Assumes nothing.
use Rattle.mrecordlog.proofs.Leaving.{positions_exported}
use Rattle.mrecordlog.proofs.questions.mrecordlog_positions.Goals as goal

pub returns : goal.returns
returns c = positions_exported c.positions-answer.ensures c.tell_positions.ensures
