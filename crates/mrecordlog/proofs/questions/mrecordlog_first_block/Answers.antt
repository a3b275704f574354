-- `mrecordlog::questions::mrecordlog_first_block` meets its contract.
-- Assumes nothing.
use Rattle.mrecordlog.proofs.Leaving.{first_block_exported}
use Rattle.mrecordlog.proofs.questions.mrecordlog_first_block.Goals as goal

pub returns : goal.returns
returns c = first_block_exported c.first_block-answer.ensures c.tell_first_block.ensures
