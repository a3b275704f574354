-- `crc32_fold::pulled` meets its contract: the sum over the lower exponents.
-- Assumes nothing.
use Rattle.crc32_fold.proofs.Folding.{lower-sum}
use Rattle.crc32_fold.proofs.pulled.Goals as goal

pub returns : goal.returns
returns c = lower-sum c.args.i c.args.u.now
