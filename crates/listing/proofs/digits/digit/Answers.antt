-- `listing::digits::digit` meets its contract.
-- Assumes nothing.
use Rattle.std.proofs.Common.{arith}
use Rattle.listing.proofs.Notation.{digit_low, digit_high}
use Rattle.listing.proofs.digits.digit.Goals as goal

pub returns-then-d-lt10 : goal.returns-then-d-lt10
returns-then-d-lt10 c = digit_low _ _ (omega arith) (omega arith)

pub returns-else-d-lt10 : goal.returns-else-d-lt10
returns-else-d-lt10 c = digit_high _ _ (omega arith) (omega arith)
