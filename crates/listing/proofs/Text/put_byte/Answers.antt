-- `listing::Text::put_byte` meets its contract.
-- Assumes nothing.
use Rattle.std.proofs.Common.{refl, arith}
use Rattle.listing.proofs.Writes.{byte_in, byte_out}
use Rattle.listing.proofs.Text.put_byte.Goals as goal

pub returns-then-self-clause-puts : goal.returns-then-self-clause-puts
returns-then-self-clause-puts c = byte_in _ _ _ _ (omega arith) refl

pub returns-else-self-clause-puts : goal.returns-else-self-clause-puts
returns-else-self-clause-puts c = byte_out _ _ _ _ (omega arith) refl
