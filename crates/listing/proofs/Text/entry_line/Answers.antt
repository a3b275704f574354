-- `listing::Text::entry_line` meets its contract.
-- Assumes nothing.
use Rattle.listing.proofs.Steps.{entry_on, entry_off}
use Rattle.listing.proofs.Text.entry_line.Goals as goal

pub returns-then-e-queue-clause-puts : goal.returns-then-e-queue-clause-puts
returns-then-e-queue-clause-puts c = entry_on _ _ _ _ c.if-e-queue.true c.put_record.ensures.puts

pub returns-else-e-queue-clause-puts : goal.returns-else-e-queue-clause-puts
returns-else-e-queue-clause-puts c = entry_off _ _ c.args.payloads.now _ _ c.args.passed c.if-e-queue.false
