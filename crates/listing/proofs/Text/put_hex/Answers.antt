-- `listing::Text::put_hex` meets its contract.
-- Assumes nothing.
use Rattle.std.proofs.Common.{sym, rules}
use Rattle.listing.proofs.Writes.{reads}
use Rattle.listing.proofs.Notation.{hex_none, hex_some}
use Rattle.listing.proofs.Text.put_hex.Goals as goal

pub returns-then-is_empty-clause-puts : goal.returns-then-is_empty-clause-puts
returns-then-is_empty-clause-puts c = reads (sym (hex_none _ (search rules))) c.put_byte.ensures.puts

pub returns-else-is_empty-clause-puts : goal.returns-else-is_empty-clause-puts
returns-else-is_empty-clause-puts c = reads (hex_some _ (search rules)) c.put_hex_run.ensures.puts
