-- `listing::Text::put_bytes` meets its contract. Invariant: the bytes so far are written.
-- Assumes nothing.
use Rattle.std.proofs.Common.{take}
use Rattle.listing.specs.Internal.{SameOut, Puts}
use Rattle.listing.proofs.Text.put_bytes.Given as goal

abbrev pub invariant-loop-b : goal.invariant-loop-b
invariant-loop-b l = SameOut l.initial.self l.self × Puts l.initial.self (take l.b-index l.bytes) l.self
