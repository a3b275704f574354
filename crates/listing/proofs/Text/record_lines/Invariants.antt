-- `listing::Text::record_lines` meets its contract. Invariant: the lines of those of the entries so far that are of the queue are written.
-- Assumes nothing.
use Rattle.std.proofs.Common.{◌≡◌}
use Rattle.queues.specs.Passes.{passed_to}
use Rattle.listing.specs.Internal.{SameOut, Puts}
use Rattle.listing.specs.Passes.{lines_to}
use Rattle.listing.proofs.Text.record_lines.Given as goal

abbrev pub invariant-loop-e : goal.invariant-loop-e
invariant-loop-e l =
    record {
      same : SameOut l.initial.self l.self;
      passed : l.passed ≡ passed_to l.entries l.e-index;
      puts : Puts l.initial.self (lines_to l.queue l.entries l.payloads l.e-index) l.self;
    }
