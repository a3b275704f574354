-- `listing::passes::list` meets its contract. Invariant: behind the line with how many queues there are, the lines of the first k queues are written.
-- Assumes nothing.
use Rattle.std.proofs.Common.{◌≡◌}
use Rattle.queues.specs.Passes.{names_to}
use Rattle.listing.specs.Internal.{SameOut, Puts}
use Rattle.listing.specs.Passes.{queues_to}
use Rattle.listing.proofs.passes.list.Given as goal

abbrev pub invariant-loop-k : goal.invariant-loop-k
invariant-loop-k l =
    record {
      same : SameOut l.initial.text l.text;
      passed : l.passed ≡ names_to l.memory.table.now l.k;
      puts : Puts l.initial.text (queues_to l.memory.names.now l.memory.payloads.now l.memory.entries.now l.memory.table.now l.sums.records l.k) l.text;
    }
