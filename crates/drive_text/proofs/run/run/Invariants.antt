-- `drive_text::run::run` meets its contract.
-- Assumes nothing.
use Rattle.std.proofs.Common.{◌-◌, length}
use Rattle.lent.specs.Memory.{SameLog, SameMemory}
use Rattle.abi_call.specs.OnBytes.{bytes_lent}
use Rattle.listing.specs.Internal.{SameOut}
use Rattle.drive_text.proofs.Turning.{Going}
use Rattle.drive_text.proofs.run.run.Given as goal

abbrev pub invariant-loop-command : goal.invariant-loop-command
invariant-loop-command l =
    record {
      same : SameOut l.initial.text l.text;
      same_log : SameLog l.initial.writer l.writer;
      same_memory : SameMemory l.initial.memory l.memory;
      going :
          Going l.input (bytes_lent l.initial.writer l.initial.memory) (bytes_lent l.writer l.memory) l.initial.text.out.now l.initial.text.at l.text.out.now l.p l.text.at;
    }

abbrev pub decreases-loop-command : goal.decreases-loop-command
decreases-loop-command l = length l.input - l.p
