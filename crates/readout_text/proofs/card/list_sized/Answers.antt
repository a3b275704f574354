-- `readout_text::card::list_sized` meets its contract: the arrays that it lends are as long as 01 says.
-- Assumes nothing.
use Prim.Native.Nat.{ℕ}
use native.Mathlib.Omega.{arith}
use lib.ListN.{length-replicate}
use Rattle.queues.specs.declared.RecordEntry.{RecordEntry}
use Rattle.readout_text.proofs.Sizes.{log_sized, sized_left}
use Rattle.readout_text.proofs.card.list_sized.Goals as goal

pub list_replayed-requires : goal.list_replayed-requires
list_replayed-requires c =
    (log_sized _ c.requires.0 c.requires.1.0, omega (arith, length-replicate {A = ℕ} 1024 0, length-replicate {A = RecordEntry} 1024 c.blank-entries.result))

pub returns : goal.returns
returns c =
    sized_left _ _ _ _ _ _ _ _ _ _ (length-replicate {A = ℕ} 65536 0) (length-replicate {A = ℕ} 32768 0) (length-replicate {A = ℕ} 32768 0) (length-replicate {A = RecordEntry} 1024 c.blank-entries.result)
    (length-replicate {A = ℕ} 196 0) c.requires.1.1 c.list_replayed.ensures.kept
