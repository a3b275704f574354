-- `cutdown_card::card::cut_sized` meets its contract: the arrays that it lends are as long as `readout`'s.
-- Assumes nothing.
use Prim.Native.Nat.{ℕ}
use lib.ListN.{replicate, length-replicate}
use Rattle.cutdown_card.proofs.Sizes.{sized_left}
use Rattle.cutdown_card.proofs.card.cut_sized.Goals as goal

pub returns : goal.returns
returns c =
    sized_left _ (replicate 65536 0) (replicate 32768 0) (replicate 32768 0) (replicate 32768 0) (replicate 8192 0) (replicate 1568 0) _ _ _ (length-replicate {A = ℕ} 65536 0) (length-replicate {A = ℕ} 32768 0) (length-replicate {A = ℕ} 32768 0) (length-replicate {A = ℕ} 32768 0)
    (length-replicate {A = ℕ} 8192 0) (length-replicate {A = ℕ} 1568 0) c.cut_into.ensures.kept
