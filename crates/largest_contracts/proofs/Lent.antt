-- The balance over the lent memory itself.
-- Assumes nothing.
use mathlib.Core.Path.{ap}
use native.Mathlib.Omega.{arith}
use Rattle.queues.specs.Queues.{payload_bytes}
use Rattle.contracts.specs.Promises.{state_of}
use Rattle.contracts.proofs.Runs.{run_means, machine_agrees}
use Rattle.largest_contracts.specs.Promises.{LentBalance}
use Rattle.largest_contracts.proofs.Balance.{payloads_balance}

pub lent_balance : LentBalance
lent_balance h l r = omega (arith, payloads_balance h (state_of l) (run_means h l r), ap payload_bytes (machine_agrees h l r).queues)
