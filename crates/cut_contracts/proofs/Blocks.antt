-- Within a queue the blocks of the held records never fall, over the lent memory: from what is proved over its meaning.
-- Assumes nothing.
use mathlib.Core.Path.{subst}
use lib.ListN.{length}
use Rattle.queues.specs.Layout.{capacities}
use Rattle.calls.specs.State.{State}
use Rattle.contracts.specs.Promises.{state_of}
use Rattle.contracts.proofs.Runs.{run_means}
use Rattle.cut_calls.specs.Claims.{StatesSince}
use Rattle.cut_calls.proofs.Blocks.{states_blocks_rise, states_blocks_rise_run}
use Rattle.cut_contracts.specs.Blocks.{BlocksRise, BlocksRiseRun}
use Rattle.cut_contracts.proofs.PowerCut.{since_means, found, opened_means}

pub blocks_rise : BlocksRise
unfolding state_of
blocks_rise log scratch m ks l₀ o h l since =
    let x = found log scratch m ks l₀ o in
    states_blocks_rise log (capacities m) x.0 (length scratch) x.1 h (state_of l)
    (subst (λ (s : State). StatesSince s h (state_of l)) (opened_means log scratch m ks l₀ o) (since_means l₀ since))

pub blocks_rise_run : BlocksRiseRun
unfolding state_of
blocks_rise_run h l run = states_blocks_rise_run h (state_of l) (run_means h l run)
