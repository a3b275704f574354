use Rattle.std.proofs.Common.{ℕ, rules}
use lib.ListN.{length-replicate}
use Rattle.slices.proofs.Put.{mid_put}
use Rattle.slices.proofs.zero_at.Goals as goal

pub returns : goal.returns
returns c = mid_put _ _ _ _ _ (search rules) (length-replicate {A = ℕ} c.args.n 0)
