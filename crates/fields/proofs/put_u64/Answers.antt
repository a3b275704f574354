-- `fields::put_u64` meets its contract.
-- Assumes nothing.
use mathlib.Core.Path.{◌∙◌}
use Rattle.slices.proofs.Put.{mid_put}
use Rattle.fields.proofs.Le.{bytes_8, length-le_bytes}
use Rattle.fields.proofs.put_u64.Goals as goal

pub returns : goal.returns
returns c = mid_put _ _ _ _ _ (c.copy_from_slice.ensures.after ∙ c.to_le_bytes.ensures ∙ bytes_8 _) (length-le_bytes 8 c.args.x)
