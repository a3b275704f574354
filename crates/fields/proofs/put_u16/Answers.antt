-- `fields::put_u16` meets its contract.
-- Assumes nothing.
use mathlib.Core.Path.{◌∙◌}
use Rattle.slices.proofs.Put.{mid_put}
use Rattle.fields.proofs.Le.{bytes_2, length-le_bytes}
use Rattle.fields.proofs.put_u16.Goals as goal

pub returns : goal.returns
returns c = mid_put _ _ _ _ _ (c.copy_from_slice.ensures.after ∙ c.to_le_bytes.ensures ∙ bytes_2 _) (length-le_bytes 2 c.args.x)
