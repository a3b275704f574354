-- `fields::u32_at` meets its contract.
-- Assumes nothing.
use mathlib.Core.Path.{◌∙◌}
use native.Mathlib.Omega.{arith}
use Rattle.fields.proofs.Le.{read_4}
use Rattle.fields.proofs.u32_at.Goals as goal

pub returns : goal.returns
returns c = c.from_le_bytes.ensures ∙ read_4 c.args.s.now c.args.at (omega arith)
