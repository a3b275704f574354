-- `fields::u16_at` meets its contract.
-- Assumes nothing.
use mathlib.Core.Path.{◌∙◌}
use native.Mathlib.Omega.{arith}
use Rattle.fields.proofs.Le.{read_2}
use Rattle.fields.proofs.u16_at.Goals as goal

pub returns : goal.returns
returns c = c.from_le_bytes.ensures ∙ read_2 c.args.s.now c.args.at (omega arith)
