-- `report_count::count_others` meets its contract.
-- Assumes nothing.
use native.Mathlib.Omega.{arith}
use Rattle.report_count.proofs.Turns.{data_right}
use Rattle.report_count.proofs.count_others.Goals as goal

pub overflow_add-result : goal.overflow_add-result
overflow_add-result c = omega (arith, c.requires.bytes, data_right _ _ _ c.in-Right.is)
