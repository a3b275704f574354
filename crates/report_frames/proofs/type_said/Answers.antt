-- `report_frames::type_said` meets its contract.
-- Assumes nothing.
use native.Mathlib.Omega.{arith}
use Rattle.report_frames.proofs.Places.{place_low, said_there, said_past}
use Rattle.report_frames.proofs.type_said.Goals as goal

pub overflow_add-at : goal.overflow_add-at
overflow_add-at c = omega (arith, c.header_place-at.ensures, place_low c.args.reader c.requires.within)

pub returns-in_err-kind : goal.returns-in_err-kind
returns-in_err-kind c = said_past _ _ _ _ c.header_place-at.ensures c.in_err-kind.ensures.lookup.3 c.from_residual.ensures

pub returns : goal.returns
returns c = said_there _ _ _ _ _ c.header_place-at.ensures (c.in_ok-kind.ensures.lookup.3.1 0) c.from_u8.ensures
