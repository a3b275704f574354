-- `drive_text::day::drive` meets its contract.
-- Assumes nothing.
use native.Mathlib.Omega.{arith}
use Rattle.drive_text.proofs.Parts.{printed, refused_so, zeroed}
use Rattle.drive_text.proofs.day.drive.Goals as goal

pub returns-then-input-gt-MAX_INPUT_LEN : goal.returns-then-input-gt-MAX_INPUT_LEN
returns-then-input-gt-MAX_INPUT_LEN c = refused_so c.args.input.now c.args.out.now c.args.log.now c.if-input-gt-MAX_INPUT_LEN.true c.clear.ensures (rw c.number.ensures at c.refused.ensures)

pub drive_zeroed-at-requires : goal.drive_zeroed-at-requires
drive_zeroed-at-requires c = zeroed c.args.log.now _ c.told-log c.clear-2.ensures

pub returns : goal.returns
returns c = printed c.args.input.now c.args.out.now c.args.log.now (λ i. omega (arith, c.type_inv.input i)) c.if-input-gt-MAX_INPUT_LEN.false c.clear.ensures c.drive_zeroed-at.ensures c.list_behind.ensures
