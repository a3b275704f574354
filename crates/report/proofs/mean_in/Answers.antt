-- `report::mean_in` meets its contract.
-- Assumes nothing.
use native.Mathlib.Omega.{arith}
use Rattle.report.specs.Feed.{sound_frames}
use Rattle.report.proofs.Refusing.{numbers_small}
use Rattle.report.proofs.mean_in.Goals as goal

pub overflow_add-frames : goal.overflow_add-frames
overflow_add-frames c =
    let small = numbers_small c.args.numbers.now (omega arith) c.requires in omega (arith, small 1, small 2, small 3, small 4, small 5, small 7)

pub overflow_add-frames-2 : goal.overflow_add-frames-2
overflow_add-frames-2 c =
    let small = numbers_small c.args.numbers.now (omega arith) c.requires in omega (arith, small 1, small 2, small 3, small 4, small 5, small 7)

pub overflow_add-frames-3 : goal.overflow_add-frames-3
overflow_add-frames-3 c =
    let small = numbers_small c.args.numbers.now (omega arith) c.requires in omega (arith, small 1, small 2, small 3, small 4, small 5, small 7)

pub returns : goal.returns
unfolding sound_frames
returns c = c.mean_of.ensures
