-- `test_drive::show` is safe: what the library answers lies in the buffer.
-- Assumes nothing.
use mathlib.Core.Path.{sym}
use lib.Seq.{length-take-le}
use Rattle.readout_text.proofs.Short.{in_the_buffer}
use Rattle.test_drive.proofs.show.Goals as goal

pub slice_bounds-out-end : goal.slice_bounds-out-end
slice_bounds-out-end g c = in_the_buffer _ _ _ _ _ _ c.in-Some.is (c.drive.ensures.0, c.drive.ensures.1.0)

pub slice_bounds-print-end : goal.slice_bounds-print-end
slice_bounds-print-end g c = sym (length-take-le _ _ (in_the_buffer _ _ _ _ _ _ c.in-Some.is (c.drive.ensures.0, c.drive.ensures.1.0)))
