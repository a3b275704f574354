-- `cutdown::tell` is safe: the text lies in the buffer.
-- Assumes nothing.
use mathlib.Core.Path.{sym}
use lib.Seq.{length-take-le}
use Rattle.readout_text.proofs.Short.{in_the_buffer}
use Rattle.cutdown.proofs.tell.Goals as goal

pub slice_bounds-line-end : goal.slice_bounds-line-end
slice_bounds-line-end g c = in_the_buffer _ _ _ _ _ _ c.in-Some.is c.refused.ensures

pub slice_bounds-write_all-end : goal.slice_bounds-write_all-end
slice_bounds-write_all-end g c = sym (length-take-le _ _ (in_the_buffer _ _ _ _ _ _ c.in-Some.is c.refused.ensures))
