-- `cutdown::cut` is safe: what the library answers lies in the buffer.
-- Assumes nothing.
use mathlib.Core.Path.{sym}
use lib.Seq.{length-take-le}
use Rattle.cutdown_card.proofs.Refreshed.{cutdown_inside}
use Rattle.cutdown.proofs.cut.Goals as goal

pub slice_bounds-fresh-end : goal.slice_bounds-fresh-end
slice_bounds-fresh-end g c = cutdown_inside _ _ _ _ _ c.in-Ok.is c.cut_down.ensures

pub slice_bounds-write-end : goal.slice_bounds-write-end
slice_bounds-write-end g c = sym (length-take-le _ _ (cutdown_inside _ _ _ _ _ c.in-Ok.is c.cut_down.ensures))
