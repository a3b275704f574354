-- `test_cards::list` is safe: what the library answers lies in the buffer.
-- Assumes nothing.
use mathlib.Core.Path.{sym}
use lib.Seq.{length-take-le}
use Rattle.readout_text.proofs.Short.{in_the_buffer}
use Rattle.test_cards.proofs.list.Goals as goal

pub slice_bounds-out-end : goal.slice_bounds-out-end
slice_bounds-out-end g c = in_the_buffer _ _ _ _ _ _ c.in-Some.is c.list_card.ensures

pub slice_bounds-write_all-end : goal.slice_bounds-write_all-end
slice_bounds-write_all-end g c = sym (length-take-le _ _ (in_the_buffer _ _ _ _ _ _ c.in-Some.is c.list_card.ensures))
