-- `report_count::count` meets its contract.
-- Assumes nothing.
use mathlib.Core.Path.{refl, ◌∙◌}
use Rattle.frame.specs.declared.FrameType.TheVariants.{Full as full, First as first, Middle as middle, Last as last}
use Rattle.report_frames.specs.Tally.{row_of}
use Rattle.report_count.proofs.Cells.{counted-row}
use Rattle.report_count.proofs.count.Goals as goal

pub returns-in-Full : goal.returns-in-Full
unfolding row_of
returns-in-Full c = c.count_row.ensures ∙ counted-row _ _ _ _ full refl c.in-Full.is

pub returns-in-First : goal.returns-in-First
unfolding row_of
returns-in-First c = c.count_row-in-First.ensures ∙ counted-row _ _ _ _ first refl c.in-First.is

pub returns-in-Middle : goal.returns-in-Middle
unfolding row_of
returns-in-Middle c = c.count_row-in-Middle.ensures ∙ counted-row _ _ _ _ middle refl c.in-Middle.is

pub returns-in-Last : goal.returns-in-Last
unfolding row_of
returns-in-Last c = c.count_row-in-Last.ensures ∙ counted-row _ _ _ _ last refl c.in-Last.is
