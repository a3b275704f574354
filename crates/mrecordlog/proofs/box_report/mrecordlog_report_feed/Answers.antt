-- `mrecordlog::box_report::mrecordlog_report_feed` meets its contract.
-- Assumes nothing.
use mathlib.Core.Path.{ap, ◌∙◌}
use Rattle.report.specs.Feed.{feed_number}
use Rattle.mrecordlog.proofs.box_report.mrecordlog_report_feed.Goals as goal

pub returns : goal.returns
returns c = (c.number.ensures ∙ ap feed_number c.feed.ensures.0, c.feed.ensures.1)
