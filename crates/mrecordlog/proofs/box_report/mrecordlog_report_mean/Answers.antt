-- `mrecordlog::box_report::mrecordlog_report_mean` meets its contract.
-- Assumes nothing.
use mathlib.Core.Path.{ap, ◌∙◌}
use Rattle.mrecordlog.specs.Reported.{tell_mean}
use Rattle.mrecordlog.proofs.box_report.mrecordlog_report_mean.Goals as goal

pub returns : goal.returns
returns c = c.tell_mean.ensures ∙ ap tell_mean c.mean-answer.ensures
