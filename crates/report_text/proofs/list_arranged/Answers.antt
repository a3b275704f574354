-- `report_text::list_arranged` meets its contract.
-- Assumes nothing.
use Rattle.std.proofs.Common.{rules, ◌∙◌}
use Rattle.report_text.proofs.Pieces.{arranged_on}
use Rattle.report_text.proofs.list_arranged.Goals as goal

pub returns : goal.returns
returns c =
    let w = arranged_on c.args.numbers.now c.args.mean c.listed.result c.put_counts.ensures.puts c.put_mean.ensures.puts c.listed.ensures in
    (w.0, search rules ∙ w.1)
