-- `report_text::list_refused` meets its contract.
-- Assumes nothing.
use Rattle.std.proofs.Common.{rules, ◌∙◌}
use Rattle.report_text.proofs.Pieces.{line_on}
use Rattle.report_text.proofs.list_refused.Goals as goal

pub returns : goal.returns
returns c =
    let w = line_on c.args.number c.args.name.now c.listed.result c.put_numbered.ensures.puts c.put_byte.ensures.puts c.put_bytes.ensures.puts c.put_byte-2.ensures.puts c.listed.ensures in
    (w.0, search rules ∙ w.1)
