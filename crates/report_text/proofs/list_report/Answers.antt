-- `report_text::list_report` meets its contract.
-- Assumes nothing.
use mathlib.Core.Path.{sym, ◌∙◌}
use Rattle.report.proofs.Refusing.{arranged_some, arranged_none}
use Rattle.report_text.proofs.Pieces.{refused_text, whole_text}
use Rattle.report_text.proofs.list_report.Goals as goal

pub returns-in-Some : goal.returns-in-Some
returns-in-Some c =
    let a = arranged_some c.args.report.now c.in-Some.numbers (sym c.arranged_numbers.ensures ∙ c.in-Some.is) in
    whole_text c.args.out.now _ _ _ _ _ _ a c.mean.ensures c.clear.ensures c.list_arranged.ensures

pub returns-in-None : goal.returns-in-None
returns-in-None c =
    let a = arranged_none c.args.report.now (sym c.arranged_numbers.ensures ∙ c.in-None.is) in
    refused_text c.args.out.now _ _ _ _ a c.clear.ensures (rw c.number.ensures at c.refused.ensures)
