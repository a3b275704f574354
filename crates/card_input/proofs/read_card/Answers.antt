use Rattle.std.proofs.Common.{ap, ◌∙◌, Ok, rules}
use Rattle.std.proofs.lemmas.Result.{IfOk-at_ok}
use Rattle.card_input.proofs.Parts.{read_more}
use Rattle.card_input.proofs.read_card.Goals as goal

pub loop-preserved : goal.loop-preserved
loop-preserved g c =
    let read = c.read_on.ensures in
    let some = c.in-Ok-Some.is ∙ ap Ok c.in-Ok-Some.field-0-is in
    record {
      within = search rules;
      consumed = read_more _ _ _ _ _ _ _ _ c.loop.invariant.within (search rules) (search rules) c.loop.invariant.consumed (IfOk-at_ok _ some read.consumed);
    }
