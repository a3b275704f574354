-- `drive_text::day::list_behind` meets its contract.
-- Assumes nothing.
use Rattle.std.proofs.Common.{◌≡◌, None, ◌∙◌, rules, arith}
use Rattle.readout_text.specs.Card.{card_text}
use Rattle.drive_text.proofs.Parts.{past, in_part, part_fits, on_some, on_none}
use Rattle.drive_text.proofs.day.list_behind.Goals as goal

pub returns-then-out-at : goal.returns-then-out-at
returns-then-out-at c = past _ _ _ c.if-out-at.true

pub returns-in_err-list_card : goal.returns-in_err-list_card
returns-in_err-list_card c =
    let e : c.from_residual.result ≡ None = search rules in
    in_part c.args.out.now c.args.at _ _ _ _ c.if-out-at.false c.list_card.ensures.0 (e ∙ on_none c.args.at _ c.in_err-list_card.was) c.list_card.ensures.1

pub overflow_add-result : goal.overflow_add-result
overflow_add-result c = omega (arith, part_fits c.args.out.now c.args.at (card_text c.args.log.now) _ _ c.if-out-at.false c.list_card.ensures.0 c.in_ok-list_card.was)

pub returns : goal.returns
returns c = in_part c.args.out.now c.args.at _ _ _ _ c.if-out-at.false c.list_card.ensures.0 (on_some c.args.at _ _ c.in_ok-list_card.was) c.list_card.ensures.1
