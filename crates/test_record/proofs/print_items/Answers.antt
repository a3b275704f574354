use Rattle.std.proofs.Common.{sym, ap, ◌∙◌}
use Rattle.std.specs.Prelude.{Ok}
use Rattle.record.proofs.Walks.{next_less}
use Rattle.test_record.proofs.print_items.Goals as goal

pub loop-item-smaller : goal.loop-item-smaller
loop-item-smaller g c =
    next_less _ _ _ _ _ _ (sym c.next_item.ensures ∙ c.in-Ok-Some.is ∙ ap Ok c.in-Ok-Some.field-0-is)
