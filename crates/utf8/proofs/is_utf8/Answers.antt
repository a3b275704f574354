use mathlib.Core.Path.{sym, ◌∙◌}
use Rattle.utf8.proofs.OneOctet.{front_left_out, octets_pass}
use Rattle.utf8.proofs.is_utf8.Goals as goal

pub loop-eight-preserved : goal.loop-eight-preserved
loop-eight-preserved c =
    let cut = c.in-Some.ensures.cases in
    front_left_out 8 _ _ _ cut.1 cut.2 (sym c.are_one_octet.ensures ∙ c.if-not-are_one_octet.false) ∙ c.loop-eight.invariant

pub returns-then-are_one_octet : goal.returns-then-are_one_octet
returns-then-are_one_octet c =
    c.if-are_one_octet.true ∙ sym (octets_pass _ (sym c.are_one_octet-2.ensures ∙ c.if-are_one_octet.true)) ∙ c.loop-eight.invariant
