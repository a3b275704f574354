-- `cutdown_card::parts::cut_into` meets its contract.
-- Assumes nothing.
use Rattle.std.proofs.Common.{rules}
use Rattle.std.proofs.lemmas.Result.{err_from_is_err_and}
use Rattle.cutdown_card.proofs.Into.{into_refused, copied_as_lem, kept_held}
use Rattle.cutdown_card.proofs.parts.cut_into.Goals as goal

pub returns-clause-kept : goal.returns-clause-kept
returns-clause-kept c =
    let a = c.args in
    copied_as_lem _ _ _ _ _ _ _ _ c.replay.ensures.kept.kept a.target.now _ c.in_ok-replay.was _ _ _ (kept_held c.held.ensures.names c.held.ensures.payloads c.held.ensures.entries c.held.ensures.largest c.held.ensures.table c.copy.ensures)
    (search rules) c.written.ensures

pub returns-in_err-replay-clause-kept : goal.returns-in_err-replay-clause-kept
returns-in_err-replay-clause-kept c =
    let a = c.args in
    let p = err_from_is_err_and c.from_residual.result c.from_residual.ensures.1 in
    rw (p.1, p.2) (into_refused _ _ _ _ _ _ _ _ c.replay.ensures.kept.kept a.target.now _ c.in_err-replay.was)
