-- `cutdown_card::parts::written` meets its contract.
-- Assumes nothing.
use mathlib.Core.Path.{sym, ap}
use Prim.Native.Nat.{ℕ}
use Rattle.std.specs.Prelude.{Result}
use Rattle.std.proofs.lemmas.Result.{err_from_is_err_and}
use Rattle.calls.specs.declared.Refusal.{Refusal}
use Rattle.cutdown_card.specs.Kept.{copied_as}
use Rattle.cutdown_card.proofs.parts.written.Goals as goal

pub returns-in_err-copied : goal.returns-in_err-copied
unfolding copied_as
returns-in_err-copied c =
    let p = err_from_is_err_and c.from_residual.result c.from_residual.ensures.1 in
    rw (p.1, p.2) (sym (ap (λ (a : Result ℕ Refusal). copied_as a c.args.len) c.in_err-copied.was))

pub returns : goal.returns
unfolding copied_as
returns c = sym (ap (λ (a : Result ℕ Refusal). copied_as a c.args.len) c.in_ok-copied.was)
