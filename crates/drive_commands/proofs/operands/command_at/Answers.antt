-- `drive_commands::operands::command_at` meets its contract.
-- Assumes nothing.
use Rattle.std.proofs.Common.{◌≡◌, ◌<◌, ◌-◌, ℕ, false, length, ap, subst, ◌∙◌, rules}
use Rattle.std.specs.Prelude.{is_some, leb}
use Rattle.drive_commands.specs.Commands.{width}
use Rattle.drive_commands.proofs.Widths.{none_there, some_there, unknown, known, wide}
use Rattle.drive_commands.proofs.operands.command_at.Goals as goal

pub returns-then-input-p-clause-there : goal.returns-then-input-p-clause-there
returns-then-input-p-clause-there c = none_there _ _ c.if-input-p.true

pub returns-in_err-command-clause-there : goal.returns-in_err-command-clause-there
returns-in_err-command-clause-there c =
    let e : is_some c.from_residual.result ≡ false = search rules in
    e ∙ some_there c.args.input.now c.args.p false c.if-input-p.false (unknown _ _ c.in_err-command.ensures.unknown)

pub returns-clause-there : goal.returns-clause-there
returns-clause-there c =
    let k = c.in_ok-command.command in
    let e : is_some c.then_some.result ≡ leb c.width.result (length c.args.input.now - c.args.p - 1) = search rules in
    e ∙ some_there c.args.input.now c.args.p _ c.if-input-p.false
    (known _ _ _ (subst (λ (b : ℕ). 0 < width b) c.in_ok-command.ensures.known (wide k)) (c.width.ensures ∙ ap width c.in_ok-command.ensures.known))
