-- `drive_commands::operands::name_len` meets its contract.
-- Assumes nothing.
use Rattle.std.proofs.Common.{refl, arith}
use Rattle.drive_commands.proofs.Names.{cut_start, cut_on, cut_all, cut_none}
use Rattle.drive_commands.proofs.operands.name_len.Goals as goal

pub loop-last-init : goal.loop-last-init
loop-last-init c = cut_start c.args.operands.now _ c.requires refl

pub returns-then-last-ne0 : goal.returns-then-last-ne0
returns-then-last-ne0 c =
    cut_all c.args.operands.now c.loop-last.name.now c.in-Some.rest.now c.in-Some.last.now c.in-Some.ensures.cases.0 c.if-last-ne0.true c.loop-last.invariant

pub loop-last-smaller : goal.loop-last-smaller
loop-last-smaller c = omega (arith, c.in-Some.ensures.cases.1)

pub loop-last-preserved : goal.loop-last-preserved
loop-last-preserved c =
    cut_on c.args.operands.now c.loop-last.name.now c.in-Some.rest.now c.in-Some.last.now c.in-Some.ensures.cases.0 c.in-Some.ensures.cases.1 c.if-last-ne0.false c.loop-last.invariant

pub returns : goal.returns
returns c = cut_none c.args.operands.now c.loop-last.name.now c.in_default.ensures.cases c.loop-last.invariant
