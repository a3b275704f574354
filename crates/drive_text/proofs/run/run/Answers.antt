-- `drive_text::run::run` meets its contract: each turn prints what the run prints so far, and goes further.
-- Assumes nothing.
use Rattle.std.proofs.Common.{refl, sym, ◌∙◌, arith}
use Rattle.drive_text.proofs.Turning.{going_none, going_on, going_end, there}
use Rattle.drive_text.proofs.run.run.Goals as goal

pub loop-command-init : goal.loop-command-init
loop-command-init c = record { same = refl; same_log = (refl, (refl, refl)); same_memory = (refl, (refl, (refl, (refl, refl)))); going = going_none _ _ _ _ }

pub turn-p-requires : goal.turn-p-requires
turn-p-requires c = record { starts = sym c.in-Some.ensures.there; byte = c.in-Some.ensures.byte }

pub loop-command-smaller : goal.loop-command-smaller
loop-command-smaller c =
    let t = there c.args.input.now c.loop-command.p (sym c.in-Some.ensures.there) in
    omega (arith, t.ends, t.further, c.turn-p.ensures.place)

pub loop-command-preserved : goal.loop-command-preserved
loop-command-preserved c =
    let f = c.loop-command.invariant.same_log in
    let g = c.turn-p.ensures.same_log in
    let m = c.loop-command.invariant.same_memory in
    let n = c.turn-p.ensures.same_memory in
    record {
      same = c.turn-p.ensures.same ∙ c.loop-command.invariant.same;
      same_log = (g.0 ∙ f.0, (g.1.0 ∙ f.1.0, g.1.1 ∙ f.1.1));
      same_memory = (n.0 ∙ m.0, (n.1.0 ∙ m.1.0, (n.1.1.0 ∙ m.1.1.0, (n.1.1.1.0 ∙ m.1.1.1.0, n.1.1.1.1 ∙ m.1.1.1.1))));
      going =
          going_on (there c.args.input.now c.loop-command.p (sym c.in-Some.ensures.there)) c.turn-p.ensures.place c.turn-p.ensures.turned c.loop-command.invariant.going;
    }

pub returns : goal.returns
returns c =
    record {
      same = c.put_end.ensures.same ∙ c.loop-command.invariant.same;
      same_log = c.loop-command.invariant.same_log;
      same_memory = c.loop-command.invariant.same_memory;
      ran = going_end (sym c.in_default.ensures.there) c.loop-command.invariant.going c.put_end.ensures.puts;
    }
