use Rattle.std.proofs.Common.{◌≡◌, ◌<◌, ◌≤◌, ◌+◌, ℕ, List, length, take, drop, get_or, refl, sym, ap, subst, ◌∙◌, arith}
use Rattle.queues.specs.declared.RecordEntry.{RecordEntry}
use Rattle.queues.specs.Layout.{blank}
use Rattle.queues.specs.Passes.{passed_to, EntriesFit}
use Rattle.queues.proofs.Passes.{entry_inside}
use Rattle.listing.specs.declared.Text.{Text}
use Rattle.listing.specs.Internal.{Puts}
use Rattle.listing.specs.Passes.{entry_line, lines_to}
use Rattle.listing.proofs.Counting.{passed_zero, passed_next, lines_zero, lines_next}
use Rattle.listing.proofs.Text.record_lines.Goals as goal

-- entry i, and what is passed before it
module _ (k : ℕ) (es : List RecordEntry) (ps : List ℕ) (i q : ℕ) (h : i < length es) (w : EntriesFit es ps (length es)) (passed : q ≡ passed_to es i) where
  abbrev here : RecordEntry
  here = get_or es i blank

  inside : q + here.length ≤ length ps
  inside = omega (arith, entry_inside es ps (length es) w i h, passed)

  passed_on : q + here.length ≡ passed_to es (i + 1)
  passed_on = ap (λ (p : ℕ). p + here.length) passed ∙ passed_next es i

  lines_on : (s t u : Text) → Puts s (lines_to k es ps i) t → Puts t (entry_line k here (take here.length (drop q ps))) u → Puts s (lines_to k es ps (i + 1)) u
  lines_on s t u x y = lines_next k es ps i x (subst (λ (p : ℕ). Puts t (entry_line k here (take here.length (drop p ps))) u) passed y)

pub loop-e-init : goal.loop-e-init
loop-e-init c = record { same = refl; passed = sym (passed_zero c.args.entries.now); puts = lines_zero _ _ _ _ _ }

pub entry_line-passed-requires : goal.entry_line-passed-requires
entry_line-passed-requires c = inside c.args.queue c.args.entries.now c.args.payloads.now c.loop-e.e-index _ c.loop-e-test.true c.requires c.loop-e.invariant.passed

pub loop-e-preserved : goal.loop-e-preserved
loop-e-preserved c =
    let a = c.args in
    let i = c.loop-e.e-index in
    let p = c.loop-e.invariant.passed in
    record {
      same = c.entry_line-passed.ensures.same ∙ c.loop-e.invariant.same;
      passed = c.entry_line-passed.ensures.passed ∙ passed_on a.queue a.entries.now a.payloads.now i _ c.loop-e-test.true c.requires p;
      puts = lines_on a.queue a.entries.now a.payloads.now i _ c.loop-e-test.true c.requires p c.args.self.now c.loop-e.self c.entry_line-passed.new.self c.loop-e.invariant.puts c.entry_line-passed.ensures.puts;
    }
