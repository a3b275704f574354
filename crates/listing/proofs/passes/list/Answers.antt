use Rattle.std.proofs.Common.{◌≡◌, ◌<◌, ◌+◌, ℕ, refl, sym, ap, subst, ◌∙◌, arith}
use Rattle.queues.specs.declared.Held.{Held}
use Rattle.queues.specs.Layout.{memory, queues_held, records_held}
use Rattle.queues.specs.Changes.{word_at}
use Rattle.queues.specs.Passes.{QueueFits}
use Rattle.queues.proofs.Passes.{queue_inside, queues_fit}
use Rattle.listing.proofs.Counting.{names_zero, names_next, texts_zero, texts_next}
use Rattle.listing.proofs.Meanings.{list_on}
use Rattle.listing.proofs.passes.list.Goals as goal

pub loop-k-init : goal.loop-k-init
loop-k-init c =
    let a = c.args in
    record { same = refl; passed = sym (names_zero a.memory.names.now a.memory.payloads.now a.memory.entries.now a.memory.table.now 0); puts = texts_zero _ _ _ _ _ _ _ }

pub queue_text-passed-requires : goal.queue_text-passed-requires
queue_text-passed-requires c =
    let a = c.args in
    let f = queues_fit (memory a.memory.names.now a.memory.payloads.now a.memory.entries.now a.memory.table.now) c.requires.0 in
    let q : c.held-sums.result.queues ≡ queues_held a.memory.table.now = ap (λ (h : Held). h.queues) c.held-sums.ensures in
    let r : c.held-sums.result.records ≡ records_held a.memory.table.now = ap (λ (h : Held). h.records) c.held-sums.ensures in
    let k : c.loop-k.k < queues_held a.memory.table.now = omega arith in
    subst (λ (n : ℕ). QueueFits a.memory.names.now a.memory.payloads.now a.memory.entries.now a.memory.table.now n c.loop-k.passed c.loop-k.k) (sym r)
    (subst (λ (p : ℕ). QueueFits a.memory.names.now a.memory.payloads.now a.memory.entries.now a.memory.table.now (records_held a.memory.table.now) p c.loop-k.k) (sym c.loop-k.invariant.passed)
    (queue_inside _ _ _ _ _ _ f _ k))

pub loop-k-preserved : goal.loop-k-preserved
loop-k-preserved c =
    let a = c.args in
    let n = c.held-sums.result.records in
    let i = c.loop-k.invariant in
    record {
      same = c.queue_text-passed.ensures.same ∙ i.same;
      passed = c.queue_text-passed.ensures.passed ∙ ap (λ (p : ℕ). p + word_at a.memory.table.now c.loop-k.k 0) i.passed ∙ names_next a.memory.names.now a.memory.payloads.now a.memory.entries.now a.memory.table.now n c.loop-k.k;
      puts = texts_next a.memory.names.now a.memory.payloads.now a.memory.entries.now a.memory.table.now n c.loop-k.k i.puts (rw i.passed at c.queue_text-passed.ensures.puts);
    }

pub returns-clause-lists : goal.returns-clause-lists
returns-clause-lists c =
    let a = c.args in
    let q : c.held-sums.result.queues ≡ queues_held a.memory.table.now = ap (λ (h : Held). h.queues) c.held-sums.ensures in
    let r : c.held-sums.result.records ≡ records_held a.memory.table.now = ap (λ (h : Held). h.records) c.held-sums.ensures in
    let k : c.loop-k.k ≡ queues_held a.memory.table.now = omega arith in
    list_on a.memory.names.now a.memory.payloads.now a.memory.entries.now a.memory.table.now a.lost a.resumed a.log_bytes _ c.requires.0
    (rw q at c.put_number_line.ensures.puts) (rw (r, k) at c.loop-k.invariant.puts) c.end_lines.ensures.lists
