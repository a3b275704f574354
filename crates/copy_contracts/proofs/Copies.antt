-- The promises of a copy over the lent memory, from those over its meaning.
-- Assumes nothing.
use mathlib.Core.Path.{◌≡◌, refl, sym, ap, ap₂, subst, ◌∙◌}
use mathlib.Core.Bool.{Bool, true, not, ◌||◌}
use mathlib.Core.List.{List, []}
use Prim.Native.Nat.{ℕ, zero, suc, ◌*◌, ◌≤◌}
use native.Mathlib.Omega.{arith}
use lib.ListN.{length, take, length-replicate}
use borrow.Author.Tests.{le-ltb}
use Rattle.frame.specs.Block.{blocks}
use Rattle.queues.specs.Queues.{Queue, Capacities}
use Rattle.queues.specs.Layout.{Memory, meaning, arranged, capacities}
use Rattle.largest.specs.Table.{arranged_with}
use Rattle.largest.proofs.Table.{long_enough, same_entries}
use Rattle.calls.specs.State.{State}
use Rattle.calls.specs.Refusals.{log_refused, state_not_arranged}
use Rattle.calls.specs.Reading.{readings}
use Rattle.calls.specs.PlacedList.{placed_list}
use Rattle.calls.specs.Replay.{Outcome, left, replay_records, replay_of}
use Rattle.calls.specs.declared.Refusal.{Refusal as RefusalOf}
use Rattle.std.specs.Prelude.{Result}
use Rattle.read_step.specs.declared.Replayed.{Replayed as ReplayedAt}
use Rattle.contracts.specs.Promises.{state_of, ReplayKept}
use Rattle.contracts.specs.Demands.{Gives, ReplaysAs}
use Rattle.contracts.proofs.Readings.{reads_all}
use Rattle.contracts.proofs.Left.{with_arranged, with_kept}
use Rattle.contracts.proofs.ReplayTable.{queues_kept}
use Rattle.contracts.proofs.Demands.{replays_as, legal_by}
use Rattle.cut_calls.specs.CutRecord.{machine_from}
use Rattle.cut_calls.specs.Claims.{StatesSince}
use Rattle.cut_contracts.proofs.PowerCut.{since_means, since_kept}
use Rattle.copy_records.specs.Copy.{CopyLent, lent_of, copy_refusal, copied_by, copy_of}
use Rattle.copy_records.specs.Machine.{copied_machine}
use Rattle.copy_records.specs.Blocks.{copied_queues}
use Rattle.copy_records.specs.Claims.{state_copied}
use Rattle.copy_records.proofs.Unblocked.{alike_on}
use Rattle.copy_records.proofs.Again.{arranged_ordered}
use Rattle.copy_records.proofs.Copied.{copied_same}
use Rattle.copy_records.proofs.Left.{copy_passed, copy_place, states_copy_reads}
use Rattle.copy_records.proofs.Memory.{memory-arranged, memory_typed, memory_copy_blocks, memory_copies_equal}
use Rattle.copy_records.proofs.Onward.{states_copy_goes_on}
use Rattle.copy_contracts.specs.Claims.{CopyDone, EachReplay, CopyReplays, CopyBlocks, CopiesEqual, CopyReads, copied_lent, CopyPlaced, CopyGoesOn}

-- ---- an answer of 0 is a copy that was not refused

taken_on : (s : CopyLent) (n : ℕ) → copy_refusal s ≡ n → 0 ≡ (copied_by n s).refusal → copy_refusal s ≡ 0
unfolding copied_by
taken_on s zero e z = e
taken_on s (suc n) e z = absurd (omega arith)

module _ (target scratch target' scratch' : List ℕ) (m : Memory) (ks : List ℕ) (end : ℕ) (w : CopyDone target scratch m ks end target' scratch') where
  taken : copy_refusal (lent_of target scratch m ks) ≡ 0
  unfolding copy_of
  taken = taken_on (lent_of target scratch m ks) (copy_refusal (lent_of target scratch m ks)) refl w.refusal_is

  end_is : end ≡ (copy_of (lent_of target scratch m ks)).end
  end_is = w.end_is

  with_table : arranged_with m ks ≡ true
  unfolding lent_of
  with_table = (copy_passed (lent_of target scratch m ks) taken).is_arranged

  was_arranged : arranged m ≡ true
  was_arranged = with_arranged m ks with_table

  -- the copy's further table is long enough, and so is another of its length beside memory of the same sizes
  was_long : (n : Memory) (js : List ℕ) → capacities n ≡ capacities m → length js ≡ length ks → length n.entries ≤ length js
  was_long n js c l = omega (arith, l, same_entries m n c, long_enough m ks (with_kept m ks with_table))

-- ---- what replay's contract says of queues left

gives_at : (log scratch scratch' : List ℕ) (m m' : Memory) (ks ks' : List ℕ) (a : Result ReplayedAt RefusalOf) (c : Capacities) (limit : ℕ) (qs : List Queue)
    → length m.entries ≤ length ks → ReplayKept log scratch m ks a scratch' m' ks' → length scratch ≡ limit → capacities m ≡ c → replay_of log c limit ≡ left qs → Gives a m m' qs
gives_at log scratch scratch' m m' ks ks' a c limit qs long w n f e =
    replays_as log scratch scratch' m m' a (queues_kept log m ks (λ _. long) scratch scratch' m' a ks' w) (legal_by log c limit qs e (log_refused log) refl) (left qs) (ap₂ (replay_of log) f n ∙ e)

pub copy_blocks : CopyBlocks
copy_blocks target scratch target' scratch' m ks end w again again' n n' js js' a l c j r =
    gives_at target' again again' n n' js js' a (capacities m) (length scratch) (copied_queues (meaning m)) (was_long target scratch target' scratch' m ks end w n js c j) r l c
    (ap (λ (log : List ℕ). replay_of log (capacities m) (length scratch)) w.target_left
    ∙ memory_copy_blocks target scratch m ks w.typed (taken target scratch target' scratch' m ks end w) (capacities m) refl (length scratch) refl)

pub copy_replays : CopyReplays
copy_replays target scratch target' scratch' m ks end w again again' n n' js js' a l c j r =
    record {
      queues = copied_queues (meaning m);
      gives = copy_blocks target scratch target' scratch' m ks end w again again' n n' js js' a l c j r;
      same_but = copied_same (meaning m);
    }

pub copies_equal : CopiesEqual
copies_equal t₁ s₁ l₁ c₁ t₂ s₂ l₂ c₂ m₁ m₂ ks₁ ks₂ e₁ e₂ v w q l =
    ap (take (blocks t₁ * 32768)) v.target_left
    ∙ memory_copies_equal t₁ t₂ s₁ s₂ m₁ m₂ ks₁ ks₂ (taken t₁ s₁ l₁ c₁ m₁ ks₁ e₁ v) (taken t₂ s₂ l₂ c₂ m₂ ks₂ e₂ w) q l
    ∙ sym (ap (take (blocks t₂ * 32768)) w.target_left)

pub copy_reads : CopyReads
unfolding lent_of
copy_reads target scratch target' scratch' m ks end w s gs h r =
    reads_all target' s gs r
    ∙ ap (λ (log : List ℕ). readings log (length s)) w.target_left
    ∙ states_copy_reads (lent_of target scratch m ks) (taken target scratch target' scratch' m ks end w)
    (arranged_ordered (capacities m) (meaning m) (memory-arranged m (was_arranged target scratch target' scratch' m ks end w))) (memory_typed m w.typed) (length s) h

pub copy_placed : CopyPlaced
unfolding state_not_arranged state_of lent_of
copy_placed target scratch target' scratch' m ks end w =
    let p = copy_place (lent_of target scratch m ks) (taken target scratch target' scratch' m ks end w) in
    ap₂ (λ (a b : Bool). not a || b) (with_table target scratch target' scratch' m ks end w)
    (le-ltb (blocks target' * 32768) end (omega (arith, end_is target scratch target' scratch' m ks end w, p.end_inside, p.same_length, ap length w.target_left)))

-- ---- calls that go on

-- what is lent to the next call means what the claim over meanings begins with
next_means : (target scratch target' scratch' : List ℕ) (m : Memory) (ks : List ℕ) (end : ℕ) → CopyDone target scratch m ks end target' scratch'
    → state_of (copied_lent target' end scratch' m ks) ≡ state_copied (lent_of target scratch m ks) (capacities m)
unfolding state_of lent_of
next_means target scratch target' scratch' m ks end w =
    let p = copy_place (lent_of target scratch m ks) (taken target scratch target' scratch' m ks end w) in
    let long : length scratch' ≡ length scratch = ap length (w.scratch_left ∙ p.zero_scratch) ∙ length-replicate (length scratch) 0 in
    ap₂ (λ (log : List ℕ) (i : ℕ). record { log = log; place = i; queues = meaning m; arranged = arranged_with m ks; capacities = capacities m; scratch = length scratch' })
    w.target_left (end_is target scratch target' scratch' m ks end w)
    ∙ ap₂ (λ (b : Bool) (n : ℕ). record { log = (copy_of (lent_of target scratch m ks)).target; place = (copy_of (lent_of target scratch m ks)).end; queues = meaning m; arranged = b; capacities = capacities m; scratch = n })
    (with_table target scratch target' scratch' m ks end w) long

pub copy_goes_on : CopyGoesOn
unfolding state_of lent_of
copy_goes_on target scratch target' scratch' m ks end w h l since =
    let v = states_copy_goes_on (lent_of target scratch m ks) (capacities m) (taken target scratch target' scratch' m ks end w)
    (memory-arranged m (was_arranged target scratch target' scratch' m ks end w)) (memory_typed m w.typed) h (state_of l)
    (subst (λ (s : State). StatesSince s h (state_of l)) (next_means target scratch target' scratch' m ks end w) (since_means (copied_lent target' end scratch' m ks) since)) in
    let x = alike_on (replay_of l.log (capacities l.memory) (length l.scratch)) (meaning l.memory) v.replay in
    let gives : EachReplay l.log l.scratch l.memory l.largest (λ (a : Result ReplayedAt RefusalOf) (n n' : Memory). Gives a n n' x.queues) =
    λ again again' n n' js js' a long c j r.
    gives_at l.log again again' n n' js js' a (capacities l.memory) (length l.scratch) x.queues
    (omega (arith, j, same_entries l.memory n c, long_enough l.memory l.largest (with_kept l.memory l.largest (since_kept since (with_table target scratch target' scratch' m ks end w)))))
    r long c x.left_is in
    record {
      reading = λ s gs few r. reads_all l.log s gs r ∙ v.reading (length s) few;
      replay = λ again again' n n' js js' a long c j r.
          record { queues = x.queues; gives = gives again again' n n' js js' a long c j r; same_but = x.same_but };
      blocks = λ again again' n n' js js' a long c j r.
          subst (λ (o : Outcome). ReplaysAs o a n n')
          (sym x.left_is ∙ v.blocks ∙ ap (λ (k : Capacities). replay_records k [] (placed_list (machine_from (copied_machine (meaning m)) h).records)) (sym c))
          (gives again again' n n' js js' a long c j r);
    }
