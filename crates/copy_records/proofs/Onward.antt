-- Calls that go on from a copy, lent the memory that was copied: what holds of the state after every list of calls holds of theirs, but for block numbers.
-- Assumes nothing.
use mathlib.Core.Path.{◌≡◌, refl, sym, ap, subst, ◌∙◌}
use mathlib.Core.Bool.{Bool, true, cond, not}
use mathlib.Core.List.{List, [], ◌∷◌, ◌++◌, map}
use Prim.Native.Nat.{ℕ, zero, suc}
use native.Mathlib.Omega.{arith}
use lib.Dec.{eqb}
use lib.ListN.{length}
use borrow.Author.Tests.{ne_eqb}
use Rattle.recordlog.specs.Began.{header_block}
use Rattle.queues.specs.Queues.{Queue, Capacities}
use Rattle.queues.specs.Unblocked.{unblocked}
use Rattle.calls.specs.State.{State, Call, CallAnswer, Typed}
use Rattle.calls.specs.Refusals.{refusal_of}
use Rattle.calls.specs.Calls.{logged, done_of, returned_by, call_of}
use Rattle.calls.specs.Reading.{gave_record, gave_end}
use Rattle.calls.specs.Unblocked.{unblocked_outcome}
use Rattle.calls.specs.PlacedList.{placed_list}
use Rattle.calls.specs.Replay.{left, replay_records}
use Rattle.calls.specs.Machine.{Listed, Machine, Fed, puts, machine_call, was_refused, records_of, NoneLonger}
use Rattle.calls.specs.Claims.{queues_arranged}
use Rattle.calls.proofs.Passed.{WriteTaken}
use Rattle.calls.proofs.Arranged.{Arrangement}
use Rattle.calls.proofs.Follows.{machine_of, Standing, queues_arranged_lem, listed, writing}
use Rattle.calls.proofs.Taken.{Taken, wrote_one, wrote_none, taken}
use Rattle.calls.proofs.Steps.{done_zero}
use Rattle.calls.proofs.Runs.{each_limit, reading}
use Rattle.calls.proofs.PlacedRuns.{replaying}
use Rattle.cut_calls.specs.CutRecord.{machine_from}
use Rattle.cut_calls.specs.Claims.{StatesSince, none, call}
use Rattle.copy_records.specs.Copy.{copy_records, copy_end, CopyLent, copy_refusal}
use Rattle.copy_records.specs.Machine.{listed_from, copied_machine}
use Rattle.copy_records.specs.Blocks.{copied_queues}
use Rattle.copy_records.specs.Typed.{QueuesTyped}
use Rattle.copy_records.specs.Claims.{state_copied, StatesCopyGoesOn}
use Rattle.copy_records.proofs.Unblocked.{record_alike, arranged_alike}
use Rattle.copy_records.proofs.Copied.{copied_same}
use Rattle.copy_records.proofs.Left.{encoded, end_left}
use Rattle.copy_records.proofs.Stands.{copy_stands}

-- ---- what holds of calls that go on

abbrev holding : State → List Queue → State
holding s qs = record { log = s.log; place = s.place; queues = qs; arranged = s.arranged; capacities = s.capacities; scratch = s.scratch }

-- the machine goes with the state; the records lie in the log, and replayed they give queues that are equal to the state's but for block numbers
pub record Goes (s : State) (m : Machine) : Type 0 where
  pub queues : List Queue
  pub same_but : map unblocked queues ≡ map unblocked s.queues
  pub list : List Listed
  pub machine_is : m ≡ machine_of s list
  pub stands : Standing (holding s queues) list

-- ---- one call

module _ (s : State) (m : Machine) (w : Goes s m) where
  arrangement : Arrangement s.capacities s.queues
  arrangement = arranged_alike s.capacities w.queues s.queues (sym w.same_but) (queues_arranged_lem (holding s w.queues) w.list w.stands)

  goes_taken : (x : State) (go : List Listed → Machine) → Taken s x go → Goes x (go w.list)
  unfolding logged puts
  goes_taken x go (wrote_one r qs fits f p e xe me) =
      let v = record_alike s.capacities s.queues w.queues qs (header_block s.place) r w.same_but e in
      let p' : WriteTaken (holding s w.queues) r fits = record { in_scratch = p.in_scratch; in_memory = p.in_memory; has_room = p.has_room; in_log = p.in_log } in
      subst (λ (y : State). Goes y (go w.list)) (sym xe)
      (record {
        queues = v.queues;
        same_but = v.same_but;
        list = w.list ++ (listed s r ∷ []);
        machine_is = me w.list;
        stands = writing (holding s w.queues) w.list w.stands r v.queues fits f p' v.left_is;
      })
  goes_taken x go (wrote_none xe me) =
      subst (λ (y : State). Goes y (go w.list)) (sym xe)
      (record { queues = w.queues; same_but = w.same_but; list = w.list; machine_is = me w.list; stands = w.stands })

  goes_done : (k : Call) → Typed k → refusal_of s k ≡ 0 → Goes (done_of s k).state (machine_call m k)
  goes_done k t e =
      subst (λ (x : Machine). Goes (done_of s k).state (machine_call x k)) (sym w.machine_is)
      (goes_taken (done_of s k).state (λ ms. machine_call (machine_of s ms) k) (taken s arrangement w.stands.arranged_is k t e))

  goes_by : (k : Call) → Typed k → (i : ℕ) → refusal_of s k ≡ i
      → Goes (returned_by i s (done_of s k)).state (cond (was_refused (returned_by i s (done_of s k)).answer) m (machine_call m k))
  unfolding returned_by
  goes_by k t zero z =
      subst (λ (i : ℕ). Goes (done_of s k).state (cond (not (eqb i 0)) m (machine_call m k))) (sym (done_zero s k)) (goes_done k t z)
  goes_by k t (suc i) z =
      subst (λ (b : Bool). Goes s (cond (not b) m (machine_call m k))) (sym (ne_eqb (suc i) 0 (λ q. omega arith))) w

-- ---- every list of calls

goes_all : (s₀ : State) (m₀ : Machine) → Goes s₀ m₀ → {h : List Fed} {s : State} → StatesSince s₀ h s → Goes s (machine_from m₀ h)
unfolding machine_from call_of
goes_all s₀ m₀ w none = w
goes_all s₀ m₀ w (call {h} {s} k a s' r t e f) =
    let v = goes_all s₀ m₀ w r in
    subst (λ (x : State). Goes x (cond (was_refused a) (machine_from m₀ h) (machine_call (machine_from m₀ h) k))) (sym f)
    (subst (λ (x : CallAnswer). Goes (call_of s k).state (cond (was_refused x) (machine_from m₀ h) (machine_call (machine_from m₀ h) k))) (sym e)
    (goes_by s (machine_from m₀ h) v k t (refusal_of s k) refl))

-- ---- from a copy

copy_goes : (s : CopyLent) (c : Capacities) → copy_refusal s ≡ 0 → queues_arranged c s.queues ≡ true → QueuesTyped s.queues
    → Goes (state_copied s c) (copied_machine s.queues)
unfolding copy_end encoded
copy_goes s c e a t =
    record {
      queues = copied_queues s.queues;
      same_but = copied_same s.queues;
      list = listed_from 0 (copy_records s.queues);
      machine_is = ap (λ (p : ℕ). record { records = listed_from 0 (copy_records s.queues); queues = s.queues; place = p }) (sym (end_left s e));
      stands = copy_stands s c e a t (length s.scratch) (omega arith);
    }

pub states_copy_goes_on : StatesCopyGoesOn
unfolding unblocked_outcome
states_copy_goes_on s c e a t h z r =
    let w = goes_all (state_copied s c) (copied_machine s.queues) (copy_goes s c e a t) r in
    let same : (machine_from (copied_machine s.queues) h).records ≡ w.list = ap (λ (m : Machine). m.records) w.machine_is in
    record {
      reading = λ limit l.
          reading (holding z w.queues) w.list w.stands limit (each_limit limit w.list (subst (NoneLonger limit) same l))
          ∙ ap (λ (ls : List Listed). map gave_record (records_of ls) ++ (gave_end ∷ [])) (sym same);
      replay = ap unblocked_outcome (replaying (holding z w.queues) w.list w.stands) ∙ ap left w.same_but;
      blocks =
          replaying (holding z w.queues) w.list w.stands
          ∙ sym w.stands.replayed
          ∙ ap (λ (ls : List Listed). replay_records z.capacities [] (placed_list ls)) (sym same);
    }
