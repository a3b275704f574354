-- From the contracts of replay and of the copy to what becomes of a card.
-- Assumes nothing.
use mathlib.Core.Path.{◌≡◌, refl, sym, ap, ap₂, subst, ◌∙◌}
use mathlib.Core.Bool.{Bool, true, false, cond}
use mathlib.Core.List.{List}
use Prim.Native.Nat.{ℕ, zero, suc, ◌≤◌}
use native.Mathlib.Omega.{arith}
use lib.ListN.{length}
use borrow.Author.Tests.{le-ltb}
use Rattle.slices.specs.Bytes.{zeros}
use Rattle.queues.specs.Queues.{Queue}
use Rattle.queues.specs.Layout.{Memory, capacities, Leaves}
use Rattle.queues.proofs.Both.{never}
use Rattle.calls.specs.Refusals.{refuse_if, first_refusal, log_refused}
use Rattle.calls.specs.Replay.{Outcome, refused, left, Replayed as Came, replay_of, replayed_by, replay_call, outcome_queues, replay_scratch}
use Rattle.calls.proofs.Numbers.{replay_never_six}
use Rattle.largest.specs.Table.{arranged_with}
use Rattle.read_step.specs.declared.Replayed.{Replayed}
use Rattle.calls.specs.declared.Refusal.{Refusal}
use Rattle.calls.specs.Refused.{refusal_number, numbered}
use Rattle.calls.proofs.Refused.{refusal_some}
use Rattle.contracts.specs.Promises.{replay_answer_by, replay_answer, table_short, replay_refusals, replayed_with, replay_lent, ReplayKept}
use Rattle.contracts.specs.Turning.{QueuesReplayed}
use Rattle.contracts.proofs.ReplayTable.{queues_kept, replayed_long, replay_arranged}
use Rattle.contracts.proofs.Demands.{replays_as, legal_by}
use Rattle.copy_records.specs.Copy.{CopyLent, lent_of, copy_refusal, copied_by, copy_of}
use Rattle.copy_records.specs.Typed.{QueuesTyped}
use Rattle.copy_records.proofs.Memory.{memory_typed}
use Rattle.copy_contracts.specs.Promises.{CopyNumbers, copy_numbers, CopyKept}
use Rattle.abi_largest.specs.Numbers.{numbers}
use Rattle.abi_call.specs.OnBytes.{memory_bytes}
use Rattle.abi_tables.specs.Tables.{memory_in}
use Rattle.std.specs.Prelude.{Result}
use Rattle.cutdown_card.specs.declared.NotCut.{NotCut}
use Rattle.std.specs.Prelude.Result.{Ok, Err}
use Rattle.cutdown_card.specs.declared.NotCut.TheVariants.{Refused}
use Rattle.cutdown_card.specs.Cutdown.{lent_for, cut_by, cut_into, by_number, cut_numbered, answered_by, CutTyped}
use Rattle.cutdown_card.specs.Kept.{copied_as, into_by, Into}

-- an answer with the number of its refusal
abbrev as_number : Result Replayed Refusal → Result Replayed ℕ
as_number a = numbered a

-- ---- what an answer of replay says of its outcome

outcome_refused : (o : Outcome) (lost bytes p k : ℕ) → Err k ≡ replay_answer_by o lost bytes p → o ≡ refused k
unfolding replay_answer_by
outcome_refused (refused n) lost bytes p k e = cc
outcome_refused (left qs) lost bytes p k e = never (cc)

outcome_left : (o : Outcome) (lost bytes p : ℕ) (y : Replayed) → Ok y ≡ replay_answer_by o lost bytes p → o ≡ left (outcome_queues o)
unfolding replay_answer_by outcome_queues
outcome_left (refused n) lost bytes p y e = never (cc)
outcome_left (left qs) lost bytes p y e = refl

-- ---- with a further table that is long enough replay comes to what it comes to without it

outcome_by : (o : Outcome) (lost bytes p : ℕ) → (replayed_by o lost bytes p).outcome ≡ o
unfolding replayed_by
outcome_by (refused n) lost bytes p = refl
outcome_by (left qs) lost bytes p = refl

pub outcome_long : (log : List ℕ) (limit : ℕ) (m : Memory) (ks : List ℕ) → length m.entries ≤ length ks → (replay_lent log limit m ks).outcome ≡ replay_of log (capacities m) limit
unfolding replay_refusals first_refusal refuse_if table_short replayed_with replay_call
outcome_long log limit m ks long = on (log_refused log) refl
  where
    x : Came
    x = replay_call log (capacities m) limit

    on : (b : Bool) → log_refused log ≡ b → (replay_lent log limit m ks).outcome ≡ replay_of log (capacities m) limit
    on true e = ap (λ (b : Bool). (replayed_with (refuse_if b 1 (refuse_if (table_short m ks) 6 0)) x).outcome) e ∙ sym ((replay_never_six log (capacities m) limit).one e)
    on false e =
        ap₂ (λ (b c : Bool). (replayed_with (refuse_if b 1 (refuse_if c 6 0)) x).outcome) e (le-ltb (length ks) (length m.entries) long)
        ∙ outcome_by (replay_of log (capacities m) limit) _ _ _

-- ---- what an answer of the copy says of its refusal

-- what a copy that is refused by n, 0 where it is not, comes to
pub record By (n : ℕ) (qs : List Queue) (target : List ℕ) (r : Result ℕ NotCut) (target' : List ℕ) : Type 0 where
  pub typed : CutTyped (cut_by n qs)
  pub answer : cut_numbered r ≡ answered_by (length target) (cut_by n qs)
  pub target_left : target' ≡ into_by target (cut_by n qs)

module _ (target : List ℕ) (qs : List Queue) (limit : ℕ) (target' : List ℕ) (t : QueuesTyped qs) where
  abbrev lent : CopyLent
  lent = lent_for target qs limit

  by_refusal : (n : ℕ) → copy_refusal lent ≡ n → (c : Result ℕ Refusal) → (copy_numbers c).refusal ≡ (copied_by n lent).refusal → target' ≡ (copied_by n lent).target
      → By n qs target (copied_as c (length target)) target'
  unfolding copy_numbers copied_by copied_as cut_by cut_numbered answered_by into_by
  by_refusal zero e (Ok end) h w = record { typed = t; answer = refl; target_left = w }
  by_refusal zero e (Err r) h w = absurd (omega (arith, h, refusal_some r))
  by_refusal (suc n) e (Ok end) h w = absurd (omega (arith, h))
  by_refusal (suc n) e (Err r) h w = record { typed = tt; answer = ap (λ (n : ℕ). Err (by_number n)) h; target_left = w }

  pub into_left : (c : Result ℕ Refusal) → (copy_numbers c).refusal ≡ (copy_of lent).refusal → target' ≡ (copy_of lent).target → Into (left qs) limit target (copied_as c (length target)) target'
  unfolding copy_of cut_into
  into_left c h w =
      let b = by_refusal (copy_refusal lent) refl c h w in
      record { typed = b.typed; answer = b.answer; target_left = b.target_left }

-- ---- over the lent memory

module _ (card scratch scratch' : List ℕ) (m m' : Memory) (ks ks' : List ℕ) (a : Result Replayed Refusal) (w : ReplayKept card scratch m ks a scratch' m' ks') (target : List ℕ) where
  abbrev came : Came
  came = replay_lent card (length scratch) m ks

  answers : numbered a ≡ replay_answer_by came.outcome came.lost came.lost_bytes came.resumed
  unfolding replay_answer
  answers = w.answer

  pub into_refused : (r : Refusal) → a ≡ Err r → Into came.outcome (length scratch) target (Err (Refused r)) target
  unfolding cut_into cut_numbered answered_by into_by
  into_refused r e =
      subst (λ (o : Outcome). Into o (length scratch) target (Err (Refused r)) target)
      (sym (outcome_refused came.outcome came.lost came.lost_bytes came.resumed (refusal_number r) (sym (ap as_number e) ∙ answers)))
      (record { typed = tt; answer = refl; target_left = refl })

  module _ (y : Replayed) (e : a ≡ Ok y) where
    abbrev outcome : Outcome
    outcome = replay_of card (capacities m) (length scratch)

    abbrev queues_left : List Queue
    queues_left = outcome_queues outcome

    -- replay was not refused 6
    long : length m.entries ≤ length ks
    long = replayed_long card scratch scratch' m m' ks ks' y (subst (λ (x : Result Replayed Refusal). ReplayKept card scratch m ks x scratch' m' ks') e w)

    kept : QueuesReplayed card scratch m (numbered a) scratch' m'
    kept = queues_kept card m ks (λ _. long) scratch scratch' m' a ks' w

    came_to : came.outcome ≡ outcome
    came_to = outcome_long card (length scratch) m ks long

    outcome_is : outcome ≡ left queues_left
    outcome_is =
        subst (λ (o : Outcome). o ≡ left (outcome_queues o)) came_to
        (outcome_left came.outcome came.lost came.lost_bytes came.resumed y (sym (ap as_number e) ∙ answers))

    legal : log_refused card ≡ false
    legal = legal_by card (capacities m) (length scratch) queues_left outcome_is (log_refused card) refl

    leaves : Leaves m m' queues_left
    leaves = (replays_as card scratch scratch' m m' a kept legal (left queues_left) outcome_is).memory_left

    scratch_zero : scratch' ≡ zeros (length scratch)
    unfolding replay_scratch
    scratch_zero = subst (λ (b : Bool). scratch' ≡ cond b scratch (zeros (length scratch))) legal kept.scratch_left

    lent_is : lent_of target scratch' m' ks' ≡ lent_for target queues_left (length scratch)
    unfolding lent_of
    lent_is =
        ap (λ (qs : List Queue). record { target = target; queues = qs; arranged = arranged_with m' ks'; scratch = scratch' }) leaves.means
        ∙ ap₂ (λ (x : Bool) (s : List ℕ). record { target = target; queues = queues_left; arranged = x; scratch = s })
        (replay_arranged card scratch scratch' m m' ks ks' a legal long w) scratch_zero

    pub into_copied : (c : Result ℕ Refusal) (target' scratch'' : List ℕ) → CopyKept target scratch' m' ks' (copy_numbers c) target' scratch''
        → Into came.outcome (length scratch) target (copied_as c (length target)) target'
    into_copied c target' scratch'' k =
        subst (λ (o : Outcome). Into o (length scratch) target (copied_as c (length target)) target') (sym (came_to ∙ outcome_is))
        (into_left target queues_left (length scratch) target' (subst QueuesTyped leaves.means (memory_typed m' k.typed)) c
        (k.refusal_is ∙ ap (λ (s : CopyLent). (copy_of s).refusal) lent_is)
        (k.target_left ∙ ap (λ (s : CopyLent). (copy_of s).target) lent_is))

-- the same, as the code hands it on
pub copied_as_lem : (card scratch scratch' : List ℕ) (m m' : Memory) (ks ks' : List ℕ) (a : Result Replayed Refusal) → ReplayKept card scratch m ks a scratch' m' ks' → (target : List ℕ) (y : Replayed) → a ≡ Ok y
    → (c : Result ℕ Refusal) (target' scratch'' : List ℕ) → CopyKept target scratch' m' ks' (copy_numbers c) target' scratch'' → {r : Result ℕ NotCut} {n : ℕ} → n ≡ length target → r ≡ copied_as c n
    → Into (replay_lent card (length scratch) m ks).outcome (length scratch) target r target'
copied_as_lem card scratch scratch' m m' ks ks' a w target y e c target' scratch'' k l h =
    subst (λ (x : Result ℕ NotCut). Into (replay_lent card (length scratch) m ks).outcome (length scratch) target x target') (sym (h ∙ ap (copied_as c) l))
    (into_copied card scratch scratch' m m' ks ks' a w target y e c target' scratch'' k)

-- a copy of the memory looked at is one of the memory left
pub kept_held : {ns ns' ps ps' es es' ks ks' t t' target target' scratch scratch' : List ℕ} {a : CopyNumbers} → ns' ≡ ns → ps' ≡ ps → es' ≡ es → ks' ≡ ks → t' ≡ t
    → CopyKept target scratch (memory_in (memory_bytes ns' ps' es' ks' t')) (numbers ks') a target' scratch'
    → CopyKept target scratch (memory_in (memory_bytes ns ps es ks t)) (numbers ks) a target' scratch'
kept_held {ns} {ns'} {ps} {ps'} {es} {es'} {ks} {ks'} {t} {t'} {target} {target'} {scratch} {scratch'} {a} b c d e f w =
    subst (λ x. CopyKept target scratch (memory_in (memory_bytes ns ps es ks x)) (numbers ks) a target' scratch') f
    (subst (λ x. CopyKept target scratch (memory_in (memory_bytes ns ps es x t')) (numbers x) a target' scratch') e
    (subst (λ x. CopyKept target scratch (memory_in (memory_bytes ns ps x ks' t')) (numbers ks') a target' scratch') d
    (subst (λ x. CopyKept target scratch (memory_in (memory_bytes ns x es' ks' t')) (numbers ks') a target' scratch') c
    (subst (λ x. CopyKept target scratch (memory_in (memory_bytes x ps' es' ks' t')) (numbers ks') a target' scratch') b w))))
