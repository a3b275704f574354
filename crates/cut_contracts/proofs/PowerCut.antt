-- Power lost during a record, over the lent memory: from what is proved over its meaning.
-- Assumes nothing.
use mathlib.Core.Path.{◌≡◌, refl, sym, ap, ap₂, subst, ◌∙◌}
use mathlib.Core.Logic.{◌⊎◌, inl, inr}
use mathlib.Core.Bool.{Bool, true, false, cond}
use mathlib.Core.List.{List, [], ◌∷◌, ◌++◌}
use Prim.Native.Nat.{ℕ, zero, suc, ◌≤◌}
use native.Mathlib.Omega.{arith}
use lib.ListN.{length, take, drop, length-replicate}
use Rattle.slices.specs.Bytes.{zeros}
use Rattle.recordlog.specs.Read.{resume}
use Rattle.queues.specs.Queues.{Queue, Capacities}
use Rattle.queues.specs.Layout.{Memory, meaning, capacities, Leaves}
use Rattle.largest.specs.Table.{arranged_with}
use Rattle.calls.specs.State.{State, Call, CallAnswer, Returned}
use Rattle.calls.specs.Refusals.{log_refused, refusal_of}
use Rattle.calls.specs.Calls.{call_of}
use Rattle.calls.specs.Reading.{readings, lost_in}
use Rattle.calls.specs.Lost.{lost_bytes}
use Rattle.calls.specs.Placed.{Placed}
use Rattle.calls.specs.PlacedList.{placed_of, placed_list}
use Rattle.calls.specs.Replay.{Outcome, refused, left, replayed_by, replay_of, outcome_queues, replay_records, replay_scratch}
use Rattle.calls.specs.Machine.{Listed, Machine, Fed, machine, records_of, NoneLonger}
use Rattle.calls.proofs.Done.{call_refused, same_state}
use Rattle.calls.specs.declared.Refusal.{Refusal as RefusalOf}
use Rattle.std.specs.Prelude.{Result, Ok, Err}
use Rattle.read_step.specs.declared.Replayed.{Replayed as ReplayedAt}
use Rattle.contracts.specs.Promises.{replayed, Lent, state_of, ReplayKept, replay_answer_by, replay_answer}
use Rattle.contracts.specs.Run.{Run}
use Rattle.contracts.specs.Demands.{Gives}
use Rattle.contracts.proofs.Runs.{call_means, run_means, call_still}
use Rattle.contracts.proofs.Readings.{reads_all}
use Rattle.contracts.specs.Turning.{QueuesReplayed}
use Rattle.contracts.proofs.ReplayTable.{queues_kept, replayed_long, replay_arranged}
use Rattle.contracts.proofs.Demands.{answers, leaves, replays_as, legal_by}
use Rattle.cut.specs.Cut.{Unfit, Left, complete, headed, nothing, torn}
use Rattle.cut.specs.Cut.{left as left_by}
use Rattle.cut_calls.specs.Claims.{Writes, cut_of, reopened}
use Rattle.cut_calls.specs.CutRecord.{kept_of, machine_from}
use Rattle.cut_calls.specs.Claims.{StatesSince as StateSince}
use Rattle.cut_calls.specs.Claims.{StatesSince.none as state_none, StatesSince.call as state_call}
use Rattle.cut_calls.specs.Claims.{StatesAfterCut as StateAfterCut, StatesAfterCalls as StateAfterCalls}
use Rattle.cut_calls.proofs.PowerCut.{states_power_cut as states_cut}
use Rattle.cut_calls.proofs.On.{states_power_cut_on as states_on}
use Rattle.cut_contracts.specs.Claims.{Wrote, cut_lent, Opened, Since, none, call, records_from, AfterCut, PowerCut, AfterCalls, PowerCutOn}

-- ---- what replay's contract says

-- in memory of these sizes
gives_at : (log scratch scratch' : List ℕ) (m m' : Memory) (ks ks' : List ℕ) (a : Result ReplayedAt RefusalOf) (c : Capacities) (limit : ℕ) (qs : List Queue)
    → length m.entries ≤ length ks → ReplayKept log scratch m ks a scratch' m' ks' → length scratch ≡ limit → capacities m ≡ c → replay_of log c limit ≡ left qs → Gives a m m' qs
gives_at log scratch scratch' m m' ks ks' a c limit qs long w n f e =
    replays_as log scratch scratch' m m' a (queues_kept log m ks (λ _. long) scratch scratch' m' a ks' w) (legal_by log c limit qs e (log_refused log) refl) (left qs) (ap₂ (replay_of log) f n ∙ e)

-- ---- a call that was not refused

done_by : (s : State) (k : Call) (a : CallAnswer) → a ≡ (call_of s k).answer → a.refusal ≡ 0 → refusal_of s k ≡ 0
done_by s k a e z = go (refusal_of s k) refl
  where
    go : (i : ℕ) → refusal_of s k ≡ i → i ≡ 0
    go zero d = refl
    go (suc i) d = absurd (omega (arith, ap (λ (x : CallAnswer). x.refusal) (e ∙ ap (λ (x : Returned). x.answer) (call_refused s k i d))))

kept_cases : (x : Left) (r : Placed) → (kept_of x r ≡ []) ⊎ (kept_of x r ≡ r ∷ [])
unfolding kept_of
kept_cases complete r = inr refl
kept_cases headed r = inl refl
kept_cases nothing r = inl refl
kept_cases (torn s) r = inl refl

module _ (h : List Fed) (l : Lent) (run : Run h l) (k : Call) (a : CallAnswer) (l' : Lent) (w : Listed) (wr : Wrote h l k a l' w) where
  writes : Writes h (state_of l) k w
  writes = record { typed = wr.kept.typed; done = done_by (state_of l) k a wr.kept.answer wr.done; more = wr.more }

  means : state_of l' ≡ (call_of (state_of l) k).state
  means = call_means l l' k a wr.kept

  cut_same : (c : ℕ) → cut_of (state_of l) k c ≡ cut_lent l l' c
  unfolding state_of
  cut_same c = ap (λ (log : List ℕ). take c log ++ drop c l.log) (sym wr.kept.log_left)

  module _ (c limit : ℕ) (low : l.place ≤ c) (high : c ≤ l'.place) (unfit : Unfit c w.frames) (few : NoneLonger limit ((machine h).records ++ (w ∷ []))) where
    over_states : StateAfterCut (state_of l) k (machine h).records w (left_by c w.frames) (cut_lent l l' c) limit
    unfolding state_of
    over_states =
        subst (λ (log : List ℕ). StateAfterCut (state_of l) k (machine h).records w (left_by c w.frames) log limit) (cut_same c)
        (states_cut h (state_of l) (run_means h l run) k w writes c limit low (omega (arith, wr.kept.place_left)) unfit few)

    before : kept_of (left_by c w.frames) (placed_of w) ≡ [] → replay_of (cut_lent l l' c) (capacities l.memory) limit ≡ left (meaning l.memory)
    unfolding state_of
    before e = over_states.replay_before e

    after : kept_of (left_by c w.frames) (placed_of w) ≡ placed_of w ∷ [] → replay_of (cut_lent l l' c) (capacities l'.memory) limit ≡ left (meaning l'.memory)
    unfolding state_of
    after e = subst (λ (x : State). replay_of (cut_lent l l' c) x.capacities limit ≡ left x.queues) (sym means) (over_states.replay_after e)

    legal : log_refused (cut_lent l l' c) ≡ false
    legal = go (kept_cases (left_by c w.frames) (placed_of w))
      where
        go : (kept_of (left_by c w.frames) (placed_of w) ≡ []) ⊎ (kept_of (left_by c w.frames) (placed_of w) ≡ placed_of w ∷ []) → log_refused (cut_lent l l' c) ≡ false
        go (inl e) = legal_by (cut_lent l l' c) (capacities l.memory) limit (meaning l.memory) (before e) (log_refused (cut_lent l l' c)) refl
        go (inr e) = legal_by (cut_lent l l' c) (capacities l'.memory) limit (meaning l'.memory) (after e) (log_refused (cut_lent l l' c)) refl

    after_cut : AfterCut l l' (machine h).records w (left_by c w.frames) (cut_lent l l' c) limit
    after_cut = record {
      reading = λ scratch gs n rs. reads_all cut scratch gs rs ∙ ap (readings cut) n ∙ over_states.reading;
      replay = λ scratch scratch' m m' ks ks' b n long kept.
          replays_as cut scratch scratch' m m' b (queues_kept cut m ks (λ _. long) scratch scratch' m' b ks' kept) legal (replay_records (capacities m) [] (placed_list (machine h).records ++ kept_of (left_by c w.frames) (placed_of w)))
          (ap (replay_of cut (capacities m)) n ∙ over_states.replay (capacities m));
      replay_before = λ e scratch scratch' m m' ks ks' b n f long kept.
          gives_at cut scratch scratch' m m' ks ks' b (capacities l.memory) limit (meaning l.memory) long kept n f (before e);
      replay_after = λ e scratch scratch' m m' ks ks' b n f long kept.
          gives_at cut scratch scratch' m m' ks ks' b (capacities l'.memory) limit (meaning l'.memory) long kept n f (after e);
    }
      where
        cut : List ℕ
        cut = cut_lent l l' c

pub power_cut : PowerCut
power_cut h l run k a l' w wr c limit low high unfit few = after_cut h l run k a l' w wr c limit low high unfit few

-- ---- after reopening

-- every list of calls over lent memory is one over its meaning
pub since_means : (l₀ : Lent) {h : List Fed} {l : Lent} → Since l₀ h l → StateSince (state_of l₀) h (state_of l)
since_means l₀ none = state_none
since_means l₀ (call {h} {l} k a l' r w) = state_call k a (state_of l') (since_means l₀ r) w.typed w.answer (call_means l l' k a w)

-- what such a list is lent stays arranged, from one that was
pub since_kept : {l₀ : Lent} {h : List Fed} {l : Lent} → Since l₀ h l → arranged_with l₀.memory l₀.largest ≡ true → arranged_with l.memory l.largest ≡ true
since_kept none e = e
since_kept (call {h} {l} k a l' r w) e = call_still l l' k a w (since_kept r e)

abbrev resumed_in : Result ReplayedAt ℕ → ℕ
resumed_in (Ok x) = x.resumed
resumed_in (Err n) = 0

told-left : (o : Outcome) (lost lost' bytes bytes' p p' : ℕ) → replayed lost bytes p ≡ replay_answer (replayed_by o lost' bytes' p') → (qs : List Queue) × (o ≡ left qs) × (p ≡ p')
unfolding replayed_by replay_answer replay_answer_by
told-left (refused n) lost lost' bytes bytes' p p' e = let z : ◌≡◌ {A = ℕ} 0 1 = cc in absurd (omega arith)
told-left (left qs) lost lost' bytes bytes' p p' e = (qs, refl, ap resumed_in e)

module _ (log scratch : List ℕ) (m : Memory) (ks : List ℕ) (l₀ : Lent) (o : Opened log scratch m ks l₀) where
  long_opened : length m.entries ≤ length ks
  long_opened = replayed_long log scratch l₀.scratch m l₀.memory ks l₀.largest _ o.kept

  inner : QueuesReplayed log scratch m (replayed o.lost o.lost_bytes l₀.place) l₀.scratch l₀.memory
  inner = queues_kept log m ks (λ _. long_opened) scratch l₀.scratch l₀.memory (replayed o.lost o.lost_bytes l₀.place) l₀.largest o.kept

  -- the queues that replay gave, and the place
  pub found : (qs : List Queue) × (replay_of log (capacities m) (length scratch) ≡ left qs) × (l₀.place ≡ resume log (length scratch))
  found =
      told-left (replay_of log (capacities m) (length scratch)) o.lost (lost_in (readings log (length scratch))) o.lost_bytes (lost_bytes log (length scratch)) l₀.place (resume log (length scratch))
      (answers log scratch l₀.scratch m l₀.memory (replayed o.lost o.lost_bytes l₀.place) inner (replay_of log (capacities m) (length scratch)) refl)

  legal_opened : log_refused log ≡ false
  legal_opened = legal_by log (capacities m) (length scratch) found.0 found.1 (log_refused log) refl

  memory_is : Leaves m l₀.memory found.0
  unfolding outcome_queues
  memory_is = leaves log scratch l₀.scratch m l₀.memory (replayed o.lost o.lost_bytes l₀.place) inner legal_opened (left found.0) found.1

  pub opened_means : state_of l₀ ≡ reopened log (capacities m) found.0 (length scratch)
  unfolding state_of replay_scratch
  opened_means =
      same_state (state_of l₀) (reopened log (capacities m) found.0 (length scratch))
      (record {
        log = o.log_is;
        place = found.2;
        queues = memory_is.means;
        arranged = replay_arranged log scratch l₀.scratch m l₀.memory ks l₀.largest (replayed o.lost o.lost_bytes l₀.place) legal_opened long_opened o.kept;
        capacities = memory_is.same_room;
        scratch =
            ap length (inner.scratch_left ∙ ap (λ (b : Bool). cond b scratch (zeros (length scratch))) legal_opened) ∙ length-replicate (length scratch) 0;
      })

abbrev starting : List Queue → ℕ → Machine
starting qs p = record { records = []; queues = qs; place = p }

module _ (h : List Fed) (l : Lent) (run : Run h l) (k : Call) (a : CallAnswer) (l' : Lent) (w : Listed) (wr : Wrote h l k a l' w)
    (c again : ℕ) (low : l.place ≤ c) (high : c ≤ l'.place) (unfit : Unfit c w.frames) (scratch : List ℕ)
    (few₀ : NoneLonger (length scratch) ((machine h).records ++ (w ∷ []))) (few₁ : NoneLonger again ((machine h).records ++ (w ∷ [])))
    (m : Memory) (ks : List ℕ) (l₀ : Lent) (o : Opened (cut_lent l l' c) scratch m ks l₀) (h₂ : List Fed) (l₂ : Lent) (since : Since l₀ h₂ l₂) (few₂ : NoneLonger again (records_from l₀ h₂)) where
  over_on : StateAfterCalls (records_of (machine h).records) w.written (left_by c w.frames) (records_of (records_from l₀ h₂)) (state_of l₂) again
  unfolding state_of
  over_on =
      subst (λ (x : Machine). StateAfterCalls (records_of (machine h).records) w.written (left_by c w.frames) (records_of (machine_from x h₂).records) (state_of l₂) again) (sym same)
      (states_on h (state_of l) (run_means h l run) k w (writes h l run k a l' w wr) c (length scratch) again low (omega (arith, wr.kept.place_left)) unfit few₀ few₁
      (capacities m) qs (found log scratch m ks l₀ opened).1 h₂ (state_of l₂)
      (subst (λ (y : State). StateSince y h₂ (state_of l₂)) (opened_means log scratch m ks l₀ opened) (since_means l₀ since))
      (subst (λ (x : Machine). NoneLonger again (machine_from x h₂).records) same few₂))
    where
      log : List ℕ
      log = cut_of (state_of l) k c

      opened : Opened (cut_of (state_of l) k c) scratch m ks l₀
      opened = subst (λ (g : List ℕ). Opened g scratch m ks l₀) (sym (cut_same h l run k a l' w wr c)) o

      qs : List Queue
      qs = (found log scratch m ks l₀ opened).0

      same : starting (meaning l₀.memory) l₀.place ≡ starting qs (resume log (length scratch))
      same = ap₂ starting (memory_is log scratch m ks l₀ opened).means (found log scratch m ks l₀ opened).2

  after_calls : AfterCalls (records_of (machine h).records) w.written (left_by c w.frames) (records_of (records_from l₀ h₂)) l₂ again
  unfolding state_of
  after_calls = record {
    reading = λ t gs n rs. reads_all l₂.log t gs rs ∙ ap (readings l₂.log) n ∙ over_on.reading;
    replay = λ t t' m₂ m₂' js js' b n f long kept. gives_at l₂.log t t' m₂ m₂' js js' b (capacities l₂.memory) again (meaning l₂.memory) long kept n f over_on.replay;
  }

pub power_cut_on : PowerCutOn
power_cut_on h l run k a l' w wr c again low high unfit scratch few₀ few₁ m ks l₀ o h₂ l₂ since few₂ =
    after_calls h l run k a l' w wr c again low high unfit scratch few₀ few₁ m ks l₀ o h₂ l₂ since few₂
