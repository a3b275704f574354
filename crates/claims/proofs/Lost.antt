-- Corruption answers and bytes that replay counts: none of a log that nobody changed; one answer, and what it costs, of a log with one hit frame; and where a writer resumes.
-- Assumes nothing.
use mathlib.Core.Path.{◌≡◌, refl, sym, ap, ap₂, subst, ◌∙◌}
use mathlib.Core.Logic.{◌⊎◌}
use mathlib.Core.List.{List, [], ◌∷◌, ◌++◌, map}
use Prim.Native.Nat.{ℕ, ◌+◌, ◌*◌, ◌≤◌}
use lib.ListN.{length}
use Rattle.frame.specs.Block.{blocks, padding}
use Rattle.recordlog.specs.Read.{resume}
use Rattle.recordlog.specs.Claims.{Each}
use Rattle.recordlog.specs.Hit.{type_lost}
use Rattle.record.specs.Record.{Record}
use Rattle.queues.specs.Queues.{Capacities}
use Rattle.queues.specs.Layout.{Memory, meaning, capacities}
use Rattle.calls.specs.State.{State}
use Rattle.calls.specs.Reading.{gave_record, gave_end, readings, lost_in}
use Rattle.calls.specs.Lost.{lost_bytes}
use Rattle.calls.specs.Replay.{Outcome, refused, left, replayed_by, replay_of}
use Rattle.calls.specs.Machine.{Listed, Fed, machine, records_of, NoneLonger}
use Rattle.calls.specs.Run.{StatesRun as StateRun}
use Rattle.calls.proofs.Follows.{encodings}
use Rattle.calls.proofs.Steps.{follows}
use Rattle.calls.proofs.Runs.{same_records, states_records_read, resumes_behind}
use Rattle.calls.proofs.PlacedRuns.{states_round_trip}
use Rattle.calls.proofs.OneHit.{states_one_hit_frame}
use Rattle.lost_bytes.specs.Costs.{hit_cost}
use Rattle.lost_bytes.proofs.Within.{lost_within}
use Rattle.lost_bytes.proofs.Hit.{states_lose_nothing, states_hit_costs}
use Rattle.lost_bytes.proofs.Struck.{states_struck-within}
use Rattle.calls.specs.declared.Refusal.{Refusal as RefusalOf}
use native.Mathlib.Omega.{arith}
use Rattle.std.specs.Prelude.{Result}
use Rattle.calls.specs.Refused.{numbered}
use Rattle.read_step.specs.declared.Replayed.{Replayed as ReplayedAt}
use Rattle.contracts.specs.Promises.{replayed, Lent, state_of, ReplayKept, replay_answer_by, replay_answer}
use Rattle.contracts.specs.Run.{Run}
use Rattle.contracts.proofs.Runs.{run_means}
use Rattle.contracts.proofs.Readings.{reads_all}
use Rattle.contracts.specs.Turning.{QueuesReplayed}
use Rattle.contracts.proofs.ReplayTable.{numbers_in, answer_ok, queues_kept, replayed_long}
use Rattle.contracts.proofs.Demands.{answers, run_long}
use Rattle.claims.specs.Claims.{NothingLost, RoundTripNothingLost, CountsOne, OneHitCounted, ReplayLostWithin, CallsLoseNothing, LosesBytes, HitCosts, StruckWithin}

-- ---- a log that nobody changed

-- the calls' scratch held each record that they wrote
none_longer : (limit : ℕ) (ls : List Listed) → Each (λ (xs : List ℕ). length xs ≤ limit) (encodings ls) → NoneLonger limit ls
none_longer limit [] w = tt
none_longer limit (l ∷ ls) w = (w.0, none_longer limit ls w.1)

records_lose : (rs : List Record) → lost_in (map gave_record rs ++ (gave_end ∷ [])) ≡ 0
unfolding lost_in
records_lose [] = refl
records_lose (r ∷ rs) = records_lose rs

none_lost : (h : List Fed) (s : State) → StateRun h s → lost_in (readings s.log s.scratch) ≡ 0
none_lost h s r =
    ap lost_in (states_records_read h s r s.scratch
    (subst (NoneLonger s.scratch) (sym (same_records r)) (none_longer s.scratch (follows r).list (follows r).stands.in_scratch)))
    ∙ records_lose (records_of (machine h).records)

module _ (h : List Fed) (l : Lent) (r : Run h l) (scratch scratch' : List ℕ) (m m' : Memory) (a : Result ReplayedAt RefusalOf)
    (e : length scratch ≡ length l.scratch) (f : capacities m ≡ capacities l.memory) (w : QueuesReplayed l.log scratch m (numbered a) scratch' m') where
  given_back : replay_of l.log (capacities m) (length scratch) ≡ left (meaning l.memory)
  unfolding state_of
  given_back =
      ap (replay_of l.log (capacities m)) e ∙ ap (λ (c : Capacities). replay_of l.log c (length l.scratch)) f ∙ states_round_trip h (state_of l) (run_means h l r)

  -- in the scratch that was lent to replay
  lost_is : lost_in (readings l.log (length scratch)) ≡ 0
  unfolding state_of
  lost_is = ap (λ (n : ℕ). lost_in (readings l.log n)) e ∙ none_lost h (state_of l) (run_means h l r)

  bytes_is : lost_bytes l.log (length scratch) ≡ 0
  unfolding state_of
  bytes_is = ap (lost_bytes l.log) e ∙ states_lose_nothing h (state_of l) (run_means h l r)

  resumed_is : (resume l.log (length scratch) ≡ l.place) ⊎ (resume l.log (length scratch) ≡ l.place + padding l.place)
  unfolding state_of
  resumed_is =
      subst (λ (n : ℕ). (resume l.log n ≡ l.place) ⊎ (resume l.log n ≡ l.place + padding l.place)) (sym e) (resumes_behind h (state_of l) (run_means h l r))

  nothing_lost : NothingLost a l.place
  unfolding replayed_by replay_answer replay_answer_by
  nothing_lost =
      record {
        resumed = resume l.log (length scratch);
        answer =
            answer_ok a _
            (answers l.log scratch scratch' m m' a w (left (meaning l.memory)) given_back
            ∙ ap₂ (λ (n b : ℕ). replayed n b (resume l.log (length scratch))) lost_is bytes_is);
        resumes = resumed_is;
      }

pub round_trip_nothing_lost : RoundTripNothingLost
round_trip_nothing_lost h l r scratch scratch' m m' ks ks' a e f g w =
    nothing_lost h l r scratch scratch' m m' a e f (queues_kept l.log m ks (λ _. run_long h l r m ks f g) scratch scratch' m' a ks' w)

-- ---- one hit frame

-- what a replay that was not refused counts
told_lost : (o : Outcome) (lost lost' bytes bytes' p p' : ℕ) → replayed lost bytes p ≡ replay_answer (replayed_by o lost' bytes' p') → (lost ≡ lost') × (bytes ≡ bytes')
unfolding replayed_by replay_answer replay_answer_by
told_lost (refused n) lost lost' bytes bytes' p p' e = let z : ◌≡◌ {A = ℕ} 0 1 = cc in absurd (omega arith)
told_lost (left qs) lost lost' bytes bytes' p p' e = (ap (λ x. (numbers_in x).lost) e, ap (λ x. (numbers_in x).lost_bytes) e)

module _ (log scratch scratch' : List ℕ) (m m' : Memory) (ks ks' : List ℕ) (lost bytes resumed : ℕ) (w : ReplayKept log scratch m ks (replayed lost bytes resumed) scratch' m' ks') where
  told : (lost ≡ lost_in (readings log (length scratch))) × (bytes ≡ lost_bytes log (length scratch))
  told =
      told_lost (replay_of log (capacities m) (length scratch)) lost (lost_in (readings log (length scratch))) bytes (lost_bytes log (length scratch)) resumed (resume log (length scratch))
      (answers log scratch scratch' m m' (replayed lost bytes resumed)
      (queues_kept log m ks (λ _. replayed_long log scratch scratch' m m' ks ks' _ w) scratch scratch' m' (replayed lost bytes resumed) ks' w) (replay_of log (capacities m) (length scratch)) refl)

counts-one : (hit : List ℕ) (limit : ℕ) → lost_in (readings hit limit) ≡ 1 → CountsOne hit limit
counts-one hit limit e =
    record {
      reading = λ scratch gs n rs. ap lost_in (reads_all hit scratch gs rs) ∙ ap (λ (i : ℕ). lost_in (readings hit i)) n ∙ e;
      replay = λ scratch scratch' m m' ks ks' lost bytes resumed n w.
          (told hit scratch scratch' m m' ks ks' lost bytes resumed w).0 ∙ ap (λ (i : ℕ). lost_in (readings hit i)) n ∙ e;
    }

pub one_hit_counted : OneHitCounted
unfolding state_of
one_hit_counted h l r before after owner earlier later f hit limit e hf hh hl =
    counts-one hit limit (states_one_hit_frame h (state_of l) (run_means h l r) before after owner earlier later f hit limit e hf hh hl).lost_one

-- ---- the bytes lost

pub replay_lost_within : ReplayLostWithin
replay_lost_within log scratch scratch' m m' ks ks' lost bytes resumed w =
    subst (λ (n : ℕ). n ≤ blocks log * 32768) (sym (told log scratch scratch' m m' ks ks' lost bytes resumed w).1) (lost_within log (length scratch))

pub calls_lose_nothing : CallsLoseNothing
unfolding state_of
calls_lose_nothing h l r = states_lose_nothing h (state_of l) (run_means h l r)

loses : (hit : List ℕ) (limit n : ℕ) → lost_bytes hit limit ≡ n → LosesBytes hit limit n
loses hit limit n e =
    record {
      reading = e;
      replay = λ scratch scratch' m m' ks ks' lost bytes resumed q w. (told hit scratch scratch' m m' ks ks' lost bytes resumed w).1 ∙ ap (lost_bytes hit) q ∙ e;
    }

pub hit_costs : HitCosts
unfolding state_of
hit_costs h l r before after owner earlier later f hit limit e hf hh hl =
    loses hit limit (hit_cost (type_lost hit f) f (owner ∷ after)) (states_hit_costs h (state_of l) (run_means h l r) before after owner earlier later f hit limit e hf hh hl)

pub struck-within : StruckWithin
unfolding state_of
struck-within h l r before after owner earlier later f lost e hf =
    states_struck-within h (state_of l) (run_means h l r) before after owner earlier later f lost e hf
