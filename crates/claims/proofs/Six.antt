-- 6: what a call or replay left does not meet it when lent again.
-- Assumes nothing.
use mathlib.Core.Path.{◌≡◌, refl, sym, ap, ap₂, subst, ◌∙◌}
use mathlib.Core.Logic.{◌⊎◌, inl, inr}
use mathlib.Core.Bool.{Bool, true, false, cond, not, ◌||◌, true≢false}
use mathlib.Core.List.{List, []}
use Prim.Native.Nat.{ℕ, zero, suc, ◌*◌, ◌≤◌, ◌<◌}
use native.Mathlib.Omega.{arith}
use lib.ListN.{length}
use borrow.Author.Tests.{le-ltb}
use Rattle.frame.specs.Block.{blocks}
use Rattle.recordlog.specs.Read.{resume}
use Rattle.queues.specs.Queues.{Queue, Found, missing, held, find}
use Rattle.queues.specs.Layout.{Memory, meaning, capacities}
use Rattle.largest.specs.Table.{arranged_with}
use Rattle.std.specs.declared.ops.Bound.{Bound}
use Rattle.calls.specs.State.{State, Call, create_call, delete_call, truncate_call, append_call, mark_call, CallAnswer, Returned}
use Rattle.calls.specs.Payloads.{first_position, gives_empty}
use Rattle.calls.specs.Refusals.{Refusal, first_refusal, log_refused, state_not_arranged, next_named, input_refusals, write_refusals, create_refusals, delete_refusals, truncate_refusals, taking_refusals, append_refusals, mark_refusals, place_not_arranged, refusals_of, refusal_of, question_refusals}
use Rattle.calls.specs.Claims.{applies_in, LowestOf}
use Rattle.calls.specs.Calls.{call_of}
use Rattle.calls.specs.Questions.{RangeAnswer as RangeNumbers, PositionsAnswer as PositionsNumbers}
use Rattle.calls.specs.Questions.{question_refusal, range_by, range_answer, positions_by, positions_answer}
use Rattle.calls.specs.Reading.{readings, lost_in}
use Rattle.calls.specs.Lost.{lost_bytes}
use Rattle.calls.specs.Replay.{Outcome, refused, left, replayed_by, replay_call, replay_of}
use Rattle.calls.proofs.Chain.{or_right, lowest_first}
use Rattle.calls.proofs.Passed.{log_taken, state_taken}
use Rattle.calls.proofs.Done.{call_refused, call_done}
use Rattle.calls.proofs.Steps.{done_zero}
use Rattle.calls.proofs.AnyLog.{resumes_in_log}
use Rattle.call_write.specs.declared.Question.{Question}
use Rattle.call_write.specs.declared.Question.TheVariants.{Positions, Range, Largest}
use Rattle.call_write.specs.declared.QuestionAnswer.{QuestionAnswer}
use Rattle.contracts.specs.Numbers.{range_numbers, positions_numbers, LargestNumbers, largest_numbers, ReplayNumbers, replay_numbers}
use Rattle.calls.specs.declared.Refusal.{Refusal as RefusalOf}
use Rattle.calls.specs.declared.Refusal.TheVariants.{NotArranged}
use Rattle.std.specs.Prelude.{Result, Err}
use Rattle.calls.specs.Refused.{numbered}
use Rattle.read_step.specs.declared.Replayed.{Replayed as ReplayedAt}
use Rattle.contracts.specs.Promises.{Lent, state_of, CallKept, largest_by, largest_answer, QuestionKept, numbers_by, replay_meant}
use Rattle.contracts.specs.Turning.{QueuesReplayed}
use Rattle.contracts.proofs.ReplayTable.{numbers_told, queues_kept, replay_arranged}
use Rattle.contracts.proofs.Runs.{call_means}
use Rattle.claims.specs.Claims.{NeverMeetsSix, CallLeavesArranged, CallWasArranged, ReplayLeavesArranged, lent_not_arranged}
use Rattle.claims.proofs.LogLeft.{call_leaves, left_arranged}

-- ---- a call answers 6 where it applies, and no number below it does

pub or_false : (b : Bool) → b || false ≡ b
or_false true = refl
or_false false = refl

append_six : (e : Bool) (s : State) (n : List ℕ) (p : ℕ) (run ks : List ℕ) → applies_in 6 (cond e [] (taking_refusals s n p run ks)) ≡ false
unfolding applies_in taking_refusals write_refusals
append_six true s n p run ks = refl
append_six false s n p run ks = refl

-- 6 stands once in each list
call_six : (s : State) (k : Call) → applies_in 6 (refusals_of s k) ≡ lent_not_arranged s k
unfolding applies_in refusals_of create_refusals delete_refusals truncate_refusals append_refusals mark_refusals input_refusals write_refusals lent_not_arranged
call_six s (create_call n) = or_false (state_not_arranged s)
call_six s (delete_call n) = or_false (state_not_arranged s)
call_six s (truncate_call n e) = or_false (state_not_arranged s)
call_six s (append_call n a run ks) =
    ap (λ (b : Bool). state_not_arranged s || b) (append_six (gives_empty a (next_named s n) ks) s n (first_position a (next_named s n)) run ks)
    ∙ or_false (state_not_arranged s)
call_six s (mark_call n body) = or_false (place_not_arranged s)

-- arranged for a call of the others is so for a mark
lent-arranged : (s : State) (k : Call) → state_not_arranged s ≡ false → lent_not_arranged s k ≡ false
unfolding lent_not_arranged state_not_arranged
lent-arranged s (create_call n) e = e
lent-arranged s (delete_call n) e = e
lent-arranged s (truncate_call n x) e = e
lent-arranged s (append_call n a run ks) e = e
lent-arranged s (mark_call n body) e = or_right (not s.arranged) (place_not_arranged s) e

question_six : (b : Bool) (qs : List Queue) (n : List ℕ) → applies_in 6 (question_refusals b qs n) ≡ not b
unfolding applies_in question_refusals
question_six b qs n = or_false (not b)

-- a list whose refusal 6 does not apply does not give it
pub not_given : (rs : List Refusal) → LowestOf rs (first_refusal rs) → applies_in 6 rs ≡ false → first_refusal rs ≡ 6 → ⊥
not_given rs w a e = true≢false (sym (subst (λ (i : ℕ). applies_in i rs ≡ true) e (w.applies (omega arith))) ∙ a)

-- one that gives none, or a number above 6
not_applied : (rs : List Refusal) → LowestOf rs (first_refusal rs) → (first_refusal rs ≡ 0) ⊎ (6 < first_refusal rs) → (b : Bool) → applies_in 6 rs ≡ b → b ≡ false
not_applied rs w h false e = refl
not_applied rs w (inl h) true e = absurd (omega (arith, (w.lowest 6 e).0))
not_applied rs w (inr h) true e = absurd (omega (arith, (w.lowest 6 e).1))

-- ---- calls

pub refusal-answered : (s : State) (k : Call) → (call_of s k).answer.refusal ≡ refusal_of s k
refusal-answered s k = go (refusal_of s k) refl
  where
    go : (i : ℕ) → refusal_of s k ≡ i → (call_of s k).answer.refusal ≡ refusal_of s k
    go zero e = ap (λ (x : Returned). x.answer.refusal) (call_done s k e) ∙ done_zero s k ∙ sym e
    go (suc i) e = ap (λ (x : Returned). x.answer.refusal) (call_refused s k i e) ∙ sym e

call_refusal : (l l' : Lent) (k : Call) (a : CallAnswer) → CallKept l k a l' → a.refusal ≡ refusal_of (state_of l) k
call_refusal l l' k a w = ap (λ (x : CallAnswer). x.refusal) w.answer ∙ refusal-answered (state_of l) k

-- ---- questions

pub range-refusal : (b : Bool) (qs : List Queue) (n : List ℕ) (lo : Bound ℕ) (hi : Bound ℕ) → (range_answer b qs n lo hi).refusal ≡ question_refusal b qs n
unfolding range_answer range_by
range-refusal b qs n lo hi = go (question_refusal b qs n) (find n qs)
  where
    go : (i : ℕ) (f : Found) → (range_by i f lo hi).refusal ≡ i
    go zero missing = refl
    go zero (held q) = refl
    go (suc i) f = refl

positions_refusal : (b : Bool) (qs : List Queue) (n : List ℕ) → (positions_answer b qs n).refusal ≡ question_refusal b qs n
unfolding positions_answer positions_by
positions_refusal b qs n = go (question_refusal b qs n) (find n qs)
  where
    go : (i : ℕ) (f : Found) → (positions_by i f).refusal ≡ i
    go zero missing = refl
    go zero (held q) = refl
    go (suc i) f = refl

largest_refusal : (b : Bool) (qs : List Queue) (n : List ℕ) → (largest_answer b qs n).refusal ≡ question_refusal b qs n
unfolding largest_answer largest_by
largest_refusal b qs n = go (question_refusal b qs n) (find n qs)
  where
    go : (i : ℕ) (f : Found) → (largest_by i f).refusal ≡ i
    go zero missing = refl
    go zero (held q) = refl
    go (suc i) f = refl

question_refusal_lem : (m : Memory) (ks n : List ℕ) (q : Question) (a : Result QuestionAnswer RefusalOf) → QuestionKept m ks n q a → a ≡ Err NotArranged
    → question_refusal (arranged_with m ks) (meaning m) n ≡ 6
unfolding range_numbers positions_numbers largest_numbers
question_refusal_lem m ks n Largest a w e =
    sym (largest_refusal (arranged_with m ks) (meaning m) n) ∙ sym (ap (λ (x : LargestNumbers). x.refusal) w.answer)
    ∙ ap (λ (x : Result QuestionAnswer RefusalOf). (largest_numbers x).refusal) e
question_refusal_lem m ks n Positions a w e =
    sym (positions_refusal (arranged_with m ks) (meaning m) n) ∙ sym (ap (λ (x : PositionsNumbers). x.refusal) w.answer)
    ∙ ap (λ (x : Result QuestionAnswer RefusalOf). (positions_numbers x).refusal) e
question_refusal_lem m ks n (Range lo hi) a w e =
    sym (range-refusal (arranged_with m ks) (meaning m) n lo hi) ∙ sym (ap (λ (x : RangeNumbers). x.refusal) w.answer)
    ∙ ap (λ (x : Result QuestionAnswer RefusalOf). (range_numbers m.payloads x).refusal) e

-- ---- what is lent and does not meet 6

never_meets : (l : Lent) → state_not_arranged (state_of l) ≡ false → NeverMeetsSix l
unfolding state_of
never_meets l e =
    record {
      arranged = e;
      calls = λ k a l' w z.
          not_given (refusals_of (state_of l) k) (lowest_first.calls (state_of l) k) (call_six (state_of l) k ∙ lent-arranged (state_of l) k e) (sym (call_refusal l l' k a w) ∙ z);
      questions = λ n q a w z.
          not_given (question_refusals (arranged_with l.memory l.largest) (meaning l.memory) n) (lowest_first.questions (arranged_with l.memory l.largest) (meaning l.memory) n)
          (question_six (arranged_with l.memory l.largest) (meaning l.memory) n ∙ ap not (state_taken (state_of l) e).arranged) (question_refusal_lem l.memory l.largest n q a w z);
    }

pub call_leaves_arranged : CallLeavesArranged
call_leaves_arranged l l' k a w e =
    never_meets l' (ap state_not_arranged (call_means l l' k a w) ∙ left_arranged (state_of l) (call_of (state_of l) k).state (call_leaves (state_of l) k) e)

pub call_was_arranged : CallWasArranged
call_was_arranged l l' k a w h =
    sym (call_six (state_of l) k)
    ∙ not_applied (refusals_of (state_of l) k) (lowest_first.calls (state_of l) k) (subst (λ (i : ℕ). (i ≡ 0) ⊎ (6 < i)) (call_refusal l l' k a w) h)
    (applies_in 6 (refusals_of (state_of l) k)) refl

-- ---- replay

meant_resumed : (o : Outcome) (lost bytes p n : ℕ) → p ≤ n → (replay_meant (replayed_by o lost bytes p)).resumed ≤ n
unfolding replay_meant replayed_by numbers_by
meant_resumed (refused i) lost bytes p n h = omega arith
meant_resumed (left qs) lost bytes p n h = h

resumed_inside : (log scratch scratch' : List ℕ) (m m' : Memory) (a : Result ReplayedAt RefusalOf) → log_refused log ≡ false → QueuesReplayed log scratch m (numbered a) scratch' m'
    → (replay_numbers a).resumed ≤ blocks log * 32768
unfolding replay_call
resumed_inside log scratch scratch' m m' a e w =
    subst (λ (x : ReplayNumbers). x.resumed ≤ blocks log * 32768) (sym (numbers_told a (replay_call log (capacities m) (length scratch)) w.answer))
    (meant_resumed (replay_of log (capacities m) (length scratch)) (lost_in (readings log (length scratch))) (lost_bytes log (length scratch)) (resume log (length scratch)) (blocks log * 32768)
    (resumes_in_log log (length scratch) (log_taken log e).some))

pub replay_leaves_arranged : ReplayLeavesArranged
unfolding state_of state_not_arranged
replay_leaves_arranged log scratch scratch' m m' ks ks' a e long w s =
    never_meets (record { log = log; place = (replay_numbers a).resumed; scratch = s; memory = m'; largest = ks' })
    (ap₂ (λ (x y : Bool). not x || y) (replay_arranged log scratch scratch' m m' ks ks' a e long w)
    (le-ltb (blocks log * 32768) (replay_numbers a).resumed
    (resumed_inside log scratch scratch' m m' a e (queues_kept log m ks (λ _. long) scratch scratch' m' a ks' w))))
