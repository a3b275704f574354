-- Calls after reopening a cut log.
-- Assumes nothing.
use mathlib.Core.Path.{◌≡◌, refl, sym, ap, ap₂, subst, ◌∙◌}
use mathlib.Core.Bool.{Bool, true, false, cond}
use mathlib.Core.List.{List, [], ◌∷◌, ◌++◌, map, append-nil, append_assoc}
use Prim.Native.Nat.{ℕ, suc, ◌+◌, ◌*◌, ◌/◌, ◌≤◌}
use native.Mathlib.Omega.{arith}
use lib.Dec.{eqb}
use lib.ListN.{length, take, drop}
use Rattle.recordlog.specs.Write.{Frame, frames_of}
use Rattle.recordlog.specs.Laid.{place_all}
use Rattle.recordlog.specs.Claims.{read_all, Each}
use Rattle.recordlog.specs.Read.{whole, end_of_log, resume}
use Rattle.record.specs.Record.{Record, encode}
use Rattle.record.specs.Fits.{WellFormed}
use Rattle.queues.specs.Queues.{Queue, Capacities}
use Rattle.calls.specs.State.{State}
use Rattle.calls.specs.Calls.{call_of}
use Rattle.calls.specs.Placed.{Placed, PlacedAnswer, placed_record, placed_end, placed_readings}
use Rattle.calls.specs.PlacedList.{placed_of, placed_list}
use Rattle.calls.proofs.Placed.{told_at, placed_readings_told}
use Rattle.calls.proofs.PlacedRuns.{told_given}
use Rattle.calls.specs.Reading.{ReadAnswer, gave_record, gave_end, answer_of, readings}
use Rattle.calls.specs.Replay.{Outcome, left, and_then, replay_answers, replay_records, replay_of}
use Rattle.calls.specs.Machine.{Listed, Machine, Fed, records_of, NoneLonger}
use Rattle.calls.proofs.AnyLog.{resumes_in_log}
use Rattle.calls.proofs.Arranged.{Arrangement, bare_records, none_arranged, records-arranged}
use Rattle.calls.proofs.Replaying.{replay_all, replay_corrupt, records-append}
use Rattle.calls.proofs.Answers.{Formed, readings_same, records-given}
use Rattle.calls.proofs.Follows.{encodings, map-append, bare_list, Owns, Standing}
use Rattle.calls.proofs.Runs.{log_legal, each_limit}
use Rattle.cut.specs.Cut.{Unfit, Left, complete, headed, nothing, torn, covered}
use Rattle.cut.specs.Claims.{cut_log, given, write_all, given_after}
use Rattle.cut.specs.Cut.{left as left_by}
use Rattle.cut.proofs.State.{given_at}
use Rattle.cut.proofs.After.{given_at_after, sited_written, cut_written}
use Rattle.recordlog.proofs.Sited.{ended, sited_from}
use Rattle.recordlog.proofs.SitedRecords.{given_all}
use Rattle.frame.specs.Reader.{fresh}
use Rattle.cut_calls.specs.Claims.{cut_of, reopened, StatesSince, records_since, StatesAfterCalls, StatesPowerCutOn}
use Rattle.cut_calls.specs.CutRecord.{cut_answered, kept_of, machine_from, answered_after}
use Rattle.cut_calls.proofs.PowerCut.{answers_back, own, limits, formed, placed_answered, told_cut, cutting, cut_is, cut_length, replaying_cut, known}
use Rattle.cut_calls.proofs.Since.{Going, Gone, follows_on}

-- ---- answers

answers_after : (n : ℕ) (l : Left) (r : Record) (rs : List Record) → WellFormed r → map answer_of (given_after n l (encode r) (map encode rs)) ≡ answered_after n l r rs
unfolding given_after answered_after
answers_after n l r rs f = go (covered n l (map encode rs))
  where
    go : (b : Bool) → map answer_of (cond b [] (given l (encode r))) ≡ cond b [] (cut_answered l r)
    go true = refl
    go false = answers_back l r f

-- records on both sides of nothing
joined-records : (c : Capacities) (before rs : List Placed) → replay_answers c [] (map placed_record before ++ (map placed_record rs ++ (placed_end ∷ []))) ≡ replay_records c [] (before ++ rs)
joined-records c before rs =
    ap (replay_answers c [])
    (sym (ap (λ (a : List PlacedAnswer). a ++ (placed_end ∷ [])) (map-append placed_record before rs) ∙ append_assoc (map placed_record before) (map placed_record rs) (placed_end ∷ [])))
    ∙ replay_all c [] (before ++ rs)

-- with blocks: what is read between the records before the cut and those written after reopening
unfoldable placed_after : ℕ → Left → Placed → List (List ℕ) → List PlacedAnswer
placed_after n l r xs = cond (covered n l xs) [] (placed_answered l r)

told_after : (n : ℕ) (l : Left) (p : ℕ) (w : Listed) (xs : List (List ℕ)) → w.frames ≡ frames_of p (encode w.written) → WellFormed w.written
    → map told_at (given_at_after n l p (encode w.written) xs) ≡ placed_after n l (placed_of w) xs
unfolding given_at_after placed_after
told_after n l p w xs o f = go (covered n l xs)
  where
    go : (b : Bool) → map told_at (cond b [] (given_at l p (encode w.written))) ≡ cond b [] (placed_answered l (placed_of w))
    go true = refl
    go false = told_cut l p w o f

replays_after : (c : Capacities) (n : ℕ) (before : List Placed) (l : Left) (r : Placed) (ls : List Listed)
    → replay_answers c [] (map placed_record before ++ (placed_after n l r (encodings ls) ++ (map placed_record (placed_list ls) ++ (placed_end ∷ []))))
    ≡ replay_records c [] (before ++ (kept_of l r ++ placed_list ls))
unfolding placed_after placed_answered kept_of covered placed_list
replays_after c n before complete r ls = joined-records c before (r ∷ placed_list ls)
replays_after c n before headed r ls = replay_corrupt c [] before (placed_list ls) _
replays_after c n before nothing r ls = joined-records c before (placed_list ls)
replays_after c n before (torn s) r [] = replay_corrupt c [] before [] _
replays_after c n before (torn s) r (q ∷ ls) = go (eqb (suc (s / 32768)) n)
  where
    go : (b : Bool)
        → replay_answers c [] (map placed_record before ++ (cond b [] (placed_answered (torn s) r) ++ (map placed_record (placed_list (q ∷ ls)) ++ (placed_end ∷ []))))
        ≡ replay_records c [] (before ++ placed_list (q ∷ ls))
    go true = joined-records c before (placed_list (q ∷ ls))
    go false = unfold placed_answered in replay_corrupt c [] before (placed_list (q ∷ ls)) _

formed_kept : (before : List Placed) (l : Left) (r : Placed) → Formed (bare_records before) → WellFormed r.written → Formed (bare_records (before ++ kept_of l r))
unfolding kept_of
formed_kept before complete r a b = behind before a
  where
    behind : (rs : List Placed) → Formed (bare_records rs) → Formed (bare_records (rs ++ (r ∷ [])))
    behind [] w = (b, tt)
    behind (q ∷ rs) w = (w.0, behind rs w.1)
formed_kept before headed r a b = subst (λ (rs : List Placed). Formed (bare_records rs)) (sym (append-nil before)) a
formed_kept before nothing r a b = subst (λ (rs : List Placed). Formed (bare_records rs)) (sym (append-nil before)) a
formed_kept before (torn s) r a b = subst (λ (rs : List Placed). Formed (bare_records rs)) (sym (append-nil before)) a

-- ---- the log after

module _ (s s' : State) (ls : List Listed) (l : Listed) (w : Standing s ls) (v : Standing s' (ls ++ (l ∷ []))) (same : length s'.log ≡ length s.log)
    (c limit : ℕ) (low : s.place ≤ c) (high : c ≤ s'.place) (unfit : Unfit c l.frames) (none : NoneLonger limit (ls ++ (l ∷ [])))
    (m : Capacities) (qs : List Queue) (opened : replay_of (take c s'.log ++ drop c s.log) m limit ≡ left qs) where
  -- the cut log, and where the writer resumes
  cut : List ℕ
  cut = take c s'.log ++ drop c s.log

  q : ℕ
  q = resume (take c s'.log ++ drop c s.log) limit

  formed_parts : Formed (records_of ls) × WellFormed l.written
  formed_parts = formed s s' ls l w v same c limit low high unfit none

  size : length (take c s'.log ++ drop c s.log) ≡ w.number * 32768 + length w.tail
  size = cut_length s s' ls l w v same c limit low high unfit none

  replayed : replay_records m [] (placed_list ls ++ kept_of (left_by c l.frames) (placed_of l)) ≡ left qs
  replayed = sym (replaying_cut s s' ls l w v same c limit low high unfit none m) ∙ opened

  arr : Arrangement m qs
  unfolding placed_of
  arr =
      records-arranged m [] qs (placed_list ls ++ kept_of (left_by c l.frames) (placed_of l))
      (formed_kept (placed_list ls) (left_by c l.frames) (placed_of l) (subst Formed (sym (bare_list ls)) formed_parts.0) formed_parts.1) (none_arranged m) replayed

  start : Machine
  start = record { records = []; queues = qs; place = resume (take c s'.log ++ drop c s.log) limit }

  starts : Gone cut q w.number m qs (reopened cut m qs limit) start
  unfolding write_all place_all replay_records placed_list cut q start
  starts = record {
    list = [];
    machine_is = refl;
    going = record {
      log_is = refl;
      place_is = refl;
      room = omega (arith, resumes_in_log cut limit (omega (arith, size, w.some, w.short)), size, w.short);
      size = omega (arith, size, w.short);
      same_length = refl;
      formed = tt;
      owns = tt;
      sound = refl;
      same_room = refl;
      replayed = refl;
    };
  }

  module _ (h₂ : List Fed) (s₂ : State) (since : StatesSince (reopened (take c s'.log ++ drop c s.log) m qs limit) h₂ s₂) (again : ℕ)
      (none₁ : NoneLonger again (ls ++ (l ∷ []))) (none₂ : NoneLonger again (machine_from start h₂).records) where
    gone : Gone cut q w.number m qs s₂ (machine_from start h₂)
    unfolding cut
    gone = follows_on cut q w.number m qs arr (reopened cut m qs limit) start starts since

    records_are : (machine_from start h₂).records ≡ gone.list
    records_are = ap (λ (x : Machine). x.records) gone.machine_is

    reading_on : readings s₂.log again
        ≡ map gave_record (records_of ls) ++ (answered_after w.number (left_by c l.frames) l.written (records_of gone.list) ++ (map gave_record (records_of gone.list) ++ (gave_end ∷ [])))
    unfolding answer_of cut q
    reading_on =
        readings_same s₂.log again (log_legal s₂.log w.number (length w.tail) (g.same_length ∙ size) w.short w.some w.most)
        ∙ ap (λ (log : List ℕ). map answer_of (read_all log again)) g.log_is
        ∙ ap (λ (log : List ℕ). map answer_of (read_all (write_all log (resume log limit) after) again)) is
        ∙ ap (map answer_of)
        (cut_written w.number limit again c (encodings ls) xs w.tail after (cutting s s' ls l w v same c limit low high unfit none)
        (subst (λ (log : List ℕ). place_all (resume log limit) after ≤ w.number * 32768) is g.room)
        fits.0 fits.1 (each_limit again gone.list (subst (NoneLonger again) records_are none₂)))
        ∙ map-append answer_of (map whole (encodings ls)) (given_after w.number left_is xs after ++ (map whole after ++ (end_of_log ∷ [])))
        ∙ ap₂ (λ (a b : List ReadAnswer). a ++ b) (records-given (records_of ls) formed_parts.0)
        (map-append answer_of (given_after w.number left_is xs after) (map whole after ++ (end_of_log ∷ []))
        ∙ ap₂ (λ (a b : List ReadAnswer). a ++ b)
        (answers_after w.number left_is l.written (records_of gone.list) formed_parts.1
        ∙ ap (λ (fs : List Frame). answered_after w.number (left_by c fs) l.written (records_of gone.list)) (sym (own s s' ls l w v same c limit low high unfit none)))
        (map-append answer_of (map whole after) (end_of_log ∷ [])
        ∙ ap (λ (a : List ReadAnswer). a ++ (gave_end ∷ [])) (records-given (records_of gone.list) g.formed)))
      where
        g : Going cut q w.number m qs s₂ gone.list
        g = gone.going

        xs : List ℕ
        xs = encode l.written

        after : List (List ℕ)
        after = encodings gone.list

        left_is : Left
        left_is = left_by c (frames_of (place_all 0 (encodings ls)) (encode l.written))

        is : take c s'.log ++ drop c s.log ≡ cut_log w.number (encodings ls) (encode l.written) c ++ w.tail
        is = cut_is s s' ls l w v same c limit low high unfit none

        fits : Each (λ ys. length ys ≤ again) (encodings ls) × (length (encode l.written) ≤ again)
        fits = limits s s' ls l w v same c again low high unfit none₁

    -- with blocks
    placed_on : placed_readings s₂.log again
        ≡ map placed_record (placed_list ls)
        ++ (placed_after w.number (left_by c l.frames) (placed_of l) (encodings gone.list) ++ (map placed_record (placed_list gone.list) ++ (placed_end ∷ [])))
    unfolding told_at cut q
    placed_on =
        placed_readings_told s₂.log again (log_legal s₂.log w.number (length w.tail) (g.same_length ∙ size) w.short w.some w.most)
        ∙ ap (λ (log : List ℕ). map told_at (sited_from log again fresh)) g.log_is
        ∙ ap (λ (log : List ℕ). map told_at (sited_from (write_all log (resume log limit) after) again fresh)) is
        ∙ ap (map told_at)
        (sited_written w.number limit again c (encodings ls) xs w.tail after (cutting s s' ls l w v same c limit low high unfit none)
        (subst (λ (log : List ℕ). place_all (resume log limit) after ≤ w.number * 32768) is g.room)
        fits.0 fits.1 (each_limit again gone.list (subst (NoneLonger again) records_are none₂)))
        ∙ map-append told_at (given_all 0 (encodings ls)) (given_at_after w.number left_is p xs after ++ (given_all q₂ after ++ (ended ∷ [])))
        ∙ ap₂ (λ (a b : List PlacedAnswer). a ++ b) (told_given 0 ls w.owns formed_parts.0)
        (map-append told_at (given_at_after w.number left_is p xs after) (given_all q₂ after ++ (ended ∷ []))
        ∙ ap₂ (λ (a b : List PlacedAnswer). a ++ b)
        (told_after w.number left_is p l after (own s s' ls l w v same c limit low high unfit none) formed_parts.1
        ∙ ap (λ (fs : List Frame). placed_after w.number (left_by c fs) (placed_of l) after) (sym (own s s' ls l w v same c limit low high unfit none)))
        (map-append told_at (given_all q₂ after) (ended ∷ [])
        ∙ ap (λ (a : List PlacedAnswer). a ++ (placed_end ∷ []))
        (told_given q₂ gone.list (subst (λ (log : List ℕ). Owns (resume log limit) gone.list) is g.owns) g.formed)))
      where
        g : Going cut q w.number m qs s₂ gone.list
        g = gone.going

        xs : List ℕ
        xs = encode l.written

        after : List (List ℕ)
        after = encodings gone.list

        p : ℕ
        p = place_all 0 (encodings ls)

        q₂ : ℕ
        q₂ = resume (cut_log w.number (encodings ls) (encode l.written) c ++ w.tail) limit

        left_is : Left
        left_is = left_by c (frames_of (place_all 0 (encodings ls)) (encode l.written))

        is : take c s'.log ++ drop c s.log ≡ cut_log w.number (encodings ls) (encode l.written) c ++ w.tail
        is = cut_is s s' ls l w v same c limit low high unfit none

        fits : Each (λ ys. length ys ≤ again) (encodings ls) × (length (encode l.written) ≤ again)
        fits = limits s s' ls l w v same c again low high unfit none₁

    replay_on : replay_of s₂.log s₂.capacities again ≡ left s₂.queues
    unfolding replay_of and_then
    replay_on =
        ap (λ (x : Capacities). replay_answers x [] (placed_readings s₂.log again)) gone.going.same_room
        ∙ ap (replay_answers m []) placed_on
        ∙ replays_after m w.number (placed_list ls) (left_by c l.frames) (placed_of l) gone.list
        ∙ ap (replay_records m []) (sym (append_assoc (placed_list ls) (kept_of (left_by c l.frames) (placed_of l)) (placed_list gone.list)))
        ∙ records-append m [] (placed_list ls ++ kept_of (left_by c l.frames) (placed_of l)) (placed_list gone.list)
        ∙ ap (λ (o : Outcome). and_then o (λ (x : List Queue). replay_records m x (placed_list gone.list))) replayed
        ∙ gone.going.replayed

    after_calls : StatesAfterCalls (records_of ls) l.written (left_by c l.frames) (records_of (machine_from start h₂).records) s₂ again
    after_calls = record {
      reading =
          reading_on
          ∙ ap₂ (λ (n : ℕ) (ms : List Listed). map gave_record (records_of ls)
          ++ (answered_after n (left_by c l.frames) l.written (records_of ms) ++ (map gave_record (records_of ms) ++ (gave_end ∷ [])))) (sym gone.going.size) (sym records_are);
      replay = replay_on;
    }

pub states_power_cut_on : StatesPowerCutOn
unfolding start
states_power_cut_on h s r k l wr c limit again low high unfit none none₁ m qs e h₂ s₂ since none₂ =
    let w = known h s r k l wr in
    let put_in : NoneLonger limit (w.list ++ (l ∷ [])) = subst (λ (ms : List Listed). NoneLonger limit (ms ++ (l ∷ []))) w.records_is none in
    subst (λ (ms : List Listed). StatesAfterCalls (records_of ms) l.written (left_by c l.frames) (records_of (records_since (cut_of s k c) qs limit h₂)) s₂ again) (sym w.records_is)
    (after_calls s (call_of s k).state w.list l w.stands w.stands_after w.same c limit low high unfit put_in m qs e h₂ s₂ since again
    (subst (λ (ms : List Listed). NoneLonger again (ms ++ (l ∷ []))) w.records_is none₁) none₂)
