-- Power lost during the record that a call writes.
-- Assumes nothing.
use mathlib.Core.Path.{◌≡◌, refl, sym, ap, ap₂, subst, ◌∙◌}
use mathlib.Core.Bool.{Bool, true, false, cond}
use mathlib.Core.List.{List, [], ◌∷◌, ◌++◌, map, append-nil, append_assoc}
use Prim.Native.Nat.{ℕ, ◌+◌, ◌*◌, ◌≤◌}
use native.Mathlib.Omega.{arith}
use lib.ListN.{length, take, drop}
use Rattle.slices.specs.Put.{put}
use Rattle.slices.proofs.Put.{length_put}
use Rattle.frame.specs.Block.{blocks}
use Rattle.recordlog.specs.Write.{Frame, frames_of, place_after, record_bytes}
use Rattle.recordlog.specs.Laid.{place_all, laid}
use Rattle.recordlog.specs.Claims.{read_all, Each}
use Rattle.recordlog.specs.Read.{whole, end_of_log}
use Rattle.recordlog.proofs.Frames.{length_record}
use Rattle.frame.specs.Reader.{fresh}
use Rattle.frame.specs.declared.Corruption.TheVariants.{WrongChecksum as wrong_checksum, UnknownType as unknown_type}
use Rattle.recordlog.proofs.Sited.{ended, sited_from}
use Rattle.recordlog.proofs.SitedRecords.{given_all}
use Rattle.record.specs.Record.{Record, encode}
use Rattle.record.specs.Fits.{WellFormed}
use Rattle.record.proofs.Codec.{decodes_back}
use Rattle.queues.specs.Queues.{Queue, Position, Capacities}
use Rattle.calls.specs.State.{State, Call, create_call, delete_call, truncate_call, append_call, mark_call, Returned}
use Rattle.calls.specs.Payloads.{first_position, gives_empty}
use Rattle.calls.specs.Refusals.{next_named, refusals_of, refusal_of}
use Rattle.calls.specs.Calls.{logged, wrote, create_done, delete_done, truncate_done, empty_answer, append_taking, append_done, marked, mark_done, done_of, call_of}
use Rattle.calls.specs.Placed.{Placed, PlacedAnswer, placed_record, placed_corruption, placed_end, placed_readings}
use Rattle.calls.specs.PlacedList.{placed_of, placed_list}
use Rattle.calls.proofs.Placed.{told_at, placed_readings_told}
use Rattle.calls.proofs.PlacedRuns.{told_listed, told_given}
use Rattle.calls.specs.Reading.{ReadAnswer, gave_record, gave_end, lost_frame, of_record, answer_of, readings}
use Rattle.calls.specs.Replay.{replay_answers, replay_records, replay_of}
use Rattle.calls.specs.Machine.{Listed, Machine, Fed, machine_call, machine, records_of, NoneLonger}
use Rattle.calls.specs.Run.{StatesRun}
use Rattle.calls.proofs.Passed.{create_passed, delete_passed, truncate_passed, AppendPassed, append-passed, mark_passed}
use Rattle.calls.proofs.Done.{call_done}
use Rattle.calls.proofs.Replaying.{replay_all, replay_corrupt}
use Rattle.calls.proofs.Answers.{Formed, readings_same, records-given}
use Rattle.calls.proofs.Follows.{encodings, map-append, records_of_append, placed_append, encodings_append, Owns, Standing, log_size, machine_of}
use Rattle.calls.proofs.Steps.{Stepped, stepped, follows}
use Rattle.calls.proofs.Runs.{log_legal, each_limit}
use Rattle.cut.specs.Cut.{Unfit, Left, complete, headed, nothing, torn}
use Rattle.cut.specs.Claims.{cut_log, given, cut_answers, Cutting}
use Rattle.cut.specs.Cut.{left as left_by}
use Rattle.cut.proofs.Reading.{cut_sited, cut_read}
use Rattle.cut.proofs.Origin.{cut_of_writing}
use Rattle.recordlog.proofs.Append.{place-append}
use Rattle.cut.proofs.State.{given_at, log_size as cut_size}
use Rattle.cut_calls.specs.Claims.{Writes, cut_of, StatesAfterCut, StatesPowerCut}
use Rattle.cut_calls.specs.CutRecord.{cut_answered, kept_of}

-- ---- a call leaves the log as long as it was

put-length : (s : State) (r : Record) → place_after s.place (encode r) ≤ blocks s.log * 32768 → length (put s.log s.place (record_bytes s.place (encode r))) ≡ length s.log
put-length s r h = length_put s.log s.place (record_bytes s.place (encode r)) (omega (arith, length_record s.place (encode r)))

logged-length : (s : State) (r : Record) (qs : List Queue) → place_after s.place (encode r) ≤ blocks s.log * 32768 → length (logged s r qs).log ≡ length s.log
unfolding logged
logged-length s r qs h = put-length s r h

marked-length : (s : State) (r : Record) → place_after s.place (encode r) ≤ blocks s.log * 32768 → length (marked s r).log ≡ length s.log
unfolding marked
marked-length s r h = put-length s r h

append-length : (s : State) (n : List ℕ) (a : Position) (run ks : List ℕ) → AppendPassed s n a run ks → (e : Bool) → gives_empty a (next_named s n) ks ≡ e
    → length (cond e (empty_answer s) (append_taking s n (first_position a (next_named s n)) run ks)).state.log ≡ length s.log
unfolding empty_answer append_taking wrote
append-length s n a run ks p true e = refl
append-length s n a run ks p false e = logged-length s _ _ (p.taking e).write.in_log

pub done_length : (s : State) (k : Call) → refusal_of s k ≡ 0 → length (done_of s k).state.log ≡ length s.log
unfolding refusals_of done_of create_done delete_done truncate_done append_done mark_done wrote
done_length s (create_call n) e = logged-length s _ _ (create_passed s n e).write.in_log
done_length s (delete_call n) e = logged-length s _ _ (delete_passed s n e).write.in_log
done_length s (truncate_call n x) e = logged-length s _ _ (truncate_passed s n x e).write.in_log
done_length s (append_call n a run ks) e = append-length s n a run ks (append-passed s n a run ks e) (gives_empty a (next_named s n) ks) refl
done_length s (mark_call n body) e = marked-length s _ (mark_passed s n body e).write.in_log

-- ---- answers

pub answers_back : (l : Left) (r : Record) → WellFormed r → map answer_of (given l (encode r)) ≡ cut_answered l r
unfolding given cut_answered answer_of of_record
answers_back complete r f = ap (λ d. of_record d ∷ []) (decodes_back r f)
answers_back headed r f = refl
answers_back nothing r f = refl
answers_back (torn s) r f = refl

-- with blocks: what reading gives for a record that was cut
unfoldable pub placed_answered : Left → Placed → List PlacedAnswer
placed_answered complete r = placed_record r ∷ []
placed_answered headed r = placed_corruption (lost_frame wrong_checksum) ∷ []
placed_answered nothing r = []
placed_answered (torn s) r = placed_corruption (lost_frame unknown_type) ∷ []

pub told_cut : (l : Left) (p : ℕ) (w : Listed) → w.frames ≡ frames_of p (encode w.written) → WellFormed w.written
    → map told_at (given_at l p (encode w.written)) ≡ placed_answered l (placed_of w)
unfolding given_at placed_answered told_at
told_cut complete p w o f = ap (λ (x : PlacedAnswer). x ∷ []) (told_listed p w o f)
told_cut headed p w o f = refl
told_cut nothing p w o f = refl
told_cut (torn s) p w o f = refl

replays_back : (c : Capacities) (before : List Placed) (l : Left) (r : Placed)
    → replay_answers c [] (map placed_record before ++ (placed_answered l r ++ (placed_end ∷ []))) ≡ replay_records c [] (before ++ kept_of l r)
unfolding placed_answered kept_of
replays_back c before complete r =
    ap (replay_answers c [])
    (sym (ap (λ (a : List PlacedAnswer). a ++ (placed_end ∷ [])) (map-append placed_record before (r ∷ [])) ∙ append_assoc (map placed_record before) (placed_record r ∷ []) (placed_end ∷ [])))
    ∙ replay_all c [] (before ++ (r ∷ []))
replays_back c before headed r = replay_corrupt c [] before [] _
replays_back c before nothing r = replay_all c [] before ∙ ap (replay_records c []) (sym (append-nil before))
replays_back c before (torn s) r = replay_corrupt c [] before [] _

-- ---- the parts of a list with one record more

pub each_snoc : (P : List ℕ → Type 0) (rs : List (List ℕ)) (xs : List ℕ) → Each P (rs ++ (xs ∷ [])) → Each P rs × P xs
each_snoc P [] xs h = (tt, h.0)
each_snoc P (ys ∷ rs) xs h = let g = each_snoc P rs xs h.1 in ((h.0, g.0), g.1)

formed_snoc : (rs : List Record) (r : Record) → Formed (rs ++ (r ∷ [])) → Formed rs × WellFormed r
formed_snoc [] r h = (tt, h.0)
formed_snoc (q ∷ rs) r h = let g = formed_snoc rs r h.1 in ((h.0, g.0), g.1)

owns_last : (p : ℕ) (ls : List Listed) (l : Listed) → Owns p (ls ++ (l ∷ [])) → l.frames ≡ frames_of (place_all p (encodings ls)) (encode l.written)
unfolding place_all
owns_last p [] l w = w.0
owns_last p (m ∷ ls) l w = owns_last (place_after p (encode m.written)) ls l w.1

-- ---- the cut

module _ (s s' : State) (ls : List Listed) (l : Listed) (w : Standing s ls) (v : Standing s' (ls ++ (l ∷ []))) (same : length s'.log ≡ length s.log)
    (c limit : ℕ) (low : s.place ≤ c) (high : c ≤ s'.place) (unfit : Unfit c l.frames) (none : NoneLonger limit (ls ++ (l ∷ []))) where
  pub number_same : v.number ≡ w.number
  number_same = omega (arith, log_size s ls w, log_size s' (ls ++ (l ∷ [])) v, w.short, v.short)

  parts : encodings (ls ++ (l ∷ [])) ≡ encodings ls ++ (encode l.written ∷ [])
  parts = encodings_append ls (l ∷ [])

  place_parts : place_all 0 (encodings (ls ++ (l ∷ []))) ≡ place_after (place_all 0 (encodings ls)) (encode l.written)
  unfolding place_all
  place_parts = ap (place_all 0) parts ∙ place-append 0 (encodings ls) (encode l.written ∷ [])

  pub room : place_after (place_all 0 (encodings ls)) (encode l.written) ≤ w.number * 32768
  room = omega (arith, v.room, place_parts, number_same)

  pub own : l.frames ≡ frames_of (place_all 0 (encodings ls)) (encode l.written)
  own = owns_last 0 ls l v.owns

  pub limits : Each (λ ys. length ys ≤ limit) (encodings ls) × (length (encode l.written) ≤ limit)
  limits = each_snoc (λ ys. length ys ≤ limit) (encodings ls) (encode l.written) (subst (Each (λ ys. length ys ≤ limit)) parts (each_limit limit (ls ++ (l ∷ [])) none))

  pub formed : Formed (records_of ls) × WellFormed l.written
  formed = formed_snoc (records_of ls) l.written (subst Formed (records_of_append ls (l ∷ [])) v.formed)

  pub cutting : Cutting w.number limit c (encodings ls) (encode l.written) w.tail
  cutting = record {
    some_blocks = w.some;
    short_tail = w.short;
    room = room;
    behind = omega (arith, w.place_is);
    limits = limits.0;
    limit_next = limits.1;
    unfit = subst (Unfit c) own unfit;
  }

  pub cut_is : take c s'.log ++ drop c s.log ≡ cut_log w.number (encodings ls) (encode l.written) c ++ w.tail
  cut_is =
      ap₂ (λ (a b : List ℕ). take c a ++ drop c b)
      (v.log_is ∙ ap₂ (λ (n : ℕ) (rs : List (List ℕ)). laid n rs ++ v.tail) number_same parts) w.log_is
      ∙ cut_of_writing w.number c (encodings ls) (encode l.written) w.tail v.tail room (omega (arith, w.place_is)) (omega (arith, v.place_is, place_parts))

  pub cut_length : length (take c s'.log ++ drop c s.log) ≡ w.number * 32768 + length w.tail
  cut_length = ap length cut_is ∙ cut_size w.number limit c (encodings ls) (encode l.written) w.tail cutting

  pub reading_cut : readings (take c s'.log ++ drop c s.log) limit ≡ map gave_record (records_of ls) ++ (cut_answered (left_by c l.frames) l.written ++ (gave_end ∷ []))
  unfolding answer_of cut_answers
  reading_cut =
      readings_same (take c s'.log ++ drop c s.log) limit (log_legal (take c s'.log ++ drop c s.log) w.number (length w.tail) cut_length w.short w.some w.most)
      ∙ ap (λ (log : List ℕ). map answer_of (read_all log limit)) cut_is
      ∙ ap (map answer_of) (cut_read w.number limit c (encodings ls) (encode l.written) w.tail cutting)
      ∙ map-append answer_of (map whole (encodings ls)) (given (left_by c (frames_of (place_all 0 (encodings ls)) (encode l.written))) (encode l.written) ++ (end_of_log ∷ []))
      ∙ ap₂ (λ (a b : List ReadAnswer). a ++ b) (records-given (records_of ls) formed.0)
      (map-append answer_of (given (left_by c (frames_of (place_all 0 (encodings ls)) (encode l.written))) (encode l.written)) (end_of_log ∷ [])
      ∙ ap (λ (a : List ReadAnswer). a ++ (gave_end ∷ []))
      (answers_back (left_by c (frames_of (place_all 0 (encodings ls)) (encode l.written))) l.written formed.1
      ∙ ap (λ (fs : List Frame). cut_answered (left_by c fs) l.written) (sym own)))

  placed_cut : placed_readings (take c s'.log ++ drop c s.log) limit
      ≡ map placed_record (placed_list ls) ++ (placed_answered (left_by c l.frames) (placed_of l) ++ (placed_end ∷ []))
  unfolding told_at
  placed_cut =
      placed_readings_told (take c s'.log ++ drop c s.log) limit (log_legal (take c s'.log ++ drop c s.log) w.number (length w.tail) cut_length w.short w.some w.most)
      ∙ ap (λ (log : List ℕ). map told_at (sited_from log limit fresh)) cut_is
      ∙ ap (map told_at) (cut_sited w.number limit c (encodings ls) (encode l.written) w.tail cutting)
      ∙ map-append told_at (given_all 0 (encodings ls)) (given_at x p (encode l.written) ++ (ended ∷ []))
      ∙ ap₂ (λ (a b : List PlacedAnswer). a ++ b) (told_given 0 ls w.owns formed.0)
      (map-append told_at (given_at x p (encode l.written)) (ended ∷ [])
      ∙ ap (λ (a : List PlacedAnswer). a ++ (placed_end ∷ []))
      (told_cut x p l own formed.1 ∙ ap (λ (fs : List Frame). placed_answered (left_by c fs) (placed_of l)) (sym own)))
    where
      p : ℕ
      p = place_all 0 (encodings ls)

      x : Left
      x = left_by c (frames_of (place_all 0 (encodings ls)) (encode l.written))

  pub replaying_cut : (m : Capacities) → replay_of (take c s'.log ++ drop c s.log) m limit ≡ replay_records m [] (placed_list ls ++ kept_of (left_by c l.frames) (placed_of l))
  unfolding replay_of
  replaying_cut m = ap (replay_answers m []) placed_cut ∙ replays_back m (placed_list ls) (left_by c l.frames) (placed_of l)

-- ---- after every list of calls

module _ (s : State) (ls : List Listed) (w : Standing s ls) (k : Call) (l : Listed) (v : Standing (call_of s k).state (ls ++ (l ∷ [])))
    (same : length (call_of s k).state.log ≡ length s.log) (c limit : ℕ) (low : s.place ≤ c) (high : c ≤ (call_of s k).state.place)
    (unfit : Unfit c l.frames) (none : NoneLonger limit (ls ++ (l ∷ []))) where
  after_cut : StatesAfterCut s k ls l (left_by c l.frames) (cut_of s k c) limit
  unfolding placed_list
  after_cut = record {
    reading = reading_cut s (call_of s k).state ls l w v same c limit low high unfit none;
    replay = again;
    replay_before = λ e.
        again s.capacities ∙ ap (replay_records s.capacities []) (ap (λ (rs : List Placed). placed_list ls ++ rs) e ∙ append-nil (placed_list ls)) ∙ w.replayed;
    replay_after = λ e.
        again (call_of s k).state.capacities
        ∙ ap (replay_records (call_of s k).state.capacities []) (ap (λ (rs : List Placed). placed_list ls ++ rs) e ∙ sym (placed_append ls (l ∷ []))) ∙ v.replayed;
  }
    where
      again : (m : Capacities) → replay_of (cut_of s k c) m limit ≡ replay_records m [] (placed_list ls ++ kept_of (left_by c l.frames) (placed_of l))
      again = replaying_cut s (call_of s k).state ls l w v same c limit low high unfit none

-- what is known of a call that writes a record
pub record Known (h : List Fed) (s : State) (k : Call) (l : Listed) : Type 0 where
  pub list : List Listed
  pub records_is : (machine h).records ≡ list
  pub stands : Standing s list
  pub stands_after : Standing (call_of s k).state (list ++ (l ∷ []))
  pub same : length (call_of s k).state.log ≡ length s.log

pub known : (h : List Fed) (s : State) → StatesRun h s → (k : Call) (l : Listed) → Writes h s k l → Known h s k l
known h s r k l wr = record { list = (follows r).list; records_is = records_is; stands = (follows r).stands; stands_after = v; same = same }
  where
    records_is : (machine h).records ≡ (follows r).list
    records_is = ap (λ (m : Machine). m.records) (follows r).machine_is

    step : Stepped (done_of s k).state (machine_call (machine_of s (follows r).list) k)
    step = stepped s (follows r).list (follows r).stands k wr.typed wr.done

    list_is : step.list ≡ (follows r).list ++ (l ∷ [])
    list_is =
        sym (ap (λ (m : Machine). m.records) step.machine_is)
        ∙ ap (λ (m : Machine). (machine_call m k).records) (sym (follows r).machine_is)
        ∙ wr.more ∙ ap (λ (ms : List Listed). ms ++ (l ∷ [])) records_is

    done_is : (call_of s k).state ≡ (done_of s k).state
    done_is = ap (λ (x : Returned). x.state) (call_done s k wr.done)

    v : Standing (call_of s k).state ((follows r).list ++ (l ∷ []))
    v = subst (λ (x : State). Standing x ((follows r).list ++ (l ∷ []))) (sym done_is) (subst (Standing (done_of s k).state) list_is step.stands)

    same : length (call_of s k).state.log ≡ length s.log
    same = ap (λ (x : State). length x.log) done_is ∙ done_length s k wr.done

pub states_power_cut : StatesPowerCut
states_power_cut h s r k l wr c limit low high unfit none =
    let w = known h s r k l wr in
    subst (λ (ms : List Listed). StatesAfterCut s k ms l (left_by c l.frames) (cut_of s k c) limit) (sym w.records_is)
    (after_cut s w.list w.stands k l w.stands_after w.same c limit low high unfit (subst (λ (ms : List Listed). NoneLonger limit (ms ++ (l ∷ []))) w.records_is none))
