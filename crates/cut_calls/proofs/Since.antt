-- What holds after every list of calls from a reopened log on.
-- Assumes nothing.
use mathlib.Core.Path.{◌≡◌, refl, sym, ap, ap₂, subst, ◌∙◌}
use mathlib.Core.Bool.{Bool, true, cond, not}
use mathlib.Core.List.{List, [], ◌∷◌, ◌++◌}
use Prim.Native.Nat.{ℕ, zero, suc, ◌*◌, ◌≤◌}
use native.Mathlib.Omega.{arith}
use lib.Dec.{eqb}
use lib.ListN.{length}
use borrow.Author.Tests.{ne_eqb}
use Rattle.slices.specs.Put.{put}
use Rattle.slices.proofs.Put.{length_put}
use Rattle.frame.specs.Block.{blocks}
use Rattle.recordlog.specs.Write.{frames_of, place_after, record_bytes}
use Rattle.recordlog.specs.Began.{header_block}
use Rattle.recordlog.specs.Laid.{place_all}
use Rattle.recordlog.proofs.Frames.{length_record}
use Rattle.record.specs.Record.{Record, encode}
use Rattle.record.specs.Fits.{WellFormed}
use Rattle.queues.specs.Queues.{Queue, Capacities}
use Rattle.calls.specs.State.{State, Call, CallAnswer, Typed}
use Rattle.calls.specs.Refusals.{refusal_of}
use Rattle.calls.specs.Calls.{logged, done_of, returned_by, call_of}
use Rattle.calls.specs.Replay.{Outcome, left, and_then, replay_record, replay_records}
use Rattle.calls.specs.Machine.{Listed, Machine, Fed, puts, machine_call, was_refused, records_of}
use Rattle.calls.proofs.Replaying.{records-append}
use Rattle.calls.proofs.Answers.{Formed}
use Rattle.calls.proofs.Arranged.{Arrangement, records-arranged}
use Rattle.calls.specs.Placed.{placed}
use Rattle.calls.specs.PlacedList.{placed_of, placed_list}
use Rattle.calls.proofs.PlacedList.{first_listed}
use Rattle.calls.proofs.Follows.{encodings, records_of_append, placed_append, bare_list, encodings_append, Owns, owns_snoc, machine_of, listed}
use Rattle.calls.proofs.Steps.{done_zero}
use Rattle.cut.specs.Claims.{write_all}
use Rattle.recordlog.proofs.Append.{place-append}
use Rattle.cut_calls.specs.Claims.{StatesSince, none, call}
use Rattle.cut_calls.specs.CutRecord.{machine_from}
use Rattle.calls.proofs.Taken.{Taken, wrote_one, wrote_none, taken}

write_snoc : (rs : List (List ℕ)) (log : List ℕ) (q : ℕ) (xs : List ℕ)
    → write_all log q (rs ++ (xs ∷ [])) ≡ put (write_all log q rs) (place_all q rs) (record_bytes (place_all q rs) xs)
unfolding write_all place_all
write_snoc [] log q xs = refl
write_snoc (ys ∷ rs) log q xs = write_snoc rs (put log q (record_bytes q ys)) (place_after q ys) xs

formed_append : (rs : List Record) (r : Record) → Formed rs → WellFormed r → Formed (rs ++ (r ∷ []))
formed_append [] r a b = (b, tt)
formed_append (q ∷ rs) r a b = (a.0, formed_append rs r a.1 b)

-- the records ls were written into the log one after the other from q on, and replayed from qs on they give the queues
pub record Going (log : List ℕ) (q n : ℕ) (m : Capacities) (qs : List Queue) (s : State) (ls : List Listed) : Type 0 where
  pub log_is : s.log ≡ write_all log q (encodings ls)
  pub place_is : s.place ≡ place_all q (encodings ls)
  pub room : place_all q (encodings ls) ≤ n * 32768
  pub size : blocks s.log ≡ n
  pub same_length : length s.log ≡ length log
  pub formed : Formed (records_of ls)
  pub owns : Owns q ls
  pub sound : s.arranged ≡ true
  pub same_room : s.capacities ≡ m
  pub replayed : replay_records m qs (placed_list ls) ≡ left s.queues

-- the machine, and what holds
pub record Gone (log : List ℕ) (q n : ℕ) (c : Capacities) (qs : List Queue) (s : State) (m : Machine) : Type 0 where
  pub list : List Listed
  pub machine_is : m ≡ machine_of s list
  pub going : Going log q n c qs s list

module _ (log : List ℕ) (q n : ℕ) (c : Capacities) (qs₀ : List Queue) (arr : Arrangement c qs₀) where
  -- a record more
  one_more_lem : (s : State) (ls : List Listed) (g : Going log q n c qs₀ s ls) (r : Record) (qs : List Queue) → WellFormed r
      → place_after s.place (encode r) ≤ blocks s.log * 32768 → replay_record s.capacities s.queues (header_block s.place) r ≡ left qs
      → Going log q n c qs₀ (logged s r qs) (ls ++ (listed s r ∷ []))
  unfolding logged replay_records and_then place_all placed_list placed_of
  one_more_lem s ls g r qs f room e = record {
    log_is =
        ap₂ (λ (l : List ℕ) (i : ℕ). put l i (record_bytes i (encode r))) g.log_is g.place_is
        ∙ sym (write_snoc (encodings ls) log q (encode r)) ∙ ap (write_all log q) (sym snoc);
    place_is = there;
    room = omega (arith, there, g.size);
    size = omega (arith, long, g.size);
    same_length = long ∙ g.same_length;
    formed = subst Formed (sym (records_of_append ls (listed s r ∷ []))) (formed_append (records_of ls) r g.formed f);
    owns = owns_snoc q ls (listed s r) g.owns (ap (λ (i : ℕ). frames_of i (encode r)) g.place_is);
    sound = refl;
    same_room = g.same_room;
    replayed =
        ap (replay_records c qs₀) (placed_append ls (listed s r ∷ []) ∙ ap (λ (b : ℕ). placed_list ls ++ (placed b r ∷ [])) (first_listed s.place (encode r)))
        ∙ records-append c qs₀ (placed_list ls) (placed (header_block s.place) r ∷ [])
        ∙ ap (λ (o : Outcome). and_then o (λ (x : List Queue). replay_records c x (placed (header_block s.place) r ∷ []))) g.replayed
        ∙ ap (λ (o : Outcome). and_then o (λ (x : List Queue). replay_records c x []))
        (ap (λ (m : Capacities). replay_record m s.queues (header_block s.place) r) (sym g.same_room) ∙ e);
  }
    where
      snoc : encodings (ls ++ (listed s r ∷ [])) ≡ encodings ls ++ (encode r ∷ [])
      snoc = encodings_append ls (listed s r ∷ [])

      there : place_after s.place (encode r) ≡ place_all q (encodings (ls ++ (listed s r ∷ [])))
      there = ap (λ (i : ℕ). place_after i (encode r)) g.place_is ∙ sym (ap (place_all q) snoc ∙ place-append q (encodings ls) (encode r ∷ []))

      long : length (put s.log s.place (record_bytes s.place (encode r))) ≡ length s.log
      long = length_put s.log s.place (record_bytes s.place (encode r)) (omega (arith, length_record s.place (encode r)))

  arranged : (s : State) (ls : List Listed) → Going log q n c qs₀ s ls → Arrangement s.capacities s.queues
  arranged s ls g = subst (λ (m : Capacities). Arrangement m s.queues) (sym g.same_room) (records-arranged c qs₀ s.queues (placed_list ls) (subst Formed (sym (bare_list ls)) g.formed) arr g.replayed)

  -- a call that is done
  on_done : (s x : State) (ls : List Listed) (go : List Listed → Machine) → Going log q n c qs₀ s ls → Taken s x go → Gone log q n c qs₀ x (go ls)
  on_done s x ls go g (wrote_one r qs fits f w e xe me) =
      subst (λ (y : State). Gone log q n c qs₀ y (go ls)) (sym xe)
      (record { list = ls ++ (listed s r ∷ []); machine_is = me ls ∙ (unfold puts logged in refl); going = one_more_lem s ls g r qs f w.in_log e })
  on_done s x ls go g (wrote_none xe me) = subst (λ (y : State). Gone log q n c qs₀ y (go ls)) (sym xe) (record { list = ls; machine_is = me ls; going = g })

  -- a call, refused or not
  step_by_lem : (s : State) (m : Machine) → Gone log q n c qs₀ s m → (k : Call) → Typed k → (i : ℕ) → refusal_of s k ≡ i
      → Gone log q n c qs₀ (returned_by i s (done_of s k)).state (cond (was_refused (returned_by i s (done_of s k)).answer) m (machine_call m k))
  unfolding returned_by
  step_by_lem s m w k t zero z =
      subst (λ (i : ℕ). Gone log q n c qs₀ (done_of s k).state (cond (not (eqb i 0)) m (machine_call m k))) (sym (done_zero s k))
      (subst (λ (x : Machine). Gone log q n c qs₀ (done_of s k).state (machine_call x k)) (sym w.machine_is)
      (on_done s (done_of s k).state w.list (λ ms. machine_call (machine_of s ms) k) w.going (taken s (arranged s w.list w.going) w.going.sound k t z)))
  step_by_lem s m w k t (suc i) z =
      subst (λ (b : Bool). Gone log q n c qs₀ s (cond (not b) m (machine_call m k))) (sym (ne_eqb (suc i) 0 (λ p. omega arith))) w

  pub follows_on : (s₀ : State) (m₀ : Machine) → Gone log q n c qs₀ s₀ m₀ → {h : List Fed} {s : State} → StatesSince s₀ h s → Gone log q n c qs₀ s (machine_from m₀ h)
  unfolding machine_from call_of
  follows_on s₀ m₀ w none = w
  follows_on s₀ m₀ w (call {h} {s} k a s' r t e f) =
      subst (λ (x : State). Gone log q n c qs₀ x (cond (was_refused a) (machine_from m₀ h) (machine_call (machine_from m₀ h) k))) (sym f)
      (subst (λ (x : CallAnswer). Gone log q n c qs₀ (call_of s k).state (cond (was_refused x) (machine_from m₀ h) (machine_call (machine_from m₀ h) k))) (sym e)
      (step_by_lem s (machine_from m₀ h) (follows_on s₀ m₀ w r) k t (refusal_of s k) refl))
