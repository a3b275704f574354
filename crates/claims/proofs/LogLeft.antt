-- What a call leaves of the log, whatever it was lent: one record more at the write position, within the whole blocks, or the log as it was.
-- Assumes nothing.
use mathlib.Core.Path.{◌≡◌, refl, sym, ap, ap₂, subst, ◌∙◌}
use mathlib.Core.Bool.{Bool, true, false, cond, not, ◌||◌}
use mathlib.Core.List.{List, []}
use Prim.Native.Nat.{ℕ, zero, suc, ◌*◌, ◌≤◌}
use native.Mathlib.Omega.{arith}
use borrow.Author.Tests.{le-ltb}
use Rattle.slices.proofs.Put.{length_put, drop_put_behind}
use Rattle.frame.specs.Block.{blocks}
use Rattle.recordlog.specs.Write.{place_after, record_bytes}
use Rattle.recordlog.proofs.Frames.{length_record}
use Rattle.record.specs.Record.{Record, encode}
use Rattle.queues.specs.Queues.{Queue, Position}
use Rattle.calls.specs.State.{State, Call, create_call, delete_call, truncate_call, append_call, mark_call, Returned}
use Rattle.calls.specs.Payloads.{first_position, gives_empty}
use Rattle.calls.specs.Refusals.{next_named, refusals_of, refusal_of, state_not_arranged}
use Rattle.calls.specs.Calls.{logged, wrote, create_done, delete_done, truncate_done, empty_answer, append_taking, append_done, marked, mark_done, done_of, call_of}
use Rattle.calls.proofs.Passed.{create_passed, delete_passed, truncate_passed, AppendPassed, append-passed, mark_passed, state_taken}
use Rattle.calls.proofs.Done.{call_refused, call_done}
use Rattle.contracts.specs.Promises.{state_of}
use Rattle.claims.specs.Claims.{TailKept, CallKeepsTail}

-- x is what a call leaves of s
pub data LogLeft (s x : State) : Type 0 where
  one : (r : Record) (qs : List Queue) → place_after s.place (encode r) ≤ blocks s.log * 32768 → x ≡ logged s r qs → LogLeft s x
  mark : (r : Record) → place_after s.place (encode r) ≤ blocks s.log * 32768 → x ≡ marked s r → LogLeft s x
  none : x ≡ s → LogLeft s x

append_leaves : (s : State) (n : List ℕ) (a : Position) (run ks : List ℕ) → AppendPassed s n a run ks → (e : Bool) → gives_empty a (next_named s n) ks ≡ e
    → LogLeft s (cond e (empty_answer s) (append_taking s n (first_position a (next_named s n)) run ks)).state
unfolding empty_answer append_taking wrote
append_leaves s n a run ks p true e = none refl
append_leaves s n a run ks p false e = one _ _ (p.taking e).write.in_log refl

done_leaves : (s : State) (k : Call) → refusal_of s k ≡ 0 → LogLeft s (done_of s k).state
unfolding refusals_of done_of create_done delete_done truncate_done append_done mark_done wrote
done_leaves s (create_call n) e = one _ _ (create_passed s n e).write.in_log refl
done_leaves s (delete_call n) e = one _ _ (delete_passed s n e).write.in_log refl
done_leaves s (truncate_call n x) e = one _ _ (truncate_passed s n x e).write.in_log refl
done_leaves s (append_call n a run ks) e = append_leaves s n a run ks (append-passed s n a run ks e) (gives_empty a (next_named s n) ks) refl
done_leaves s (mark_call n body) e = mark _ (mark_passed s n body e).write.in_log refl

pub call_leaves : (s : State) (k : Call) → LogLeft s (call_of s k).state
call_leaves s k = go (refusal_of s k) refl
  where
    go : (i : ℕ) → refusal_of s k ≡ i → LogLeft s (call_of s k).state
    go zero e = subst (λ (x : Returned). LogLeft s x.state) (sym (call_done s k e)) (done_leaves s k e)
    go (suc i) e = none (ap (λ (x : Returned). x.state) (call_refused s k i e))

-- ---- the log's tail

module _ (s : State) (r : Record) (qs : List Queue) (h : place_after s.place (encode r) ≤ blocks s.log * 32768) where
  logged-tail : TailKept s.log (logged s r qs).log
  unfolding logged
  logged-tail =
      let e = length_record s.place (encode r) in
      record {
        same_length = length_put s.log s.place (record_bytes s.place (encode r)) (omega (arith, e));
        tail = drop_put_behind s.log s.place (record_bytes s.place (encode r)) (omega (arith, e)) (blocks s.log * 32768) (omega (arith, e));
      }

  marked-tail : TailKept s.log (marked s r).log
  unfolding marked logged
  marked-tail = logged-tail

  -- ---- 6

  marked-arranged : state_not_arranged s ≡ false → state_not_arranged (marked s r) ≡ false
  unfolding state_not_arranged marked
  marked-arranged a =
      ap₂ (λ (x y : Bool). not x || y) (state_taken s a).arranged (le-ltb (blocks (marked s r).log * 32768) (place_after s.place (encode r)) (omega (arith, marked-tail.same_length)))

  logged-arranged : state_not_arranged (logged s r qs) ≡ false
  unfolding state_not_arranged logged
  logged-arranged = le-ltb (blocks (logged s r qs).log * 32768) (place_after s.place (encode r)) (omega (arith, logged-tail.same_length))

left-tail : (s x : State) → LogLeft s x → TailKept s.log x.log
left-tail s x (one r qs h e) = subst (λ (y : State). TailKept s.log y.log) (sym e) (logged-tail s r qs h)
left-tail s x (mark r h e) = subst (λ (y : State). TailKept s.log y.log) (sym e) (marked-tail s r [] h)
left-tail s x (none e) = subst (λ (y : State). TailKept s.log y.log) (sym e) (record { same_length = refl; tail = refl })

pub left_arranged : (s x : State) → LogLeft s x → state_not_arranged s ≡ false → state_not_arranged x ≡ false
left_arranged s x (one r qs h e) a = ap state_not_arranged e ∙ logged-arranged s r qs h
left_arranged s x (mark r h e) a = ap state_not_arranged e ∙ marked-arranged s r [] h a
left_arranged s x (none e) a = ap state_not_arranged e ∙ a

pub call_keeps-tail : CallKeepsTail
unfolding state_of
call_keeps-tail l l' k a w =
    subst (TailKept l.log) (sym w.log_left) (left-tail (state_of l) (call_of (state_of l) k).state (call_leaves (state_of l) k))
