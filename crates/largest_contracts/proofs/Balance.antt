-- Payload bytes held, gone and accepted, over every list of calls.
-- Assumes nothing.
use mathlib.Core.Path.{◌≡◌, refl, sym, ap, ◌∙◌}
use mathlib.Core.Bool.{Bool, true, false, cond, not, true≢false}
use mathlib.Core.List.{List, [], ◌∷◌}
use Prim.Native.Nat.{ℕ, zero, suc, ◌+◌}
use native.Mathlib.Omega.{arith}
use lib.Dec.{leb, ltb}
use lib.ListN.{length}
use borrow.Author.Tests.{ne_eqb}
use Rattle.recordlog.specs.Began.{header_block}
use Rattle.queues.specs.Queues.{Stored, stored_items, Queue, queue, next, items_above, truncate_when, truncate_queue, evicted, payloads_of, payload_bytes, Found, held, find, Position}
use Rattle.queues.specs.Queues.{truncate_found}
use Rattle.queues.proofs.Walks.{found_stands}
use Rattle.queues.proofs.Rising.{name_truncate}
use Rattle.queues.proofs.Sums.{sums-keep, sums_new, sums-without, bytes_appends}
use Rattle.calls.specs.State.{State, Call, create_call, delete_call, truncate_call, append_call, mark_call, CallAnswer, Returned}
use Rattle.calls.specs.Payloads.{items_at, first_position, gives_empty}
use Rattle.calls.specs.Named.{next_of, append_found}
use Rattle.calls.specs.Refusals.{first_refusal, create_refusals, delete_refusals, truncate_refusals, append_refusals, refusals_of, refusal_of}
use Rattle.calls.specs.Calls.{done_of, returned_by, call_of}
use Rattle.calls.specs.Machine.{Machine, Fed, puts, puts_append, machine_call, machine}
use Rattle.calls.specs.Run.{StatesRun, begin, call}
use Rattle.calls.specs.Machine.{was_refused}
use Rattle.calls.proofs.Passed.{create_passed, delete_passed, truncate_passed, append-passed}
use Rattle.calls.proofs.Items.{items_payloads}
use Rattle.calls.proofs.Runs.{states_machine_agrees}
use Rattle.largest_contracts.specs.Balance.{items_through, records_leaving_when, records_leaving, evicted_bytes, held_bytes, gone_by, accepted_by, gone, accepted}
use Rattle.largest_contracts.specs.Claims.{PayloadsBalance, LeavingCounted}

-- ---- what leaves and what stays

through_bytes_on : (b : Bool) (i : Stored) (is ls ks : List Stored) → payloads_of ls + payloads_of ks ≡ payloads_of is
    → payloads_of (cond b ls (i ∷ ls)) + payloads_of (cond b (i ∷ ks) ks) ≡ length i.payload + payloads_of is
unfolding payloads_of
through_bytes_on true i is ls ks h = omega arith
through_bytes_on false i is ls ks h = omega arith

through_bytes : (e : ℕ) (is : List Stored) → payloads_of (items_through e is) + payloads_of (items_above e is) ≡ payloads_of is
unfolding items_through items_above payloads_of
through_bytes e [] = refl
through_bytes e (i ∷ is) = through_bytes_on (ltb e i.position) i is (items_through e is) (items_above e is) (through_bytes e is)

through_count_on : (b : Bool) (i : Stored) (is ls ks : List Stored) → length ls + length ks ≡ length is
    → length (cond b ls (i ∷ ls)) + length (cond b (i ∷ ks) ks) ≡ suc (length is)
through_count_on true i is ls ks h = omega arith
through_count_on false i is ls ks h = omega arith

through_count : (e : ℕ) (is : List Stored) → length (items_through e is) + length (items_above e is) ≡ length is
unfolding items_through items_above
through_count e [] = refl
through_count e (i ∷ is) = through_count_on (ltb e i.position) i is (items_through e is) (items_above e is) (through_count e is)

leaving_bytes_on : (a b : Bool) (q : Queue) (e : ℕ) → payloads_of (records_leaving_when a b q e) + payloads_of (truncate_when a b q e).records ≡ payloads_of q.records
unfolding records_leaving_when truncate_when payloads_of
leaving_bytes_on true b q e = omega arith
leaving_bytes_on false true q e = omega arith
leaving_bytes_on false false q e = through_bytes e q.records

leaving_bytes : (q : Queue) (e : ℕ) → payloads_of (records_leaving q e) + payloads_of (truncate_queue q e).records ≡ payloads_of q.records
unfolding records_leaving truncate_queue
leaving_bytes q e = leaving_bytes_on (ltb e q.start) (leb (next q) (suc e)) q e

leaving_count_on : (a b : Bool) (q : Queue) (e : ℕ) → length (records_leaving_when a b q e) + length (truncate_when a b q e).records ≡ length q.records
unfolding records_leaving_when truncate_when
leaving_count_on true b q e = omega arith
leaving_count_on false true q e = omega arith
leaving_count_on false false q e = through_count e q.records

pub leaving-counted : LeavingCounted
unfolding records_leaving truncate_queue evicted
leaving-counted q e = omega (arith, leaving_count_on (ltb e q.start) (leb (next q) (suc e)) q e)

-- ---- one call that is not refused

module _ (m : Machine) (s : State) (same : m.queues ≡ s.queues) where
  create_balance : (n : List ℕ) → first_refusal (create_refusals s n) ≡ 0
      → payload_bytes (machine_call m (create_call n)).queues + gone_by m.queues (create_call n) ≡ payload_bytes m.queues + accepted_by m.queues (create_call n)
  unfolding machine_call puts gone_by accepted_by payloads_of
  create_balance n e =
      omega (arith, (sums_new m.queues (queue n 0 []) (ap (find n) same ∙ (create_passed s n e).is_missing)).payloads)

  delete_balance : (n : List ℕ) → first_refusal (delete_refusals s n) ≡ 0
      → payload_bytes (machine_call m (delete_call n)).queues + gone_by m.queues (delete_call n) ≡ payload_bytes m.queues + accepted_by m.queues (delete_call n)
  unfolding machine_call puts gone_by accepted_by held_bytes
  delete_balance n e =
      let w = (delete_passed s n e).named in
      let f : find n m.queues ≡ held w.queue = ap (find n) same ∙ w.is_held in
      omega (arith, (sums-without m.queues n w.queue f).payloads, ap held_bytes f)

  truncate_balance : (n : List ℕ) (x : ℕ) → first_refusal (truncate_refusals s n x) ≡ 0
      → payload_bytes (machine_call m (truncate_call n x)).queues + gone_by m.queues (truncate_call n x) ≡ payload_bytes m.queues + accepted_by m.queues (truncate_call n x)
  unfolding machine_call puts gone_by accepted_by evicted_bytes truncate_found
  truncate_balance n x e =
      let w = (truncate_passed s n x e).named in
      let q : Queue = w.queue in
      let f : find n m.queues ≡ held q = ap (find n) same ∙ w.is_held in
      omega (
        arith,
        (sums-keep m.queues q (truncate_queue q x) (name_truncate q x) (found_stands n m.queues q f)).payloads,
        leaving_bytes q x,
        ap (λ (y : Found). evicted_bytes y x) f,
        ap (λ (y : Found). payload_bytes (truncate_found x m.queues y)) f,
      )

  append_on : (n : List ℕ) (a : Position) (run ks : List ℕ) → first_refusal (append_refusals s n a run ks) ≡ 0 → (b : Bool)
      → payload_bytes (cond b m (puts_append m n (first_position a (next_of (find n m.queues))) (items_at (first_position a (next_of (find n m.queues))) run ks))).queues
      ≡ payload_bytes m.queues + cond b 0 (length run)
  unfolding puts_append puts append_found
  append_on n a run ks e true = omega arith
  append_on n a run ks e false =
      let p = append-passed s n a run ks e in
      let w = p.named in
      let q : Queue = w.queue in
      let o : ℕ = first_position a (next_of (find n m.queues)) in
      let b : ℕ = header_block m.place in
      let f : find n m.queues ≡ held q = ap (find n) same ∙ w.is_held in
      omega (
        arith,
        bytes_appends m.queues q (stored_items b (items_at o run ks)) (found_stands n m.queues q f),
        items_payloads b o run ks (omega (arith, p.payloads.all)),
        p.payloads.all,
        ap (λ (y : Found). payload_bytes (append_found (stored_items b (items_at o run ks)) m.queues y)) f,
      )

  append_balance : (n : List ℕ) (a : Position) (run ks : List ℕ) → first_refusal (append_refusals s n a run ks) ≡ 0
      → payload_bytes (machine_call m (append_call n a run ks)).queues + gone_by m.queues (append_call n a run ks) ≡ payload_bytes m.queues + accepted_by m.queues (append_call n a run ks)
  unfolding machine_call gone_by accepted_by
  append_balance n a run ks e = omega (arith, append_on n a run ks e (gives_empty a (next_of (find n m.queues)) ks))

  mark_balance : (n : ℕ) (body : List ℕ)
      → payload_bytes (machine_call m (mark_call n body)).queues + gone_by m.queues (mark_call n body) ≡ payload_bytes m.queues + accepted_by m.queues (mark_call n body)
  unfolding machine_call puts gone_by accepted_by
  mark_balance n body = refl

  call_balance : (k : Call) → refusal_of s k ≡ 0 → payload_bytes (machine_call m k).queues + gone_by m.queues k ≡ payload_bytes m.queues + accepted_by m.queues k
  unfolding refusals_of
  call_balance (create_call n) e = create_balance n e
  call_balance (delete_call n) e = delete_balance n e
  call_balance (truncate_call n x) e = truncate_balance n x e
  call_balance (append_call n a run ks) e = append_balance n a run ks e
  call_balance (mark_call n body) e = mark_balance n body

-- ---- a call that was not refused met no refusal

taken_by : (i : ℕ) (s : State) (d : Returned) → was_refused (returned_by i s d).answer ≡ false → i ≡ 0
unfolding returned_by
taken_by zero s d e = refl
taken_by (suc i) s d e = absurd (true≢false (sym (ap not (ne_eqb (suc i) 0 (λ q. omega arith))) ∙ e))

-- ---- every list of calls

balance_on : (h : List Fed) (s : State) (k : Call) (b : Bool) → (machine h).queues ≡ s.queues → (b ≡ false → refusal_of s k ≡ 0)
    → payload_bytes (machine h).queues + gone h ≡ accepted h
    → payload_bytes (cond b (machine h) (machine_call (machine h) k)).queues + cond b (gone h) (gone_by (machine h).queues k + gone h)
    ≡ cond b (accepted h) (accepted_by (machine h).queues k + accepted h)
balance_on h s k true same z rec = rec
balance_on h s k false same z rec = omega (arith, call_balance (machine h) s same k (z refl))

balance_call : (h : List Fed) (s : State) (k : Call) (a : CallAnswer) → StatesRun h s → a ≡ (call_of s k).answer → payload_bytes (machine h).queues + gone h ≡ accepted h
    → payload_bytes (machine (record { asked = k; refused = was_refused a } ∷ h)).queues + gone (record { asked = k; refused = was_refused a } ∷ h)
    ≡ accepted (record { asked = k; refused = was_refused a } ∷ h)
unfolding machine gone accepted call_of
balance_call h s k a r e rec =
    balance_on h s k (was_refused a) (states_machine_agrees h s r).queues (λ n. taken_by (refusal_of s k) s (done_of s k) (sym (ap was_refused e) ∙ n)) rec

balanced : {h : List Fed} {s : State} → StatesRun h s → payload_bytes (machine h).queues + gone h ≡ accepted h
unfolding machine gone accepted payload_bytes
balanced (begin n tail c scratch a b l) = refl
balanced (call {h} {s} k a s' r t e f) = balance_call h s k a r e (balanced r)

pub payloads_balance : PayloadsBalance
payloads_balance h s r = balanced r
