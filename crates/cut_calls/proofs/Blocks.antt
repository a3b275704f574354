-- Within a queue the blocks of the held records never fall: along the replay of any log, and over every list of calls.
-- Assumes nothing.
use mathlib.Core.Path.{◌≡◌, refl, sym, subst}
use mathlib.Core.Bool.{Bool, true, false, cond, ◌&&◌}
use mathlib.Core.List.{List, [], ◌∷◌, ◌++◌}
use Prim.Native.Nat.{ℕ, zero, suc, ◌≤◌}
use native.Mathlib.Omega.{arith}
use lib.Dec.{leb, ltb, eqb}
use Rattle.recordlog.specs.Read.{resume}
use Rattle.recordlog.specs.Write.{place_after}
use Rattle.recordlog.specs.Began.{header_block}
use Rattle.recordlog.proofs.HeaderBlocks.{header_block_after}
use Rattle.record.specs.Record.{Item, Record, truncate, touch, delete, append, mark, encode}
use Rattle.queues.specs.Queues.{Stored, stored_item, stored_items, Queue, queue, next, append_item, append_items, items_above, truncate_when, truncate_queue, Found, missing, held, find, keep, without, truncate_found, Capacities}
use Rattle.queues.proofs.Both.{never}
use Rattle.queues.proofs.Walks.{EachQueue, each_found, each_keep, each_without}
use Rattle.calls.specs.State.{State, Call, create_call, delete_call, truncate_call, append_call, mark_call}
use Rattle.calls.specs.Payloads.{items_at, first_position, gives_empty}
use Rattle.calls.specs.Named.{append_found}
use Rattle.calls.specs.Refusals.{first_refusal, next_named, append_record, refusal_of}
use Rattle.calls.specs.Calls.{logged, wrote, create_done, delete_done, truncate_done, empty_answer, append_taking, append_done, marked, mark_done, done_of, returned_by, call_of}
use Rattle.calls.specs.Placed.{PlacedAnswer, placed_record, placed_corruption, placed_end, placed_refusal, placed_readings}
use Rattle.calls.specs.PlacedClaims.{Rising}
use Rattle.calls.specs.Replay.{Outcome, refused, left, unless, and_then, item_refusals, replay_items, replay_append, is_empty, replay_touch, replay_record, replay_answers, replay_of}
use Rattle.calls.specs.Machine.{Fed}
use Rattle.calls.specs.Run.{StatesRun, begin, call}
use Rattle.calls.proofs.Placed.{placed_rise}
use Rattle.cut_calls.specs.Claims.{reopened, StatesSince}
use Rattle.cut_calls.specs.Claims.{StatesSince.none as since_none, StatesSince.call as since_call}
use Rattle.cut_calls.specs.NeverFall.{NeverFall, BlocksNeverFall}
use Rattle.cut_calls.specs.Blocks.{StatesBlocksRise, StatesBlocksRiseRun}

-- ---- one queue's records

lower : (lo hi li : ℕ) (rs : List Stored) → NeverFall lo hi rs → li ≤ lo → NeverFall li hi rs
lower lo hi li [] h g = omega arith
lower lo hi li (r ∷ rs) h g = (omega (arith, h.0), h.1)

higher : (lo hi hj : ℕ) (rs : List Stored) → NeverFall lo hi rs → hi ≤ hj → NeverFall lo hj rs
higher lo hi hj [] h g = omega arith
higher lo hi hj (r ∷ rs) h g = (h.0, higher r.block hi hj rs h.1 g)

-- a record more, of the highest block
one_more : (lo hi : ℕ) (rs : List Stored) (r : Stored) → r.block ≡ hi → NeverFall lo hi rs → NeverFall lo hi (rs ++ (r ∷ []))
one_more lo hi [] r e h = (omega arith, omega arith)
one_more lo hi (x ∷ rs) r e h = (h.0, one_more x.block hi rs r e h.1)

-- some of them
above : (lo hi e : ℕ) (rs : List Stored) → NeverFall lo hi rs → NeverFall lo hi (items_above e rs)
unfolding items_above
above lo hi e [] h = h
above lo hi e (r ∷ rs) h = go (ltb e r.position) (above r.block hi e rs h.1)
  where
    go : (b : Bool) → NeverFall r.block hi (items_above e rs) → NeverFall lo hi (cond b (r ∷ items_above e rs) (items_above e rs))
    go true g = (h.0, g)
    go false g = lower r.block hi lo (items_above e rs) g h.0

-- ---- one queue

abbrev Risen : ℕ → Queue → Type 0
Risen hi q = NeverFall 0 hi q.records

new_risen : (hi : ℕ) (n : List ℕ) (p : ℕ) → Risen hi (queue n p [])
new_risen hi n p = omega arith

item_risen : (hi : ℕ) (q : Queue) (i : Stored) → i.block ≡ hi → Risen hi q → Risen hi (append_item q i)
unfolding append_item
item_risen hi q i e h = one_more 0 hi q.records i e h

items_risen : (hi : ℕ) (q : Queue) (is : List Item) → Risen hi q → Risen hi (append_items q (stored_items hi is))
unfolding append_items stored_items
items_risen hi q [] h = h
items_risen hi q (i ∷ is) h = items_risen hi (append_item q _) is (item_risen hi q _ refl h)

truncate_risen : (hi e : ℕ) (q : Queue) → Risen hi q → Risen hi (truncate_queue q e)
unfolding truncate_queue truncate_when
truncate_risen hi e q h = go (ltb e q.start) (leb (next q) (suc e))
  where
    go : (a b : Bool) → Risen hi (truncate_when a b q e)
    go true b = h
    go false true = omega arith
    go false false = above 0 hi e q.records h

-- ---- all queues

abbrev AllRisen : ℕ → List Queue → Type 0
AllRisen hi qs = EachQueue (Risen hi) qs

all_higher : (hi hj : ℕ) (qs : List Queue) → AllRisen hi qs → hi ≤ hj → AllRisen hj qs
all_higher hi hj [] h g = tt
all_higher hi hj (q ∷ qs) h g = (higher 0 hi hj q.records h.0 g, all_higher hi hj qs h.1 g)

truncated : (hi e : ℕ) (n : List ℕ) (qs : List Queue) → AllRisen hi qs → AllRisen hi (truncate_found e qs (find n qs))
unfolding truncate_found
truncated hi e n qs h = go (find n qs) refl
  where
    go : (f : Found) → find n qs ≡ f → AllRisen hi (truncate_found e qs f)
    go missing g = h
    go (held q) g = each_keep (Risen hi) (truncate_queue q e) qs (truncate_risen hi e q (each_found (Risen hi) n qs q h g)) h

appended : (hi : ℕ) (n : List ℕ) (is : List Item) (qs : List Queue) → AllRisen hi qs → AllRisen hi (append_found (stored_items hi is) qs (find n qs))
unfolding append_found
appended hi n is qs h = go (find n qs) refl
  where
    go : (f : Found) → find n qs ≡ f → AllRisen hi (append_found (stored_items hi is) qs f)
    go missing g = h
    go (held q) g = each_keep (Risen hi) (append_items q (stored_items hi is)) qs (items_risen hi q is (each_found (Risen hi) n qs q h g)) h

-- ---- replay

left_risen : (hi : ℕ) (qs qs' : List Queue) → left qs ≡ left qs' → AllRisen hi qs → AllRisen hi qs'
left_risen hi qs qs' e h =
    let d : qs ≡ qs' = cc in
    subst (AllRisen hi) d h

unless_risen : (hi : ℕ) (qs' : List Queue) (n : ℕ) (go : Outcome) → (go ≡ left qs' → AllRisen hi qs') → unless n go ≡ left qs' → AllRisen hi qs'
unfolding unless
unless_risen hi qs' zero go f e = f e
unless_risen hi qs' (suc n) go f e = never (cc)

-- a record of block hi
module _ (hi : ℕ) (c : Capacities) (qs' : List Queue) where
  items_replayed : (qs : List Queue) (q : Queue) (is : List Item) → Risen hi q → AllRisen hi qs → replay_items c qs q (stored_items hi is) ≡ left qs' → AllRisen hi qs'
  unfolding replay_items stored_items
  items_replayed qs q [] r h e = left_risen hi qs qs' e h
  items_replayed qs q (i ∷ is) r h e =
      let x : Stored = stored_item hi i in
      let w : Risen hi (append_item q x) = item_risen hi q x refl r in
      unless_risen hi qs' (first_refusal (item_refusals c qs q x)) (replay_items c (keep (append_item q x) qs) (append_item q x) (stored_items hi is))
      (λ g. items_replayed (keep (append_item q x) qs) (append_item q x) is w (each_keep (Risen hi) (append_item q x) qs w h) g) e

  append_replayed : (qs : List Queue) (p : ℕ) (n : List ℕ) (is : List Item) → AllRisen hi qs → (f : Found) → find n qs ≡ f → replay_append c qs p n (stored_items hi is) f ≡ left qs'
      → AllRisen hi qs'
  unfolding replay_append
  append_replayed qs p n is h missing g e =
      unless_risen hi qs' _ _
      (λ d. items_replayed (keep (queue n p []) qs) (queue n p []) is (new_risen hi n p) (each_keep (Risen hi) (queue n p []) qs (new_risen hi n p) h) d) e
  append_replayed qs p n is h (held q) g e = items_replayed qs q is (each_found (Risen hi) n qs q h g) h e

  touch_replayed : (qs : List Queue) (p : ℕ) (n : List ℕ) → AllRisen hi qs → (f : Found) → replay_touch c qs p n f ≡ left qs' → AllRisen hi qs'
  unfolding replay_touch
  touch_replayed qs p n h missing e =
      unless_risen hi qs' _ _ (λ d. left_risen hi (keep (queue n p []) qs) qs' d (each_keep (Risen hi) (queue n p []) qs (new_risen hi n p) h)) e
  touch_replayed qs p n h (held q) e = go (is_empty q.records && eqb (next q) p) e
    where
      go : (b : Bool) → left (cond b qs (keep (queue n p []) qs)) ≡ left qs' → AllRisen hi qs'
      go true d = left_risen hi qs qs' d h
      go false d = left_risen hi (keep (queue n p []) qs) qs' d (each_keep (Risen hi) (queue n p []) qs (new_risen hi n p) h)

  record_replayed : (qs : List Queue) (r : Record) → AllRisen hi qs → replay_record c qs hi r ≡ left qs' → AllRisen hi qs'
  unfolding replay_record
  record_replayed qs (truncate p n) h e = unless_risen hi qs' _ _ (λ d. left_risen hi _ qs' d (truncated hi p n qs h)) e
  record_replayed qs (touch p n) h e = touch_replayed qs p n h (find n qs) e
  record_replayed qs (delete p n) h e = left_risen hi (without n qs) qs' e (each_without (Risen hi) n qs h)
  record_replayed qs (append p n is) h e = append_replayed qs p n is h (find n qs) refl e
  record_replayed qs (mark n body) h e = left_risen hi qs qs' e h

then_risen : (hi : ℕ) (qs' : List Queue) (o : Outcome) (go : List Queue → Outcome) → ((qs : List Queue) → o ≡ left qs → go qs ≡ left qs' → AllRisen hi qs') → and_then o go ≡ left qs' → AllRisen hi qs'
unfolding and_then
then_risen hi qs' (refused n) go f e = never (cc)
then_risen hi qs' (left qs) go f e = f qs refl e

rises_to : (lo hi : ℕ) (xs : List PlacedAnswer) → Rising lo hi xs → lo ≤ hi
rises_to lo hi [] r = r
rises_to lo hi (placed_record x ∷ xs) r = omega (arith, r.0, rises_to x.block hi xs r.1)
rises_to lo hi (placed_corruption l ∷ xs) r = rises_to lo hi xs r
rises_to lo hi (placed_end ∷ xs) r = rises_to lo hi xs r
rises_to lo hi (placed_refusal n ∷ xs) r = rises_to lo hi xs r

answers_replayed : (c : Capacities) (lo hi : ℕ) (xs : List PlacedAnswer) (qs qs' : List Queue) → Rising lo hi xs → AllRisen lo qs → replay_answers c qs xs ≡ left qs' → AllRisen hi qs'
unfolding replay_answers
answers_replayed c lo hi [] qs qs' r h e = left_risen hi qs qs' e (all_higher lo hi qs h r)
answers_replayed c lo hi (placed_record x ∷ xs) qs qs' r h e =
    then_risen hi qs' (replay_record c qs x.block x.written) (λ (y : List Queue). replay_answers c y xs)
    (λ y d g. answers_replayed c x.block hi xs y qs' r.1 (record_replayed x.block c y qs x.written (all_higher lo x.block qs h r.0) d) g) e
answers_replayed c lo hi (placed_corruption l ∷ xs) qs qs' r h e = answers_replayed c lo hi xs qs qs' r h e
answers_replayed c lo hi (placed_end ∷ xs) qs qs' r h e = left_risen hi qs qs' e (all_higher lo hi qs h (rises_to lo hi xs r))
answers_replayed c lo hi (placed_refusal n ∷ xs) qs qs' r h e = never (cc)

replayed : (log : List ℕ) (m : Capacities) (qs : List Queue) (limit : ℕ) → replay_of log m limit ≡ left qs → AllRisen (header_block (resume log limit)) qs
unfolding replay_of
replayed log m qs limit e = answers_replayed m 0 (header_block (resume log limit)) (placed_readings log limit) [] qs (placed_rise log limit) tt e

-- ---- calls

abbrev Held : State → Type 0
Held s = AllRisen (header_block s.place) s.queues

-- a record written
written : (s : State) (r : Record) (qs : List Queue) → AllRisen (header_block s.place) qs → Held (logged s r qs)
unfolding logged
written s r qs h = all_higher (header_block s.place) (header_block (place_after s.place (encode r))) qs h (header_block_after s.place (encode r))

append_held : (s : State) (n : List ℕ) (p : ℕ) (run ks : List ℕ) (b : Bool) → Held s → Held (cond b (empty_answer s) (append_taking s n p run ks)).state
unfolding empty_answer append_taking wrote
append_held s n p run ks true h = h
append_held s n p run ks false h =
    written s (append_record n p run ks) _ (appended (header_block s.place) n (items_at p run ks) s.queues h)

done_held : (s : State) (k : Call) → Held s → Held (done_of s k).state
unfolding done_of create_done delete_done truncate_done append_done mark_done wrote marked
done_held s (create_call n) h = written s _ _ (each_keep (Risen (header_block s.place)) (queue n 0 []) s.queues (new_risen (header_block s.place) n 0) h)
done_held s (delete_call n) h = written s _ _ (each_without (Risen (header_block s.place)) n s.queues h)
done_held s (truncate_call n e) h = written s _ _ (truncated (header_block s.place) e n s.queues h)
done_held s (append_call n a run ks) h = append_held s n (first_position a (next_named s n)) run ks (gives_empty a (next_named s n) ks) h
done_held s (mark_call n body) h =
    all_higher (header_block s.place) (header_block (place_after s.place (encode (mark n body)))) s.queues h (header_block_after s.place (encode (mark n body)))

call_held : (s : State) (k : Call) → Held s → Held (call_of s k).state
unfolding call_of returned_by
call_held s k h = go (refusal_of s k)
  where
    go : (i : ℕ) → Held (returned_by i s (done_of s k)).state
    go zero = done_held s k h
    go (suc i) = h

since_held : (s₀ : State) → Held s₀ → {h : List Fed} {s : State} → StatesSince s₀ h s → Held s
since_held s₀ w since_none = w
since_held s₀ w (since_call {h} {s} k a s' r t e f) = subst Held (sym f) (call_held s k (since_held s₀ w r))

run_held : {h : List Fed} {s : State} → StatesRun h s → Held s
run_held (begin n tail c scratch a b l) = tt
run_held (call {h} {s} k a s' r t e f) = subst Held (sym f) (call_held s k (run_held r))

each_is : (hi : ℕ) (qs : List Queue) → AllRisen hi qs → BlocksNeverFall hi qs
each_is hi [] h = tt
each_is hi (q ∷ qs) h = (h.0, each_is hi qs h.1)

pub states_blocks_rise : StatesBlocksRise
states_blocks_rise log m qs limit e h s since = each_is (header_block s.place) s.queues (since_held (reopened log m qs limit) (replayed log m qs limit e) since)

pub states_blocks_rise_run : StatesBlocksRiseRun
states_blocks_rise_run h s run = each_is (header_block s.place) s.queues (run_held run)
