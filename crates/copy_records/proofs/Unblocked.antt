-- Block numbers decide nothing: what a record does to queues without block numbers is what it does to the queues, without block numbers.
-- Assumes nothing.
use mathlib.Core.Path.{◌≡◌, refl, sym, ap, ap₂, ◌∙◌}
use mathlib.Core.Bool.{Bool, true, false, cond, not, ◌&&◌, ◌||◌}
use mathlib.Core.List.{List, [], ◌∷◌, map}
use Prim.Native.Nat.{ℕ, zero, suc, ◌+◌}
use native.Mathlib.Omega.{arith}
use lib.Dec.{leb, ltb, eqb}
use lib.ListN.{length, length-map}
use Rattle.std.specs.declared.cmp.Ordering.{Ordering}
use Rattle.std.specs.declared.cmp.Ordering.TheVariants.{Less as below, Equal as same, Greater as above}
use Rattle.slices.specs.Order.{order}
use Rattle.utf8.specs.Utf8.{utf8}
use Rattle.record.specs.Record.{Item, Record, truncate, touch, delete, append, mark}
use Rattle.queues.specs.Queues.{max_position, Stored, stored_item, stored_items, Queue, queue, next, start_with, append_item, items_above, truncate_when, truncate_queue, Found, missing, held, find_on, find, keep_on, keep, without_on, without, truncate_found, name_bytes, record_count, payloads_of, payload_bytes, Capacities, queue_fits, records_fit, rising, start_true, queue_arranged, comes_first, in_order}
use Rattle.queues.specs.Unblocked.{unblocked_record, unblocked}
use Rattle.queues.proofs.Both.{never}
use Rattle.queues.proofs.Unblocked.{next_unblocked}
use Rattle.calls.specs.Refusals.{refuse, first_refusal, is_last_number}
use Rattle.calls.specs.Replay.{Outcome, refused, left, unless, position_illegal, item_refusals, replay_items, new_refusals, replay_append, is_empty, replay_touch, through_refusals, replay_record}
use Rattle.calls.specs.Unblocked.{unblocked_outcome}
use Rattle.calls.proofs.Follows.{map-append}
use Rattle.calls.proofs.Arranged.{Within, Arrangement}

-- ---- the three walks

unfoldable unblocked_found : Found → Found
unblocked_found missing = missing
unblocked_found (held q) = held (unblocked q)

find_bare_on : (o : Ordering) (q : Queue) (f : Found) → find_on o (unblocked q) (unblocked_found f) ≡ unblocked_found (find_on o q f)
unfolding find_on unblocked_found
find_bare_on below q f = refl
find_bare_on same q f = refl
find_bare_on above q f = refl

find_bare : (n : List ℕ) (qs : List Queue) → find n (map unblocked qs) ≡ unblocked_found (find n qs)
unfolding find unblocked_found
find_bare n [] = refl
find_bare n (q ∷ qs) = ap (find_on (order n q.name) (unblocked q)) (find_bare n qs) ∙ find_bare_on (order n q.name) q (find n qs)

keep_bare_on : (o : Ordering) (q r : Queue) (qs rest : List Queue)
    → keep_on o (unblocked q) (unblocked r) (map unblocked qs) (map unblocked rest) ≡ map unblocked (keep_on o q r qs rest)
unfolding keep_on
keep_bare_on below q r qs rest = refl
keep_bare_on same q r qs rest = refl
keep_bare_on above q r qs rest = refl

keep_bare : (q : Queue) (qs : List Queue) → keep (unblocked q) (map unblocked qs) ≡ map unblocked (keep q qs)
unfolding keep
keep_bare q [] = refl
keep_bare q (r ∷ qs) =
    ap (keep_on (order q.name r.name) (unblocked q) (unblocked r) (map unblocked qs)) (keep_bare q qs)
    ∙ keep_bare_on (order q.name r.name) q r qs (keep q qs)

without_bare_on : (o : Ordering) (r : Queue) (qs rest : List Queue) → without_on o (unblocked r) (map unblocked qs) (map unblocked rest) ≡ map unblocked (without_on o r qs rest)
unfolding without_on
without_bare_on below r qs rest = refl
without_bare_on same r qs rest = refl
without_bare_on above r qs rest = refl

without_bare : (n : List ℕ) (qs : List Queue) → without n (map unblocked qs) ≡ map unblocked (without n qs)
unfolding without
without_bare n [] = refl
without_bare n (r ∷ qs) =
    ap (without_on (order n r.name) (unblocked r) (map unblocked qs)) (without_bare n qs)
    ∙ without_bare_on (order n r.name) r qs (without n qs)

-- ---- one queue

start_bare : (s : ℕ) (is : List Stored) (p : ℕ) → start_with s (map unblocked_record is) p ≡ start_with s is p
unfolding start_with
start_bare zero [] p = refl
start_bare zero (i ∷ is) p = refl
start_bare (suc s) is p = refl

append_bare : (q : Queue) (i : Stored) → append_item (unblocked q) (unblocked_record i) ≡ unblocked (append_item q i)
unfolding append_item
append_bare q i = ap₂ (queue q.name) (start_bare q.start q.records i.position) (sym (map-append unblocked_record q.records (i ∷ [])))

above_on : (b : Bool) (i : Stored) (is : List Stored)
    → cond b (unblocked_record i ∷ map unblocked_record is) (map unblocked_record is) ≡ map unblocked_record (cond b (i ∷ is) is)
above_on true i is = refl
above_on false i is = refl

above_bare : (e : ℕ) (is : List Stored) → items_above e (map unblocked_record is) ≡ map unblocked_record (items_above e is)
unfolding items_above
above_bare e [] = refl
above_bare e (i ∷ is) =
    ap (λ (js : List Stored). cond (ltb e i.position) (unblocked_record i ∷ js) js) (above_bare e is) ∙ above_on (ltb e i.position) i (items_above e is)

truncate_on : (a b : Bool) (q : Queue) (e : ℕ) → truncate_when a b (unblocked q) e ≡ unblocked (truncate_when a b q e)
unfolding truncate_when
truncate_on true b q e = refl
truncate_on false true q e = refl
truncate_on false false q e = ap (queue q.name (suc e)) (above_bare e q.records)

truncate_bare : (q : Queue) (e : ℕ) → truncate_queue (unblocked q) e ≡ unblocked (truncate_queue q e)
unfolding truncate_queue
truncate_bare q e =
    ap (λ (n : ℕ). truncate_when (ltb e q.start) (leb n (suc e)) (unblocked q) e) (next_unblocked q)
    ∙ truncate_on (ltb e q.start) (leb (next q) (suc e)) q e

truncated_bare : (e : ℕ) (qs : List Queue) (f : Found) → truncate_found e (map unblocked qs) (unblocked_found f) ≡ map unblocked (truncate_found e qs f)
unfolding truncate_found unblocked_found
truncated_bare e qs missing = refl
truncated_bare e qs (held q) = ap (λ (x : Queue). keep x (map unblocked qs)) (truncate_bare q e) ∙ keep_bare (truncate_queue q e) qs

-- ---- the sums

names_bare : (qs : List Queue) → name_bytes (map unblocked qs) ≡ name_bytes qs
unfolding name_bytes
names_bare [] = refl
names_bare (q ∷ qs) = ap (◌+◌ (length q.name)) (names_bare qs)

count_bare : (qs : List Queue) → record_count (map unblocked qs) ≡ record_count qs
unfolding record_count
count_bare [] = refl
count_bare (q ∷ qs) = ap₂ ◌+◌ (length-map q.records unblocked_record) (count_bare qs)

payloads_bare : (is : List Stored) → payloads_of (map unblocked_record is) ≡ payloads_of is
unfolding payloads_of
payloads_bare [] = refl
payloads_bare (i ∷ is) = ap (◌+◌ (length i.payload)) (payloads_bare is)

bytes_bare : (qs : List Queue) → payload_bytes (map unblocked qs) ≡ payload_bytes qs
unfolding payload_bytes
bytes_bare [] = refl
bytes_bare (q ∷ qs) = ap₂ ◌+◌ (payloads_bare q.records) (bytes_bare qs)

module _ (c : Capacities) (qs : List Queue) where
  queue_fits_bare : (n : List ℕ) → queue_fits c (map unblocked qs) n ≡ queue_fits c qs n
  unfolding queue_fits
  queue_fits_bare n =
      ap₂ (λ (a b : ℕ). leb (suc a) c.queues && leb (b + length n) c.names) (length-map qs unblocked) (names_bare qs)

  records_fit_bare : (k b : ℕ) → records_fit c (map unblocked qs) k b ≡ records_fit c qs k b
  unfolding records_fit
  records_fit_bare k b =
      ap₂ (λ (x y : ℕ). leb (x + k) c.records && leb (y + b) c.payloads) (count_bare qs) (bytes_bare qs)

-- ---- replay of one record

unless_bare : (n : ℕ) (o : Outcome) → unless n (unblocked_outcome o) ≡ unblocked_outcome (unless n o)
unfolding unless unblocked_outcome
unless_bare zero o = refl
unless_bare (suc n) o = refl

items_bare : (c : Capacities) (qs : List Queue) (q : Queue) (is : List Stored)
    → replay_items c (map unblocked qs) (unblocked q) (map unblocked_record is) ≡ unblocked_outcome (replay_items c qs q is)
unfolding replay_items unblocked_outcome
items_bare c qs q [] = refl
items_bare c qs q (i ∷ is) =
    ap₂ unless met
    (ap₂ (λ (x : List Queue) (y : Queue). replay_items c x y (map unblocked_record is))
    (ap (λ (x : Queue). keep x (map unblocked qs)) (append_bare q i) ∙ keep_bare (append_item q i) qs) (append_bare q i)
    ∙ items_bare c (keep (append_item q i) qs) (append_item q i) is)
    ∙ unless_bare (first_refusal (item_refusals c qs q i)) (replay_items c (keep (append_item q i) qs) (append_item q i) is)
  where
    met : first_refusal (item_refusals c (map unblocked qs) (unblocked q) (unblocked_record i)) ≡ first_refusal (item_refusals c qs q i)
    met = unfold item_refusals position_illegal in
        ap₂ (λ (a : Bool) (n : ℕ). first_refusal (refuse 12 (not a) ∷ refuse 14 (ltb i.position n || is_last_number i.position) ∷ []))
        (records_fit_bare c qs 1 (length i.payload)) (next_unblocked q)

-- a queue made, where it fits
made_bare : (c : Capacities) (qs : List Queue) (n : List ℕ) (o o' : Outcome) → o' ≡ unblocked_outcome o
    → unless (first_refusal (new_refusals c (map unblocked qs) n)) o' ≡ unblocked_outcome (unless (first_refusal (new_refusals c qs n)) o)
unfolding new_refusals
made_bare c qs n o o' e =
    ap₂ (λ (a : Bool) (x : Outcome). unless (first_refusal (refuse 12 (not a) ∷ [])) x) (queue_fits_bare c qs n) e
    ∙ unless_bare (first_refusal (refuse 12 (not (queue_fits c qs n)) ∷ [])) o

append_bare_on : (c : Capacities) (qs : List Queue) (p : ℕ) (n : List ℕ) (is : List Stored) (f : Found)
    → replay_append c (map unblocked qs) p n (map unblocked_record is) (unblocked_found f) ≡ unblocked_outcome (replay_append c qs p n is f)
unfolding replay_append unblocked_found
append_bare_on c qs p n is missing =
    made_bare c qs n (replay_items c (keep (queue n p []) qs) (queue n p []) is) (replay_items c (keep (queue n p []) (map unblocked qs)) (queue n p []) (map unblocked_record is))
    (ap (λ (x : List Queue). replay_items c x (queue n p []) (map unblocked_record is)) (keep_bare (queue n p []) qs) ∙ items_bare c (keep (queue n p []) qs) (queue n p []) is)
append_bare_on c qs p n is (held q) = items_bare c qs q is

empty_bare : (is : List Stored) → is_empty (map unblocked_record is) ≡ is_empty is
unfolding is_empty
empty_bare [] = refl
empty_bare (i ∷ is) = refl

cond_bare : (b : Bool) (qs rs : List Queue) → cond b (map unblocked qs) (map unblocked rs) ≡ map unblocked (cond b qs rs)
cond_bare true qs rs = refl
cond_bare false qs rs = refl

touch_bare_on : (c : Capacities) (qs : List Queue) (p : ℕ) (n : List ℕ) (f : Found)
    → replay_touch c (map unblocked qs) p n (unblocked_found f) ≡ unblocked_outcome (replay_touch c qs p n f)
unfolding replay_touch unblocked_found unblocked_outcome
touch_bare_on c qs p n missing = made_bare c qs n (left (keep (queue n p []) qs)) (left (keep (queue n p []) (map unblocked qs))) (ap left (keep_bare (queue n p []) qs))
touch_bare_on c qs p n (held q) =
    ap left
    (ap₂ (λ (a : Bool) (m : ℕ). cond (a && eqb m p) (map unblocked qs) (keep (queue n p []) (map unblocked qs))) (empty_bare q.records) (next_unblocked q)
    ∙ ap (cond (is_empty q.records && eqb (next q) p) (map unblocked qs)) (keep_bare (queue n p []) qs)
    ∙ cond_bare (is_empty q.records && eqb (next q) p) qs (keep (queue n p []) qs))

items_in_no_block : (b : ℕ) (is : List Item) → stored_items 0 is ≡ map unblocked_record (stored_items b is)
unfolding stored_items
items_in_no_block b [] = refl
items_in_no_block b (i ∷ is) = ap (◌∷◌ (stored_item 0 i)) (items_in_no_block b is)

pub record_bare : (c : Capacities) (qs : List Queue) (b : ℕ) (r : Record) → replay_record c (map unblocked qs) 0 r ≡ unblocked_outcome (replay_record c qs b r)
unfolding replay_record unblocked_outcome
record_bare c qs b (truncate p n) =
    ap (λ (x : List Queue). unless (first_refusal (through_refusals p)) (left x))
    (ap (truncate_found p (map unblocked qs)) (find_bare n qs) ∙ truncated_bare p qs (find n qs))
    ∙ unless_bare (first_refusal (through_refusals p)) (left (truncate_found p qs (find n qs)))
record_bare c qs b (touch p n) = ap (replay_touch c (map unblocked qs) p n) (find_bare n qs) ∙ touch_bare_on c qs p n (find n qs)
record_bare c qs b (delete p n) = ap left (without_bare n qs)
record_bare c qs b (append p n is) =
    ap₂ (replay_append c (map unblocked qs) p n) (items_in_no_block b is) (find_bare n qs) ∙ append_bare_on c qs p n (stored_items b is) (find n qs)
record_bare c qs b (mark n body) = refl

-- ---- queues that are equal but for block numbers

-- an outcome that leaves queues equal to these but for block numbers
pub record Alike (o : Outcome) (qs : List Queue) : Type 0 where
  pub queues : List Queue
  pub left_is : o ≡ left queues
  pub same_but : map unblocked queues ≡ map unblocked qs

pub alike_on : (o : Outcome) (qs : List Queue) → unblocked_outcome o ≡ left (map unblocked qs) → Alike o qs
unfolding unblocked_outcome
alike_on (refused n) qs e = never (cc)
alike_on (left xs) qs e = record { queues = xs; left_is = refl; same_but = cc }

-- a record does the same to both
pub record_alike : (c : Capacities) (qs qs' xs : List Queue) (b : ℕ) (r : Record) → map unblocked qs' ≡ map unblocked qs → replay_record c qs b r ≡ left xs
    → Alike (replay_record c qs' b r) xs
unfolding unblocked_outcome
record_alike c qs qs' xs b r e h =
    alike_on (replay_record c qs' b r) xs
    (sym (record_bare c qs' b r) ∙ ap (λ (x : List Queue). replay_record c x 0 r) e ∙ record_bare c qs b r ∙ ap unblocked_outcome h)

-- ---- and one is arranged where the other is

rising_bare : (n : ℕ) (is : List Stored) → rising n (map unblocked_record is) ≡ rising n is
unfolding rising
rising_bare n [] = refl
rising_bare n (i ∷ is) = ap (λ (b : Bool). leb n i.position && (ltb i.position max_position && b)) (rising_bare (suc i.position) is)

start_true_bare : (s : ℕ) (is : List Stored) → start_true s (map unblocked_record is) ≡ start_true s is
unfolding start_true
start_true_bare (suc s) is = refl
start_true_bare zero [] = refl
start_true_bare zero (i ∷ is) = refl

-- so a start is true of both
pub start_true_alike : (s : ℕ) (is js : List Stored) → map unblocked_record js ≡ map unblocked_record is → start_true s is ≡ true → start_true s js ≡ true
start_true_alike s is js e h = sym (start_true_bare s js) ∙ ap (start_true s) e ∙ start_true_bare s is ∙ h

queue_arranged_bare : (q : Queue) → queue_arranged (unblocked q) ≡ queue_arranged q
unfolding queue_arranged
queue_arranged_bare q =
    ap₂ (λ (a b : Bool). leb (length q.name) 65535 && (utf8 q.name && (leb q.start max_position && (a && b))))
    (rising_bare q.start q.records) (start_true_bare q.start q.records)

first_bare : (n : List ℕ) (qs : List Queue) → comes_first n (map unblocked qs) ≡ comes_first n qs
unfolding comes_first
first_bare n [] = refl
first_bare n (r ∷ qs) = refl

order_bare : (qs : List Queue) → in_order (map unblocked qs) ≡ in_order qs
unfolding in_order
order_bare [] = refl
order_bare (q ∷ qs) =
    ap₂ ◌&&◌ (queue_arranged_bare q) (ap₂ ◌&&◌ (first_bare q.name qs) (order_bare qs))

module _ (c : Capacities) (qs qs' : List Queue) (e : map unblocked qs' ≡ map unblocked qs) where
  pub within_alike : Within c qs → Within c qs'
  within_alike w =
      record {
        few = omega (arith, w.few, ap length e, length-map qs unblocked, length-map qs' unblocked);
        names_fit = omega (arith, w.names_fit, ap name_bytes e, names_bare qs, names_bare qs');
        records_fit = omega (arith, w.records_fit, ap record_count e, count_bare qs, count_bare qs');
        payloads_fit = omega (arith, w.payloads_fit, ap payload_bytes e, bytes_bare qs, bytes_bare qs');
      }

  pub arranged_alike : Arrangement c qs → Arrangement c qs'
  arranged_alike a = record { ordered = sym (order_bare qs') ∙ ap in_order e ∙ order_bare qs ∙ a.ordered; within = within_alike a.within }
