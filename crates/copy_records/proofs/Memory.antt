-- From the lent queue memory to the premises of the claims over its meaning.
-- Assumes nothing.
use mathlib.Core.Path.{◌≡◌, refl, subst, sym}
use mathlib.Core.Bool.{Bool, true, false, cond}
use mathlib.Core.List.{List, [], ◌∷◌}
use Prim.Native.Nat.{ℕ, zero, suc, ◌-◌, ◌/◌, ◌≤◌}
use native.Mathlib.Omega.{arith}
use lib.Dec.{leb, eqb}
use lib.ListN.{length, drop}
use Rattle.slices.specs.Bytes.{Bytes}
use Rattle.slices.proofs.Bytes.{take_bytes, drop_bytes}
use Rattle.queues.specs.declared.RecordEntry.{RecordEntry}
use Rattle.queues.specs.Queues.{Stored, stored, Capacities}
use Rattle.queues.specs.Layout.{words_for, Memory, Row, rows, Arrived, arrivals, items_of, held_entries, queues_from, meaning, arranged, at_most64, queue_room, capacities}
use Rattle.queues.proofs.Both.{and_left}
use Rattle.largest.specs.Table.{kept_true}
use Rattle.queues.proofs.ArrangedFacts.{arranged_arrangement}
use Rattle.queues.proofs.SumsHeld.{sums_mean}
use Rattle.calls.specs.Claims.{queues_arranged}
use Rattle.calls.proofs.Arranged.{arrangement_arranged}
use Rattle.copy_records.specs.Copy.{lent_of, copy_refusal}
use Rattle.copy_records.specs.Typed.{ItemsTyped, QueuesTyped}
use Rattle.copy_records.specs.Claims.{MemoryArranged, MemoryTyped, MemoryCopyReplays, MemoryCopyBlocks, MemoryCopiesEqual}
use Rattle.copy_records.proofs.Left.{copy_passed, states_copies_equal}
use Rattle.copy_records.proofs.Stands.{states_copy_replays, states_copy_blocks}

-- ---- room for the queues held

room_on : (b : Bool) (k n : ℕ) → leb 64 n ≡ b → k ≤ 64 → k ≤ n → k ≤ at_most64 b n
unfolding at_most64
room_on true k n e h l = h
room_on false k n e h l = l

in_room : (k n : ℕ) → k ≤ 64 → words_for k ≤ n → k ≤ queue_room n
unfolding queue_room words_for
in_room zero n h l = omega arith
in_room (suc k) n h l = room_on (leb 64 ((n - 4) / 3)) (suc k) ((n - 4) / 3) refl h (omega arith)

pub memory-arranged : MemoryArranged
unfolding capacities
memory-arranged m e =
    let a = arranged_arrangement m e in
    let s = sums_mean m e in
    arrangement_arranged (capacities m) (meaning m)
    (record {
      ordered = a.ordered;
      within = record {
        few = subst (λ (k : ℕ). k ≤ queue_room (length m.table)) (sym s.queues) (in_room _ (length m.table) a.few a.words_fit);
        names_fit = omega (arith, s.names, a.names_fit);
        records_fit = omega (arith, s.records, a.records_fit);
        payloads_fit = omega (arith, s.payloads, a.payloads_fit);
      };
    })

-- ---- payloads of bytes

abbrev ArrivalsTyped : List Arrived → Type 0
ArrivalsTyped [] = Unit {0}
ArrivalsTyped (a ∷ xs) = Bytes a.payload × ArrivalsTyped xs

arrivals_typed : (es : List RecordEntry) (ps : List ℕ) → Bytes ps → ArrivalsTyped (arrivals es ps)
unfolding arrivals
arrivals_typed [] ps b = tt
arrivals_typed (e ∷ es) ps b = (take_bytes e.length ps b, arrivals_typed es (drop e.length ps) (drop_bytes e.length ps b))

items_on : (b : Bool) (i : Stored) (is : List Stored) → Bytes i.payload → ItemsTyped is → ItemsTyped (cond b (i ∷ is) is)
items_on true i is p w = (p, w)
items_on false i is p w = w

items_typed : (k : ℕ) (xs : List Arrived) → ArrivalsTyped xs → ItemsTyped (items_of k xs)
unfolding items_of
items_typed k [] w = tt
items_typed k (a ∷ xs) w = items_on (eqb a.number k) (stored a.position a.payload a.block) (items_of k xs) w.0 (items_typed k xs w.1)

queues_typed : (k : ℕ) (rs : List Row) (ns : List ℕ) (xs : List Arrived) → ArrivalsTyped xs → QueuesTyped (queues_from k rs ns xs)
unfolding queues_from
queues_typed k [] ns xs w = tt
queues_typed k (r ∷ rs) ns xs w = (items_typed k xs w, queues_typed (suc k) rs (drop r.name_length ns) xs w)

pub memory_typed : MemoryTyped
unfolding meaning
memory_typed m b = queues_typed 0 (rows m.table) m.names (arrivals (held_entries m) m.payloads) (arrivals_typed (held_entries m) m.payloads b)

-- ---- the statements

copied_arranged : (target scratch : List ℕ) (m : Memory) (ks : List ℕ) → copy_refusal (lent_of target scratch m ks) ≡ 0
    → (c : Capacities) → c ≡ capacities m → queues_arranged c (meaning m) ≡ true
unfolding lent_of
copied_arranged target scratch m ks e c f =
    subst (λ (x : Capacities). queues_arranged x (meaning m) ≡ true) (sym f)
    (memory-arranged m (and_left (arranged m) (kept_true m ks) (copy_passed (lent_of target scratch m ks) e).is_arranged))

pub memory_copy_replays : MemoryCopyReplays
unfolding lent_of
memory_copy_replays target scratch m ks b e c f limit l =
    states_copy_replays (lent_of target scratch m ks) c e (copied_arranged target scratch m ks e c f) (memory_typed m b) limit (omega arith)

pub memory_copy_blocks : MemoryCopyBlocks
unfolding lent_of
memory_copy_blocks target scratch m ks b e c f limit l =
    states_copy_blocks (lent_of target scratch m ks) c e (copied_arranged target scratch m ks e c f) (memory_typed m b) limit (omega arith)

pub memory_copies_equal : MemoryCopiesEqual
unfolding lent_of
memory_copies_equal t₁ t₂ s₁ s₂ m₁ m₂ ks₁ ks₂ e f q l = states_copies_equal (lent_of t₁ s₁ m₁ ks₁) (lent_of t₂ s₂ m₂ ks₂) e f q l
