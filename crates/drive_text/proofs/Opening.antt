-- The lent memory that `drive` starts from, and the commands from there on.
-- Assumes nothing.
use mathlib.Core.Path.{◌≡◌, refl, sym, ap, subst, ◌∙◌}
use mathlib.Core.Bool.{Bool, true}
use mathlib.Core.List.{List, []}
use Prim.Native.Nat.{ℕ, ◌/◌, ◌≤◌, min}
use native.Mathlib.Omega.{arith}
use lib.ListN.{length}
use Rattle.slices.specs.Bytes.{zeros}
use Rattle.fields.specs.Le.{le}
use Rattle.queues.specs.declared.RecordEntry.{RecordEntry}
use Rattle.queues.specs.Queues.{Queue, Capacities}
use Rattle.queues.specs.Layout.{Memory, memory, meaning, capacities, queue_room, at_most64, Leaves}
use Rattle.queues.specs.Changes.{zero_words, table_emptied}
use Rattle.queues.proofs.Emptying.{emptied_means}
use Rattle.queues.proofs.Both.{both}
use Rattle.largest.specs.Table.{arranged_with}
use Rattle.largest.proofs.Table.{table_empty}
use Rattle.calls.specs.State.{State}
use Rattle.contracts.specs.Promises.{state_of}
use Rattle.abi_entries.specs.Packed.{room_in, unpacked}
use Rattle.abi_entries.proofs.Laws.{length-unpacked}
use Rattle.abi_queues.specs.Words.{words_in, words_from, words}
use Rattle.abi_largest.specs.Numbers.{numbers_in, numbers}
use Rattle.abi_largest.proofs.Numbers.{length-numbers}
use Rattle.abi_call.specs.OnBytes.{LentBytes, lent_bytes}
use Rattle.abi_tables.specs.Tables.{lent_in}
use Rattle.listing.proofs.Writes.{reads}
use Rattle.readout_text.specs.Card.{readout_room}
use Rattle.drive_calls.specs.Driven.{driven, opening}
use Rattle.drive_calls.specs.Internal.{lines_from, state_from}
use Rattle.drive_text.specs.Internal.{Ran, Drove}

abbrev made : List Queue → Bool → Capacities → ℕ → State
made qs a c n = record { log = zeros 65536; place = 0; queues = qs; arranged = a; capacities = c; scratch = n }

entries_long : (es : List ℕ) → length es ≡ 32768 → length (unpacked es) ≡ 1024
unfolding room_in
entries_long es e = length-unpacked es ∙ ap (λ (n : ℕ). min (n / 32) 1024) e

numbers_long : (ks : List ℕ) → length ks ≡ 8192 → length (numbers ks) ≡ 1024
unfolding numbers_in
numbers_long ks e = length-numbers ks ∙ ap (λ (n : ℕ). min (n / 8) 1024) e

-- a zeroed table of 1,568 bytes is one of 196 zero words
words-zero : words (zeros 1568) ≡ zeros 196
unfolding words words_in words_from le
words-zero = refl

table_zero : table_emptied (zeros 196) ≡ zeros 196
unfolding table_emptied zero_words
table_zero = refl

room : ℕ → ℕ → ℕ → Capacities
room n r p = record { queues = 64; names = n; records = r; payloads = p }

room_is : (ns ps : List ℕ) (es : List RecordEntry) → length ns ≡ 32768 → length ps ≡ 32768 → length es ≡ 1024 → capacities (memory ns ps es (zeros 196)) ≡ readout_room
unfolding capacities queue_room at_most64 room
room_is ns ps es a b c = ap (λ (n : ℕ). room n (length es) (length ps)) a ∙ ap (λ (r : ℕ). room 32768 r (length ps)) c ∙ ap (room 32768 1024) b

-- memory of `readout`'s sizes with a zeroed table of queues, whatever else it holds, means the state that the calls start from
pub opening_means : (scratch ns ps es ks : List ℕ) → length scratch ≡ 65536 → length ns ≡ 32768 → length ps ≡ 32768 → length es ≡ 32768 → length ks ≡ 8192
    → state_of (lent_in (lent_bytes (zeros 65536) 0 scratch ns ps es ks (zeros 1568))) ≡ opening
unfolding state_of
opening_means scratch ns ps es ks d a b c k =
    let us : List RecordEntry = unpacked es in
    let m : Memory = memory ns ps us (zeros 196) in
    let w : Leaves m m [] = subst (λ (t : List ℕ). Leaves m (memory ns ps us t) []) table_zero (emptied_means m) in
    let long : length us ≤ length (numbers ks) = omega (arith, entries_long es c, numbers_long ks k) in
    ap (λ (t : List ℕ). made (meaning (memory ns ps us t)) (arranged_with (memory ns ps us t) (numbers ks)) (capacities (memory ns ps us t)) (length scratch)) words-zero
    ∙ ap (λ (qs : List Queue). made qs (arranged_with m (numbers ks)) (capacities m) (length scratch)) w.means
    ∙ ap (λ (x : Bool). made [] x (capacities m) (length scratch)) (both w.still_arranged (table_empty m (numbers ks) w.still_arranged w.means long))
    ∙ ap (λ (x : Capacities). made [] true x (length scratch)) (room_is ns ps us a b (entries_long es c))
    ∙ ap (made [] true readout_room) d

pub drove : {input log scratch ns ps es ks log' out out' : List ℕ} {g' : LentBytes} {r : ℕ} → log ≡ zeros 65536
    → length scratch ≡ 65536 → length ns ≡ 32768 → length ps ≡ 32768 → length es ≡ 32768 → length ks ≡ 8192
    → g'.log ≡ log' → Ran input (lent_bytes log 0 scratch ns ps es ks (zeros 1568)) g' out 0 r out' → Drove input log' out r out'
unfolding state_of driven
drove {input} {log} {scratch} {ns} {ps} {es} {ks} {g' = g'} e d a b c k f w =
    let s : state_of (lent_in (lent_bytes log 0 scratch ns ps es ks (zeros 1568))) ≡ opening =
    ap (λ (l : List ℕ). state_of (lent_in (lent_bytes l 0 scratch ns ps es ks (zeros 1568)))) e ∙ opening_means scratch ns ps es ks d a b c k in
    record {
      lines = reads (ap (λ (x : State). lines_from x input) s) w.lines;
      log_left = sym f ∙ ap (λ (x : State). x.log) (w.state ∙ ap (λ (x : State). state_from x input) s);
    }
