-- Payload bytes accepted and gone, computed over a list of calls.
-- Assumes nothing.
use mathlib.Core.Path.{◌≡◌, refl}
use mathlib.Core.Bool.{true, false}
use mathlib.Core.List.{List, [], ◌∷◌}
use Prim.Native.Nat.{ℕ}
use Rattle.slices.specs.Order.{order, order_by}
use Rattle.queues.specs.Queues.{stored_items, find, find_on, keep, keep_on, start_with, append_item, next, next_from, payloads_of, truncate_found, truncate_queue, truncate_when, items_above, append_items, no_position}
use Rattle.calls.specs.State.{Call, create_call, delete_call, truncate_call, append_call}
use Rattle.calls.specs.Payloads.{items_at, first_position, is_just_before, no_payloads, gives_empty}
use Rattle.calls.specs.Named.{next_of, append_found}
use Rattle.calls.specs.Machine.{Fed, puts, puts_append, machine_call, machine}
use Rattle.largest_contracts.specs.Balance.{items_through, records_leaving_when, records_leaving, evicted_bytes, held_bytes, gone_by, accepted_by, gone, accepted}

abbrev fed : Call → Fed
fed k = record { asked = k; refused = false }

abbrev name : List ℕ
name = 97 ∷ []

-- three and two bytes come in; the first record is evicted, an append is refused
abbrev so_far : List Fed
so_far =
    record { asked = append_call name no_position (9 ∷ []) (1 ∷ []); refused = true }
    ∷ fed (truncate_call name 0)
    ∷ fed (append_call name no_position (1 ∷ 2 ∷ 3 ∷ 4 ∷ 5 ∷ []) (3 ∷ 2 ∷ []))
    ∷ fed (create_call name)
    ∷ []

pub came_in : accepted so_far ≡ 5
unfolding accepted accepted_by gives_empty no_payloads is_just_before machine machine_call puts find keep order next_of next next_from
came_in = refl

pub left : gone so_far ≡ 3
unfolding gone gone_by evicted_bytes records_leaving records_leaving_when items_through payloads_of machine machine_call puts puts_append append_found append_items stored_items items_at first_position gives_empty no_payloads is_just_before find find_on keep keep_on order order_by next_of next next_from append_item start_with
left = refl

pub deleted : gone (fed (delete_call name) ∷ so_far) ≡ 5
unfolding gone gone_by evicted_bytes held_bytes records_leaving records_leaving_when items_through payloads_of machine machine_call puts puts_append append_found append_items stored_items items_at first_position gives_empty no_payloads is_just_before find find_on keep keep_on order order_by next_of next next_from append_item start_with truncate_found truncate_queue truncate_when items_above
deleted = refl
