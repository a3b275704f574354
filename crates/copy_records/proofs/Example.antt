-- The example, computed.
-- Assumes nothing.
use mathlib.Core.Path.{refl}
use Rattle.fields.specs.Le.{le_bytes}
use Rattle.frame.specs.Block.{padding_when, padding, space}
use Rattle.recordlog.specs.Write.{frame_type, split_on, split, split_from, frames_at, fill, frames_of, num_frame_bytes, num_padding_bytes, num_bytes_written, place_after}
use Rattle.recordlog.specs.Laid.{place_all}
use Rattle.recordlog.specs.Began.{block_of}
use Rattle.record.specs.Record.{head_bytes, item_bytes, items_bytes, encode}
use Rattle.slices.specs.Order.{order, order_by}
use Rattle.queues.specs.Queues.{stored_items, next_from, next, start_with, append_item, find_on, find, keep_on, keep, name_bytes, record_count, payloads_of, payload_bytes, queue_fits, records_fit}
use Rattle.calls.specs.Refusals.{refuse_if, first_refusal, is_last_number}
use Rattle.calls.specs.PlacedList.{frames_block, placed_of, placed_list}
use Rattle.calls.specs.Replay.{unless, and_then, position_illegal, item_refusals, replay_items, new_refusals, replay_append, is_empty, replay_touch, replay_record, replay_records}
use Rattle.copy_records.specs.Copy.{appends_of, queue_records, copy_records, copy_end}
use Rattle.copy_records.specs.Machine.{listed_from}
use Rattle.copy_records.specs.Claims.{CopyExample, CopyNeeds}

pub copy_example : CopyExample
unfolding le_bytes padding_when padding space frame_type split_on split split_from frames_at num_frame_bytes num_padding_bytes num_bytes_written place_after place_all head_bytes item_bytes items_bytes encode appends_of queue_records copy_records copy_end
copy_example = record { records = refl; end = refl }

pub copy_needs : CopyNeeds
unfolding le_bytes padding_when padding space frame_type split_on split split_from frames_at fill frames_of num_frame_bytes num_padding_bytes num_bytes_written place_after block_of head_bytes item_bytes items_bytes encode frames_block placed_of placed_list listed_from stored_items order order_by next_from next start_with append_item find_on find keep_on keep name_bytes record_count payloads_of payload_bytes queue_fits records_fit refuse_if first_refusal is_last_number unless and_then position_illegal item_refusals replay_items new_refusals replay_append is_empty replay_touch replay_record replay_records appends_of queue_records copy_records
copy_needs = record { start_zero = refl; last_number = refl; out_of_order = refl; no_room = refl }
