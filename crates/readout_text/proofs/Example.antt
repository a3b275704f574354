-- 01's example, computed from the bytes of the card to the text.
-- Assumes nothing.
use mathlib.Core.Path.{refl}
use Rattle.slices.specs.Order.{order_by, order}
use Rattle.fields.specs.Le.{le}
use Rattle.crc32.specs.Crc.{odd, step, run, bits_of, bits, crc32}
use Rattle.utf8.specs.Utf8.{among, grammar, begun, after, after_all, whole, utf8}
use Rattle.frame.specs.Frame.{type_when, type_of, begins, ends, all_zero}
use Rattle.frame.specs.Reader.{judge, look, must_move, moved, read_frame, used_of, used, ahead}
use Rattle.frame.specs.Size.{header_cursor, size_of, frame_size}
use Rattle.recordlog.specs.Lost.{take_up, weigh_tally, join_tally, on_tally, tallies, tally_from, tally_of}
use Rattle.recordlog.specs.Read.{gather_when, gather, weigh, join, on_frame, next, next_from, next_record, on_read, reads, reads_from, resume}
use Rattle.recordlog.specs.Began.{block_of, block_begun}
use Rattle.record.specs.Record.{also_item, front, items_by, items_from, items_in, append_of, by_type, has_head, decode}
use Rattle.queues.specs.Queues.{stored_items, next_from as next_from_of_queues, next as next_of_queues, start_with, append_item, find_on, find, keep_on, keep, name_bytes, record_count, payloads_of, payload_bytes, queue_fits, records_fit}
use Rattle.calls.specs.Refusals.{refuse_if, first_refusal, log_refused, is_last_number, reader_not_arranged, read_refusals}
use Rattle.calls.specs.Reading.{of_record, answer_of, read_by, read_record, read_on, read_times, readings_from, readings, lost_in}
use Rattle.calls.specs.Placed.{at_block, placed_on, placed_times, placed_from, placed_readings}
use Rattle.calls.specs.Lost.{undecoded, lost_of, on_sum, sum_reads, sum_from, sum_over, lost_bytes}
use Rattle.calls.specs.Desks.{marks_in, listed_by, marks_listed}
use Rattle.calls.specs.Replay.{unless, and_then, position_illegal, item_refusals, replay_items, new_refusals, replay_append, is_empty, replay_touch, replay_record, replay_answers, replay_of, replayed_by, replay_call}
use Rattle.listing.specs.Digits.{digit, hex_run, hex, decimal_in, decimal}
use Rattle.listing.specs.Listing.{numbered, number_line, shift_lines, head_line, queue_line, record_line, record_lines, queue_lines, whole_bytes, half_even, fill_tenths, fill_line, end_lines, listing}
use Rattle.readout_text.specs.Card.{text_by, text_for, text_in, sized_text, not_sized, card_text}
use Rattle.readout_text.specs.Claims.{CardExample}

pub card_example : CardExample
unfolding order_by order le odd step run bits_of bits crc32 among grammar begun after after_all whole utf8 type_when type_of begins ends all_zero judge look must_move moved read_frame used_of used ahead gather_when gather weigh join on_frame next next_from next_record on_read reads reads_from resume also_item front items_by items_from items_in append_of by_type has_head decode next_from_of_queues next_of_queues start_with append_item find_on find keep_on keep name_bytes record_count payloads_of payload_bytes queue_fits records_fit refuse_if first_refusal log_refused is_last_number reader_not_arranged read_refusals of_record answer_of read_by read_record read_on read_times readings_from readings at_block block_of block_begun placed_on placed_times placed_from placed_readings lost_in header_cursor size_of frame_size take_up weigh_tally join_tally on_tally tallies tally_from tally_of undecoded lost_of on_sum sum_reads sum_from sum_over lost_bytes unless and_then position_illegal item_refusals replay_items new_refusals replay_append is_empty replay_touch replay_record stored_items replay_answers replay_of replayed_by replay_call marks_in listed_by marks_listed digit hex_run hex decimal_in decimal numbered number_line shift_lines head_line queue_line record_line record_lines queue_lines whole_bytes half_even fill_tenths fill_line end_lines listing text_by text_for text_in sized_text not_sized card_text
card_example = refl
