-- Worked examples, computed from the bytes of the input to the text.
-- Assumes nothing.
use mathlib.Core.Path.{refl}
use Rattle.slices.specs.Order.{order_by, order}
use Rattle.slices.specs.Put.{put}
use Rattle.fields.specs.Le.{le, le_bytes}
use Rattle.crc32.specs.Crc.{odd, step, run, bits_of, bits, crc32}
use Rattle.utf8.specs.Utf8.{among, grammar, begun, after, after_all, whole, utf8}
use Rattle.frame.specs.Frame.{type_number, header_bytes, frame_bytes, type_when, type_of, begins, ends, all_zero}
use Rattle.frame.specs.Block.{padding_when, padding, space}
use Rattle.frame.specs.Reader.{judge, look, must_move, moved, read_frame, used_of, used, ahead}
use Rattle.recordlog.specs.Write.{frame_type, split_on, split, split_from, frames_at, num_frame_bytes, num_padding_bytes, num_bytes_written, fill, frames_of, bytes_of, record_bytes, place_after, has_room}
use Rattle.recordlog.specs.Began.{header_place, block_of, header_block}
use Rattle.recordlog.specs.Read.{gather_when, gather, weigh, join, on_frame, next, next_from, next_record, on_read, reads, reads_from, resume}
use Rattle.record.specs.Record.{head_bytes, item_bytes, items_bytes, encode, also_item, front, items_by, items_from, items_in, append_of, by_type, has_head, decode}
use Rattle.queues.specs.Queues.{stored_items, next_from as next_from_of_queues, next as next_of_queues, before_next, start_with, append_item, append_items, items_above, truncate_when, truncate_queue, evicted, find_on, find, is_held, keep_on, keep, without_on, without, name_bytes, record_count, payloads_of, payload_bytes, queue_fits, records_fit, truncate_found}
use Rattle.calls.specs.Payloads.{sum, items_at, first_position, is_past, is_just_before, no_payloads, gives_empty}
use Rattle.calls.specs.Named.{next_of, append_found, evicted_from}
use Rattle.calls.specs.Refusals.{refuse_if, first_refusal, log_refused, name_too_long, not_utf8, is_last_number, names_last_number, payloads_wrong, state_not_arranged, reader_not_arranged, read_refusals, name_held, takes_last_number, record_too_long, log_full, input_refusals, write_refusals, create_refusals, delete_refusals, truncate_refusals, taking_refusals, append_refusals, refusals_of}
use Rattle.calls.specs.Calls.{logged, wrote, create_done, delete_done, truncate_done, empty_answer, append_taking, append_done, done_of, returned_by, call_of}
use Rattle.listing.specs.Digits.{digit, hex_run, hex, decimal_in, decimal}
use Rattle.listing.specs.Listing.{numbered, number_line, head_line, queue_line, record_line, record_lines, queue_lines, whole_bytes, half_even, fill_tenths, fill_line, end_lines, listing, refusal}
use Rattle.drive_commands.specs.Commands.{trim_on, trimmed, name_in, number_in, payload_in, position_by, width, call_by, is_command, command_at}
use Rattle.drive_commands.specs.Lines.{position_text, told_of, counts_text, ok_line, line_by}
use Rattle.drive_calls.specs.Driven.{line_of, also_line, driven_on, driven_in, driven_from, driven, joined, listing_of, driven_text, too_long, drive_text}
use Rattle.drive_calls.specs.Examples.{Day, Names, Positions, Nothing, Lone, Edges}

-- all at once, so that what unfolds is listed once
computed : Day × (Names × (Positions × (Nothing × (Lone × Edges))))
unfolding order_by order put le le_bytes odd step run bits_of bits crc32 among grammar begun after after_all whole utf8 type_number header_bytes frame_bytes type_when type_of begins ends all_zero padding_when padding space judge look must_move moved read_frame used_of used ahead frame_type split_on split split_from frames_at num_frame_bytes num_padding_bytes num_bytes_written fill frames_of bytes_of record_bytes place_after header_place block_of header_block has_room gather_when gather weigh join on_frame next next_from next_record on_read reads reads_from resume head_bytes item_bytes items_bytes encode also_item front items_by items_from items_in append_of by_type has_head decode next_from_of_queues next_of_queues before_next start_with append_item append_items stored_items items_above truncate_when truncate_queue evicted find_on find is_held keep_on keep without_on without name_bytes record_count payloads_of payload_bytes queue_fits records_fit truncate_found sum items_at first_position is_past is_just_before no_payloads gives_empty next_of append_found evicted_from refuse_if first_refusal log_refused name_too_long not_utf8 is_last_number names_last_number payloads_wrong state_not_arranged reader_not_arranged read_refusals name_held takes_last_number record_too_long log_full input_refusals write_refusals create_refusals delete_refusals truncate_refusals taking_refusals append_refusals refusals_of logged wrote create_done delete_done truncate_done empty_answer append_taking append_done done_of returned_by call_of digit hex_run hex decimal_in decimal numbered number_line head_line queue_line record_line record_lines queue_lines whole_bytes half_even fill_tenths fill_line end_lines listing refusal trim_on trimmed name_in number_in payload_in position_by width call_by is_command command_at position_text told_of counts_text ok_line line_by line_of also_line driven_on driven_in driven_from driven joined listing_of driven_text too_long drive_text
computed = (refl, (refl, (refl, (refl, (refl, record { six_left = refl; one_left = refl; seven_left = refl; none_left = refl; full = refl })))))

pub day : Day
day = computed.0

pub names : Names
names = computed.1.0

pub positions : Positions
positions = computed.1.1.0

pub nothing : Nothing
nothing = computed.1.1.1.0

pub lone : Lone
lone = computed.1.1.1.1.0

pub edges : Edges
edges = computed.1.1.1.1.1
