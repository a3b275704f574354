-- The edges, computed.
-- Assumes nothing.
use mathlib.Core.Path.{refl}
use Rattle.fields.specs.Le.{le_bytes}
use Rattle.frame.specs.Block.{padding_when, padding, space}
use Rattle.recordlog.specs.Write.{frame_type, split_on, split, split_from, frames_at, num_frame_bytes, num_padding_bytes, num_bytes_written, place_after}
use Rattle.recordlog.specs.Laid.{place_all}
use Rattle.recordlog.specs.Began.{header_place, block_of, header_block}
use Rattle.record.specs.Record.{head_bytes, item_bytes, items_bytes, encode}
use Rattle.queues.specs.BlockClaims.{blocks_held}
use Rattle.calls.specs.Refusals.{refuse_if, first_refusal, log_refused}
use Rattle.copy_records.specs.Copy.{appends_of, queue_records, copy_records, copy_end, any_longer, copy_too_long, copy_refusals, copied_by, copy_of}
use Rattle.copy_records.specs.Blocks.{records_copied, queues_copied}
use Rattle.copy_records.specs.Claims.{CopyEdges, CopyBlockEdges}

pub copy_edges : CopyEdges
unfolding le_bytes padding_when padding space frame_type split_on split split_from frames_at num_frame_bytes num_padding_bytes num_bytes_written place_after place_all head_bytes item_bytes items_bytes encode refuse_if first_refusal log_refused appends_of queue_records copy_records copy_end any_longer copy_too_long copy_refusals copied_by copy_of
copy_edges = record { exactly_full = refl; exactly_ends = refl; too_short = refl; scratch_short = refl; both_short = refl; no_block = refl; nothing_held = refl; nothing_ends = refl }

pub copy_block_edges : CopyBlockEdges
unfolding le_bytes padding_when padding space frame_type split_on split split_from frames_at num_frame_bytes num_padding_bytes num_bytes_written place_after header_place block_of header_block head_bytes item_bytes items_bytes encode blocks_held records_copied queues_copied
copy_block_edges = record { fills = refl; seven_left = refl; six_left = refl }
