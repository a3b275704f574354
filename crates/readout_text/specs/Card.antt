-- Definition (01, "Readout"; 02, Ticket 11).
-- 01, "Readout": the text that is printed for the bytes of an input.
-- Assumes nothing.
use Rattle.std.specs.Prelude.{Bool, cond, ◌||◌, List, ◌++◌, ℕ, ltb, length}
use Rattle.queues.specs.Queues.{Capacities}
use Rattle.calls.specs.Replay.{Outcome, refused, left, Replayed, replay_call}
use Rattle.calls.specs.Desks.{marks_listed}
use Rattle.listing.specs.Listing.{shift_lines, listing, refusal}

-- "A refusal prints only `refused` and the number"; else the marks, "above the `queues` line", and what is listed, for a log of n bytes
unfoldable pub text_by : Outcome → List ℕ → ℕ → ℕ → ℕ → List ℕ
text_by (refused k) shifts lost resumed n = refusal k
text_by (left qs) shifts lost resumed n = shift_lines shifts ++ listing qs lost resumed n

-- `lost` is the sum of bytes over the reading: "It replaces the count of corruption answers" (02, Ticket 7)
unfoldable pub text_for : Replayed → List ℕ → ℕ → List ℕ
text_for x shifts n = text_by x.outcome shifts x.lost_bytes x.resumed n

-- the text for a log, with memory that can hold c and this many bytes of scratch; its marks "in log order"
unfoldable pub text_in : List ℕ → Capacities → ℕ → List ℕ
text_in log c limit = text_for (replay_call log c limit) (marks_listed log c limit) (length log)

-- "with 65,536 bytes of scratch, 64 queues, 1,024 records, 32,768 payload bytes and 32,768 name bytes"
abbrev pub readout_scratch : ℕ
readout_scratch = 65536

abbrev pub readout_room : Capacities
readout_room = record { queues = 64; names = 32768; records = 1024; payloads = 32768 }

unfoldable pub sized_text : List ℕ → List ℕ
sized_text input = text_in input readout_room readout_scratch

-- "a log of one or two blocks": "over 65,536 bytes of input is 1", and so is under one block
unfoldable pub not_sized : List ℕ → Bool
not_sized input = ltb (length input) 32768 || ltb 65536 (length input)

-- what `readout` prints for an input
unfoldable pub card_text : List ℕ → List ℕ
card_text input = cond (not_sized input) (refusal 1) (sized_text input)
