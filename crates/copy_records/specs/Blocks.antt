-- Definition (02, Ticket 10).
-- The blocks that replaying a copy gives: each held record with "the block, counted from 0, in which its log record's first frame header stands" in the copy.
-- Assumes nothing.
use Rattle.std.specs.Prelude.{List, [], ◌∷◌, map, ℕ}
use Rattle.recordlog.specs.Write.{place_after}
use Rattle.recordlog.specs.Laid.{place_all}
use Rattle.recordlog.specs.Began.{header_block}
use Rattle.record.specs.Record.{touch, encode}
use Rattle.queues.specs.Queues.{Stored, stored, Queue, queue}
use Rattle.copy_records.specs.Copy.{append_of, queue_records}

-- the held records of a queue of this name, the first one's append record written at place p
unfoldable pub records_copied : ℕ → List ℕ → List Stored → List Stored
records_copied p n [] = []
records_copied p n (i ∷ is) = stored i.position i.payload (header_block p) ∷ records_copied (place_after p (encode (append_of n i))) n is

-- a queue, its touch written at place p
abbrev pub queue_copied : ℕ → Queue → Queue
queue_copied p q = queue q.name q.start (records_copied (place_after p (encode (touch q.start q.name))) q.name q.records)

-- queues, the records of the first one written from place p on
unfoldable pub queues_copied : ℕ → List Queue → List Queue
queues_copied p [] = []
queues_copied p (q ∷ qs) = queue_copied p q ∷ queues_copied (place_all p (map encode (queue_records q))) qs

abbrev pub copied_queues : List Queue → List Queue
copied_queues qs = queues_copied 0 qs
