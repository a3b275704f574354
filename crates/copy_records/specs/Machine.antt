-- Definition (02, Ticket 1).
-- The plain machine as it stands after a copy: the copy's records with the frames that they own, the held queues and the copy's end. Calls go on from there.
-- Assumes nothing.
use Rattle.std.specs.Prelude.{List, [], ◌∷◌, ℕ}
use Rattle.recordlog.specs.Write.{frames_of, place_after}
use Rattle.record.specs.Record.{Record, encode}
use Rattle.queues.specs.Queues.{Queue}
use Rattle.calls.specs.Machine.{Listed, Machine}
use Rattle.copy_records.specs.Copy.{copy_records, copy_end}

-- records written one after the other, the first at place p, each with its frames
unfoldable pub listed_from : ℕ → List Record → List Listed
listed_from p [] = []
listed_from p (r ∷ rs) = record { written = r; frames = frames_of p (encode r) } ∷ listed_from (place_after p (encode r)) rs

abbrev pub copied_machine : List Queue → Machine
copied_machine qs = record { records = listed_from 0 (copy_records qs); queues = qs; place = copy_end qs }
