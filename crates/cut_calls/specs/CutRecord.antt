-- Definition (02, "Ticket 6").
-- The record that was cut: what reading and replay give for it, in replay with its block (02, Ticket 10); and the plain machine from any queues and place on (02, Ticket 6).
-- Assumes nothing.
use Rattle.std.specs.Prelude.{cond, List, [], ◌∷◌, map, ℕ}
use Rattle.frame.specs.declared.Corruption.TheVariants.{WrongChecksum as wrong_checksum, UnknownType as unknown_type}
use Rattle.record.specs.Record.{Record, encode}
use Rattle.calls.specs.Reading.{ReadAnswer, gave_record, gave_corruption, lost_frame}
use Rattle.calls.specs.Placed.{Placed}
use Rattle.calls.specs.Machine.{Machine, Fed, machine_call}
use Rattle.cut.specs.Cut.{covered, Left, complete, headed, nothing, torn}

-- what reading gives for the record that was cut
unfoldable pub cut_answered : Left → Record → List ReadAnswer
cut_answered complete r = gave_record r ∷ []
cut_answered headed r = gave_corruption (lost_frame wrong_checksum) ∷ []
cut_answered nothing r = []
cut_answered (torn s) r = gave_corruption (lost_frame unknown_type) ∷ []

-- the record, where all its frames count as stored
unfoldable pub kept_of : Left → Placed → List Placed
kept_of complete r = r ∷ []
kept_of headed r = []
kept_of nothing r = []
kept_of (torn s) r = []

-- the plain machine from some queues and place on
unfoldable pub machine_from : Machine → List Fed → Machine
machine_from m [] = m
machine_from m (f ∷ h) = cond f.refused (machine_from m h) (machine_call (machine_from m h) f.asked)

-- what is read between the records before the cut and those written after reopening
unfoldable pub answered_after : ℕ → Left → Record → List Record → List ReadAnswer
answered_after n l r rs = cond (covered n l (map encode rs)) [] (cut_answered l r)
