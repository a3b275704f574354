-- No mark is among a copy's records, and a new desk lists none.
-- Assumes nothing.
use mathlib.Core.Path.{◌≡◌, refl, ap, ◌∙◌}
use mathlib.Core.List.{List, [], ◌∷◌, ◌++◌}
use Prim.Native.Nat.{ℕ}
use Rattle.record.specs.Record.{Record}
use Rattle.queues.specs.Queues.{Stored}
use Rattle.calls.specs.Desks.{marks_in}
use Rattle.calls.specs.Marks.{shifts_of}
use Rattle.calls.proofs.Marks.{marks_given}
use Rattle.copy_records.specs.Copy.{appends_of, queue_records, copy_records}
use Rattle.copy_records.specs.Claims.{CopyCarriesNoMarks, StatesCopyListsNone}
use Rattle.copy_records.proofs.Left.{states_copy_reads}

appends_none : (n : List ℕ) (is : List Stored) (rs : List Record) → shifts_of (appends_of n is ++ rs) ≡ shifts_of rs
unfolding shifts_of appends_of
appends_none n [] rs = refl
appends_none n (i ∷ is) rs = appends_none n is rs

pub copy_carries_no_marks : CopyCarriesNoMarks
unfolding shifts_of queue_records copy_records
copy_carries_no_marks [] = refl
copy_carries_no_marks (q ∷ qs) = appends_none q.name q.records (copy_records qs) ∙ copy_carries_no_marks qs

pub states_copy_lists_none : StatesCopyListsNone
states_copy_lists_none s e o t limit h =
    ap marks_in (states_copy_reads s e o t limit h) ∙ marks_given (copy_records s.queues) ∙ copy_carries_no_marks s.queues
