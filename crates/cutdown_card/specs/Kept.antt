-- Helper: for proofs; no promise rests on reading it.
-- What the functions between a card and its fresh one answer and leave.
-- Assumes nothing.
use Rattle.std.specs.Prelude.{◌≡◌, List, ℕ, length}
use Rattle.calls.specs.Replay.{Outcome, replay_of}
use Rattle.contracts.specs.Promises.{replay_lent}
use Rattle.copy_records.specs.Copy.{copied}
use Rattle.calls.specs.declared.Refusal.{Refusal}
use Rattle.abi_largest.specs.Numbers.{numbers}
use Rattle.abi_call.specs.OnBytes.{MemoryBytes}
use Rattle.abi_tables.specs.Tables.{memory_in}
use Rattle.readout_text.specs.Card.{readout_scratch, readout_room}
use Rattle.std.specs.Prelude.{Result}
use Rattle.cutdown_card.specs.declared.NotCut.{NotCut}
use Rattle.std.specs.Prelude.Result.{Ok, Err}
use Rattle.cutdown_card.specs.declared.NotCut.TheVariants.{Refused}
use Rattle.cutdown_card.specs.Cutdown.{Cut, cut_refused, cut_to, cut_into, cut_numbered, answered_by, CutTyped}

unfoldable pub copied_as : Result ℕ Refusal → ℕ → Result ℕ NotCut
copied_as (Ok end) n = Ok n
copied_as (Err r) n = Err (Refused r)

-- the copy in the target, or the target as it was
unfoldable pub into_by : List ℕ → Cut → List ℕ
into_by target (cut_refused k) = target
into_by target (cut_to qs) = copied target qs

-- what becomes of a card whose replay comes to an outcome, with a target and a scratch of `limit` bytes
pub record Into (o : Outcome) (limit : ℕ) (target : List ℕ) (r : Result ℕ NotCut) (target' : List ℕ) : Type 0 where
  pub typed : CutTyped (cut_into target limit o)
  pub answer : cut_numbered r ≡ answered_by (length target) (cut_into target limit o)
  pub target_left : target' ≡ into_by target (cut_into target limit o)

-- replay with the lent memory: 6 where the further table is shorter than the record table
abbrev pub CutIntoKept : List ℕ → List ℕ → MemoryBytes → List ℕ → Result ℕ NotCut → List ℕ → Type 0
CutIntoKept card scratch m target r target' = Into (replay_lent card (length scratch) (memory_in m) (numbers m.largest)).outcome (length scratch) target r target'

abbrev pub CutSizedKept : List ℕ → List ℕ → Result ℕ NotCut → List ℕ → Type 0
CutSizedKept card target r target' = Into (replay_of card readout_room readout_scratch) readout_scratch target r target'
