-- Claim.
-- What is promised of a copy over the lent memory. Each claim is proved in proofs/ under its name in snake case.
-- Assumes nothing.
use Rattle.std.specs.Prelude.{Result, ◌≡◌, false, List, [], ◌∷◌, ◌++◌, map, ℕ, ◌*◌, length, take}
use Rattle.frame.specs.Block.{blocks}
use Rattle.frame.specs.Reader.{fresh}
use Rattle.queues.specs.Queues.{Queue}
use Rattle.queues.specs.Unblocked.{unblocked}
use Rattle.queues.specs.Layout.{Memory, meaning, capacities}
use Rattle.calls.specs.Refusals.{state_not_arranged}
use Rattle.calls.specs.Reading.{gave_record, gave_end}
use Rattle.calls.specs.Reading.{ReadAnswer as Given}
use Rattle.calls.specs.PlacedList.{placed_list}
use Rattle.calls.specs.Replay.{replay_records}
use Rattle.calls.specs.Machine.{Fed, records_of, NoneLonger}
use Rattle.calls.specs.declared.Refusal.{Refusal as RefusalOf}
use Rattle.read_step.specs.declared.Replayed.{Replayed as ReplayedAt}
use Rattle.contracts.specs.Promises.{Lent, state_of, ReplayKept}
use Rattle.contracts.specs.Run.{Reads}
use Rattle.contracts.specs.Demands.{Gives, ReplaysAs}
use Rattle.cut_calls.specs.CutRecord.{machine_from}
use Rattle.cut_contracts.specs.Claims.{Since}
use Rattle.copy_records.specs.Copy.{copy_records, copy_encoded, any_longer}
use Rattle.copy_records.specs.Machine.{copied_machine}
use Rattle.copy_records.specs.Blocks.{copied_queues}
use Rattle.copy_contracts.specs.Promises.{CopyKept}

-- a copy that was not refused, and where it ended
abbrev pub CopyDone : List ℕ → List ℕ → Memory → List ℕ → ℕ → List ℕ → List ℕ → Type 0
CopyDone target scratch m ks end target' scratch' = CopyKept target scratch m ks (record { refusal = 0; end = end }) target' scratch'

-- "Replaying it with the same lent sizes": what holds of every replay of a log in a scratch as long as this one, and in queue memory that can hold as much as this one,
-- with a further table as long as this one, whatever these hold; any answer and memory left that replay's contract allows
abbrev pub EachReplay : List ℕ → List ℕ → Memory → List ℕ → (Result ReplayedAt RefusalOf → Memory → Memory → Type 0) → Type 0
EachReplay log scratch m ks Holds = (again again' : List ℕ) (n n' : Memory) (js js' : List ℕ) (a : Result ReplayedAt RefusalOf)
    → length again ≡ length scratch → capacities n ≡ capacities m → length js ≡ length ks → ReplayKept log again n js a again' n' js' → Holds a n n'

-- replay was not refused, and the memory that it left means these queues, block numbers left out
pub record GivesUnblocked (a : Result ReplayedAt RefusalOf) (m m' : Memory) (qs : List Queue) : Type 0 where
  pub queues : List Queue
  pub gives : Gives a m m' queues
  pub same_but : map unblocked queues ≡ map unblocked qs

-- "Replaying it with the same lent sizes gives the same queues"; 02, Ticket 10: "its two statements leave block numbers out". Of any copy that was not refused.
abbrev pub CopyReplays : Type 0
CopyReplays = (target scratch target' scratch' : List ℕ) (m : Memory) (ks : List ℕ) (end : ℕ) → CopyDone target scratch m ks end target' scratch'
    → EachReplay target' scratch m ks (λ (a : Result ReplayedAt RefusalOf) (n n' : Memory). GivesUnblocked a n n' (meaning m))

-- 02, Ticket 10: "Replaying Ticket 1's copy gives those of the new log": each held record's block is that of its own append record in the copy
abbrev pub CopyBlocks : Type 0
CopyBlocks = (target scratch target' scratch' : List ℕ) (m : Memory) (ks : List ℕ) (end : ℕ) → CopyDone target scratch m ks end target' scratch'
    → EachReplay target' scratch m ks (λ (a : Result ReplayedAt RefusalOf) (n n' : Memory). Gives a n n' (copied_queues (meaning m)))

-- "two equal sets of queues, both copied, give equal bytes in the whole blocks of targets of equal length", block numbers left out: the blocks that they hold, the
-- scratches, the sizes and the arrangement of the two memories and what the targets held may differ
abbrev pub CopiesEqual : Type 0
CopiesEqual = (target₁ scratch₁ left₁ clean₁ target₂ scratch₂ left₂ clean₂ : List ℕ) (m₁ m₂ : Memory) (ks₁ ks₂ : List ℕ) (end₁ end₂ : ℕ)
    → CopyDone target₁ scratch₁ m₁ ks₁ end₁ left₁ clean₁ → CopyDone target₂ scratch₂ m₂ ks₂ end₂ left₂ clean₂ → map unblocked (meaning m₁) ≡ map unblocked (meaning m₂)
    → length target₁ ≡ length target₂
    → take (blocks target₁ * 32768) left₁ ≡ take (blocks target₂ * 32768) left₂

-- read after read of what a copy left, in a scratch no shorter than the longest of its records: these records, then end of log
abbrev pub CopyReads : Type 0
CopyReads = (target scratch target' scratch' : List ℕ) (m : Memory) (ks : List ℕ) (end : ℕ) → CopyDone target scratch m ks end target' scratch'
    → (s : List ℕ) (gs : List Given) → any_longer (length s) (copy_encoded (meaning m)) ≡ false → Reads target' s fresh gs
    → gs ≡ map gave_record (copy_records (meaning m)) ++ (gave_end ∷ [])

-- what is lent to the next call: the target left, the answered end as its write position, the scratch left, and the copied memory with its further table
abbrev pub copied_lent : List ℕ → ℕ → List ℕ → Memory → List ℕ → Lent
copied_lent target' end scratch' m ks = record { log = target'; place = end; scratch = scratch'; memory = m; largest = ks }

-- the end is a write position of the target left: with the copied memory it does not meet 6
abbrev pub CopyPlaced : Type 0
CopyPlaced = (target scratch target' scratch' : List ℕ) (m : Memory) (ks : List ℕ) (end : ℕ) → CopyDone target scratch m ks end target' scratch'
    → state_not_arranged (state_of (copied_lent target' end scratch' m ks)) ≡ false

-- Every list of calls that goes on from there: reading then gives the copy's records and those of the calls, and replay in memory of the same sizes gives the queues
-- that the calls left, but for the block numbers: held records have those of the log that was copied.
pub record GoesOn (m : Memory) (h : List Fed) (l : Lent) : Type 0 where
  pub reading : (s : List ℕ) (gs : List Given) → NoneLonger (length s) (machine_from (copied_machine (meaning m)) h).records → Reads l.log s fresh gs
      → gs ≡ map gave_record (records_of (machine_from (copied_machine (meaning m)) h).records) ++ (gave_end ∷ [])
  pub replay : EachReplay l.log l.scratch l.memory l.largest (λ (a : Result ReplayedAt RefusalOf) (n n' : Memory). GivesUnblocked a n n' (meaning l.memory))
  -- each with the block in which the list puts its log record's first frame header
  pub blocks : EachReplay l.log l.scratch l.memory l.largest (λ (a : Result ReplayedAt RefusalOf) (n n' : Memory).
      ReplaysAs (replay_records (capacities n) [] (placed_list (machine_from (copied_machine (meaning m)) h).records)) a n n')

abbrev pub CopyGoesOn : Type 0
CopyGoesOn = (target scratch target' scratch' : List ℕ) (m : Memory) (ks : List ℕ) (end : ℕ) → CopyDone target scratch m ks end target' scratch'
    → (h : List Fed) (l : Lent) → Since (copied_lent target' end scratch' m ks) h l → GoesOn m h l
