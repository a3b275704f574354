-- Claim.
-- Question after question of one queue, each asked again with "after" the position that the last one gave.
-- Assumes nothing.
use Rattle.std.specs.Prelude.{Result, ◌≡◌, List, [], ◌∷◌, ℕ}
use Rattle.record.specs.Record.{Item}
use Rattle.std.specs.declared.ops.Bound.{Bound}
use Rattle.std.specs.declared.ops.Bound.TheVariants.{Excluded as excluded}
use Rattle.queues.specs.Ranges.{FirstItem, no_item, first_item}
use Rattle.queues.specs.Layout.{Memory}
use Rattle.calls.specs.declared.Refusal.{Refusal}
use Rattle.call_write.specs.declared.QuestionAnswer.{QuestionAnswer}
use Rattle.contracts.specs.Numbers.{range_numbers}
use Rattle.contracts.specs.Promises.{RangeKept}

-- a range question of the queue n was answered, not refused, by this record or by none
pub record RangeGave (m : Memory) (ks n : List ℕ) (lo : Bound ℕ) (hi : Bound ℕ) (f : FirstItem) : Type 0 where
  pub answer : Result QuestionAnswer Refusal
  pub kept : RangeKept m ks n lo hi answer
  pub given : range_numbers m.payloads answer ≡ record { refusal = 0; found = f }

-- "asking again with "after" that position": the records given from a lower bound on, up to the first question that gives none
pub data Asks (m : Memory) (ks n : List ℕ) (hi : Bound ℕ) : Bound ℕ → List Item → Type 0 where
  last : {lo : Bound ℕ} → RangeGave m ks n lo hi no_item → Asks m ks n hi lo []
  more : {lo : Bound ℕ} {is : List Item} (i : Item) → RangeGave m ks n lo hi (first_item i) → Asks m ks n hi (excluded i.position) is → Asks m ks n hi lo (i ∷ is)
