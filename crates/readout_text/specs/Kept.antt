-- Helper: for proofs; no promise rests on reading it.
-- What the functions between the card and its text answer and leave.
-- Assumes nothing.
use Rattle.std.specs.Prelude.{◌≡◌, List, Option, ℕ, length}
use Rattle.slices.specs.Bytes.{zeros}
use Rattle.queues.specs.Layout.{Memory, capacities, Leaves}
use Rattle.calls.specs.Replay.{replay_of, outcome_queues}
use Rattle.largest.specs.Table.{kept_left}
use Rattle.listing.specs.Writing.{written, listed}
use Rattle.readout_text.specs.Card.{text_in}

-- Replay and the listing: the text is the one for what the lent memory can hold. The scratch is zero; the queue memory is arranged and means the queues that the
-- log's records give; the further table has the numbers that its held entries give.
pub record CardKept (input scratch : List ℕ) (m : Memory) (ks out : List ℕ) (r : Option ℕ) (scratch' : List ℕ) (m' : Memory) (ks' out' : List ℕ) : Type 0 where
  pub answer : r ≡ listed (length out) (length (text_in input (capacities m) (length scratch)))
  pub text_left : out' ≡ written out 0 (text_in input (capacities m) (length scratch))
  pub scratch_left : scratch' ≡ zeros (length scratch)
  pub memory_left : Leaves m m' (outcome_queues (replay_of input (capacities m) (length scratch)))
  pub largest_left : ks' ≡ kept_left ks m'
