-- Claim.
-- What is promised of a fresh card. Each claim is proved in proofs/ under its name in snake case.
-- Assumes nothing.
use Rattle.std.specs.Prelude.{◌≡◌, false, List, map, ℕ, ◌*◌, ◌≤◌, length, take}
use Rattle.slices.specs.Bytes.{Bytes}
use Rattle.frame.specs.Block.{blocks}
use Rattle.recordlog.specs.Read.{resume}
use Rattle.queues.specs.Queues.{Queue}
use Rattle.queues.specs.Unblocked.{unblocked}
use Rattle.calls.specs.Replay.{left, replay_of}
use Rattle.copy_records.specs.Blocks.{copied_queues}
use Rattle.listing.specs.Listing.{listing}
use Rattle.readout_text.specs.Card.{readout_scratch, readout_room, card_text}
use Rattle.std.specs.Prelude.{Result}
use Rattle.cutdown_card.specs.declared.NotCut.{NotCut}
use Rattle.std.specs.Prelude.Result.{Ok}
use Rattle.cutdown_card.specs.Cutdown.{cut_to, cut_down, fresh_card, short_for, CutKept}

-- What a card and its fresh one have in common: the queues that replay gives, with `readout`'s memory, but for block numbers, which are those of the fresh card
-- (02, Ticket 10: "Replaying Ticket 1's copy gives those of the new log"). So `readout` lists these for the fresh card, with nothing lost; and a fresh card that is
-- cut down once more stays as it is.
pub record Refreshed (card fresh : List ℕ) : Type 0 where
  pub queues : List Queue
  pub held : replay_of card readout_room readout_scratch ≡ left queues
  pub again : replay_of fresh readout_room readout_scratch ≡ left (copied_queues queues)
  pub same : map unblocked (copied_queues queues) ≡ map unblocked queues
  pub as_long : length fresh ≡ blocks card * 32768
  pub lists : card_text fresh ≡ listing queues 0 (resume fresh readout_scratch) (length fresh)
  pub stays : cut_down fresh ≡ cut_to (copied_queues queues)
  pub same_bytes : fresh_card fresh (copied_queues queues) ≡ fresh

-- "Before a unit goes back into its crate the site wants a fresh log with no deleted history": of every card that is not refused, whatever the buffer held
abbrev pub CutdownRefreshes : Type 0
CutdownRefreshes = (card out out' : List ℕ) (n : ℕ) → Bytes card → CutKept card out (Ok n) out' → Refreshed card (take n out')

-- a buffer of 65,536 bytes is never too short
abbrev pub CutdownHasRoom : Type 0
CutdownHasRoom = (card : List ℕ) (room : ℕ) → 65536 ≤ room → short_for card room ≡ false

-- what is answered lies in the buffer that is left
abbrev pub CutdownInside : Type 0
CutdownInside = (card out out' : List ℕ) (r : Result ℕ NotCut) (n : ℕ) → r ≡ Ok n → CutKept card out r out' → n ≤ length out'
