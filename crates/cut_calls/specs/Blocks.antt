-- Claim.
-- Within a queue the blocks of the held records never fall (02, Ticket 10). Each claim is proved in proofs/ under its name in snake case.
-- Assumes nothing.
use Rattle.std.specs.Prelude.{◌≡◌, List, ℕ}
use Rattle.recordlog.specs.Began.{header_block}
use Rattle.queues.specs.Queues.{Queue, Capacities}
use Rattle.calls.specs.State.{State}
use Rattle.calls.specs.Replay.{left, replay_of}
use Rattle.calls.specs.Machine.{Fed}
use Rattle.calls.specs.Run.{StatesRun}
use Rattle.cut_calls.specs.NeverFall.{BlocksNeverFall}
use Rattle.cut_calls.specs.Claims.{reopened, StatesSince}

-- "from open on, while each call, copies aside, is lent what the one before left": of every log that is replayed and not refused, damaged ones too, in memory of any
-- sizes. None is above the block in which a record written now would have its first frame header.
abbrev pub StatesBlocksRise : Type 0
StatesBlocksRise = (log : List ℕ) (m : Capacities) (qs : List Queue) (limit : ℕ) → replay_of log m limit ≡ left qs
    → (h : List Fed) (s : State) → StatesSince (reopened log m qs limit) h s → BlocksNeverFall (header_block s.place) s.queues

-- and from an empty start
abbrev pub StatesBlocksRiseRun : Type 0
StatesBlocksRiseRun = (h : List Fed) (s : State) → StatesRun h s → BlocksNeverFall (header_block s.place) s.queues
