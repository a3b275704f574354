-- Claim.
-- Within a queue the blocks of the held records never fall (02, Ticket 10), over the lent memory. Each claim is proved in proofs/ under its name in snake case.
-- Assumes nothing.
use Rattle.std.specs.Prelude.{List, ℕ}
use Rattle.recordlog.specs.Began.{header_block}
use Rattle.queues.specs.Layout.{Memory, meaning}
use Rattle.calls.specs.Machine.{Fed}
use Rattle.contracts.specs.Promises.{Lent}
use Rattle.contracts.specs.Run.{Run}
use Rattle.cut_calls.specs.NeverFall.{BlocksNeverFall}
use Rattle.cut_contracts.specs.Claims.{Opened, Since}

-- "Within a queue these never fall, from open on, while each call, copies aside, is lent what the one before left.": of every log, damaged ones too, and whatever memory
-- it was replayed into. None is above the block in which a record written now would have its first frame header.
abbrev pub BlocksRise : Type 0
BlocksRise = (log scratch : List ℕ) (m : Memory) (ks : List ℕ) (l₀ : Lent) → Opened log scratch m ks l₀
    → (h : List Fed) (l : Lent) → Since l₀ h l → BlocksNeverFall (header_block l.place) (meaning l.memory)

-- and from an empty start
abbrev pub BlocksRiseRun : Type 0
BlocksRiseRun = (h : List Fed) (l : Lent) → Run h l → BlocksNeverFall (header_block l.place) (meaning l.memory)
