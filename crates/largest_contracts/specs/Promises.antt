-- Claim.
-- 02, Ticket 8, over the lent memory: the largest payload held from open on, and the balance of payload bytes. Each is proved in proofs/ under its name in snake case.
-- Assumes nothing.
use Rattle.std.specs.Prelude.{◌≡◌, List, ℕ, ◌+◌}
use Rattle.queues.specs.Queues.{Queue, held, find, payload_bytes}
use Rattle.queues.specs.Layout.{held_entries, meaning}
use Rattle.queues.specs.Parts.{queue_number}
use Rattle.calls.specs.Machine.{Fed}
use Rattle.contracts.specs.Promises.{Lent}
use Rattle.contracts.specs.Run.{Run}
use Rattle.cut_contracts.specs.Claims.{Since}
use Rattle.largest.specs.Largest.{largest_of, kept_answer}
use Rattle.largest_contracts.specs.Since.{Starts}
use Rattle.largest_contracts.specs.Balance.{gone, accepted}

-- "From open on, each call lent what the one before left, it equals the answer worked out afresh from the held records."
abbrev pub LargestAfresh : Type 0
LargestAfresh = (l₀ l : Lent) (h : List Fed) (n : List ℕ) (q : Queue) → Starts l₀.memory l₀.largest → Since l₀ h l → find n (meaning l.memory) ≡ held q
    → kept_answer (queue_number n (meaning l.memory)) (held_entries l.memory) l.largest ≡ largest_of q.records

-- "Payload bytes held equal those accepted less those evicted or deleted, both summed over the calls of such a run from an empty start with no replay in it."
abbrev pub LentBalance : Type 0
LentBalance = (h : List Fed) (l : Lent) → Run h l → payload_bytes (meaning l.memory) + gone h ≡ accepted h
