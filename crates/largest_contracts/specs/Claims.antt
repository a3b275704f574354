-- Claim.
-- More on the further table from open on, and on the balance of payload bytes. Each claim is proved in proofs/ under its name in snake case.
-- Assumes nothing.
use Rattle.std.specs.Prelude.{◌≡◌, true, List, [], ℕ, ◌+◌, ◌≤◌, length}
use Rattle.queues.specs.Queues.{Queue, payload_bytes, evicted}
use Rattle.queues.specs.Layout.{Memory, meaning, arranged}
use Rattle.calls.specs.State.{State}
use Rattle.calls.specs.Machine.{Fed, machine}
use Rattle.calls.specs.Run.{StatesRun}
use Rattle.contracts.specs.Promises.{Lent}
use Rattle.contracts.specs.Run.{Run}
use Rattle.cut_contracts.specs.Claims.{Since}
use Rattle.largest.specs.Table.{arranged_with}
use Rattle.largest_contracts.specs.Since.{Starts}
use Rattle.largest_contracts.specs.Balance.{records_leaving, gone, accepted}

-- ---- from open on

-- neither the memory nor the table is 6
abbrev pub SinceHolds : Type 0
SinceHolds = (l₀ l : Lent) (h : List Fed) → Starts l₀.memory l₀.largest → Since l₀ h l → arranged_with l.memory l.largest ≡ true

-- a run from an empty start is such a list of calls
pub record RunBegins (h : List Fed) (l : Lent) : Type 0 where
  pub first : Lent
  pub since : Since first h l
  pub starts : Starts first.memory first.largest

-- and any table that is long enough will do where no queues are held, whatever it holds
abbrev pub AnyTableStarts : Type 0
AnyTableStarts = (m : Memory) (ks : List ℕ) → arranged m ≡ true → meaning m ≡ [] → length m.entries ≤ length ks → Starts m ks

abbrev pub RunSince : Type 0
RunSince = (h : List Fed) (l : Lent) → Run h l → RunBegins h l

-- ---- payload bytes

-- the balance of `LentBalance` over states
abbrev pub PayloadsBalance : Type 0
PayloadsBalance = (h : List Fed) (s : State) → StatesRun h s → payload_bytes (machine h).queues + gone h ≡ accepted h

-- the records that leave are as many as a truncate answers
abbrev pub LeavingCounted : Type 0
LeavingCounted = (q : Queue) (e : ℕ) → length (records_leaving q e) ≡ evicted q e
