-- Definition (02, Ticket 8).
-- From open on: what the first call is lent.
-- Assumes nothing.
use Rattle.std.specs.Prelude.{Result, ◌≡◌, true, false, List, ℕ, ◌≤◌, length}
use Rattle.queues.specs.Layout.{Memory}
use Rattle.calls.specs.Refusals.{log_refused}
use Rattle.calls.specs.declared.Refusal.{Refusal as RefusalOf}
use Rattle.read_step.specs.declared.Replayed.{Replayed as ReplayedAt}
use Rattle.contracts.specs.Promises.{ReplayKept}
use Rattle.largest.specs.Table.{arranged_with}

-- Memory and a further table that are not 6, an empty start's too; or what replay left of any log that is not refused 1, whatever a table that is long enough held.
pub data Starts : Memory → List ℕ → Type 0 where
  not_six : (m : Memory) (ks : List ℕ) → arranged_with m ks ≡ true → Starts m ks
  opened : (log scratch scratch' : List ℕ) (m m' : Memory) (ks ks' : List ℕ) (a : Result ReplayedAt RefusalOf) → log_refused log ≡ false → length m.entries ≤ length ks
      → ReplayKept log scratch m ks a scratch' m' ks' → Starts m' ks'
