-- Definition (02, Ticket 10).
-- "Within a queue these never fall": the blocks of held records, in their order.
-- Assumes nothing.
use Rattle.std.specs.Prelude.{List, [], ◌∷◌, ℕ, ◌≤◌}
use Rattle.queues.specs.Queues.{Stored, Queue}

-- "these never fall": from lo on, and none is above hi
abbrev pub NeverFall : ℕ → ℕ → List Stored → Type 0
NeverFall lo hi [] = lo ≤ hi
NeverFall lo hi (r ∷ rs) = (lo ≤ r.block) × NeverFall r.block hi rs

-- "Within a queue": so it is in each of these
abbrev pub BlocksNeverFall : ℕ → List Queue → Type 0
BlocksNeverFall hi [] = Unit {0}
BlocksNeverFall hi (q ∷ qs) = NeverFall 0 hi q.records × BlocksNeverFall hi qs
