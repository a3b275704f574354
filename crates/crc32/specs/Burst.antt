-- Definition (01, "One hit frame").
-- A burst of changed bits (01, "One hit frame": "all changed bits lie within 32 adjacent ones"; ORDER, demand 3: "lowest bit of a byte first").
-- Assumes nothing.
use Rattle.std.specs.Prelude.{◌≡◌, Bool, false, List, ℕ, ◌+◌, ◌≤◌, ◌<◌, length, get_or}

-- the lists have one length, and agree at each place outside the 32 from k on
pub record Within32 (x y : List Bool) (k : ℕ) : Type 0 where
  pub same_length : length x ≡ length y
  pub before : (i : ℕ) → i < k → get_or x i false ≡ get_or y i false
  pub after : (i : ℕ) → k + 32 ≤ i → get_or x i false ≡ get_or y i false
