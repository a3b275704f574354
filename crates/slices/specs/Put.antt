-- Definition (01, "The call").
-- What storing a run of elements into a slice leaves.
-- Assumes nothing.
use Rattle.std.specs.Prelude.{List, ◌++◌, ℕ, ◌+◌, length, take, drop}

-- s with the run xs from place p on, and unchanged elsewhere
unfoldable pub put : {A : Type 0} → List A → ℕ → List A → List A
put s p xs = take p s ++ (xs ++ drop (p + length xs) s)
