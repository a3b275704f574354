-- Definition (02, "Ticket 13").
-- Readings and byte planes, for every width. 02: "a payload is rearranged before append: first byte 0 of every reading, then byte 1, and so on. The inverse
-- restores it".
-- Assumes nothing.
use Rattle.std.specs.Prelude.{List, [], ◌∷◌, ◌++◌, ℕ, zero, suc, ◌+◌, ◌/◌, length, get_or}

-- byte `at` of xs and every `step`-th after it, n bytes
unfoldable pub every : ℕ → ℕ → ℕ → List ℕ → List ℕ
every step zero at xs = []
every step (suc n) at xs = get_or xs at 0 ∷ every step n (at + step) xs

-- m such runs, one after the other: from byte `at` on, from byte `at` + 1 on, ..
unfoldable pub runs : ℕ → ℕ → ℕ → ℕ → List ℕ → List ℕ
runs step n zero at xs = []
runs step n (suc m) at xs = every step n at xs ++ runs step n m (suc at) xs

-- m runs of n bytes: run j is byte j of xs and every m-th after it
abbrev pub crossed : ℕ → ℕ → List ℕ → List ℕ
crossed m n xs = runs m n m 0 xs

-- "first byte 0 of every reading, then byte 1, and so on": w planes; plane j is byte j of the payload and every w-th after it
abbrev pub to_planes : ℕ → List ℕ → List ℕ
to_planes w xs = crossed w (length xs / w) xs

-- "The inverse restores it": the readings again, w bytes each; reading i is byte i and every n-th after it, n the count of readings
abbrev pub from_planes : ℕ → List ℕ → List ℕ
from_planes w ys = crossed (length ys / w) w ys
