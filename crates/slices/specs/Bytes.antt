-- Definition (01, "The call").
-- Lists of bytes.
-- Assumes nothing.
use Rattle.std.specs.Prelude.{List, ℕ, ◌<◌, get_or, replicate}

-- each element is a byte (past the end `get_or` gives 0)
abbrev pub Bytes : List ℕ → Type 0
Bytes xs = (i : ℕ) → get_or xs i 0 < 256

-- n zero bytes
abbrev pub zeros : ℕ → List ℕ
zeros n = replicate n 0
