-- Definition (01, "Readout").
-- Text written into a lent buffer at a place: bytes that do not fit are dropped, and the place after it tells whether some were.
-- Assumes nothing.
use Rattle.std.specs.Prelude.{cond, List, Option, ℕ, leb}
use Rattle.std.specs.Prelude.Option.{Some, None}
use Rattle.std.proofs.lemmas.List.Edits.{sets}

-- the buffer s with xs from place p on, as far as they fit
unfoldable pub written : List ℕ → ℕ → List ℕ → List ℕ
written s p xs = sets s p xs

-- what is answered for a text of k bytes in a buffer of n
unfoldable pub listed : ℕ → ℕ → Option ℕ
listed n k = cond (leb k n) (Some k) None
