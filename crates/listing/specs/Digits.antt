-- Definition (01, "Readout").
-- 01, "Readout": numbers in decimal, and names and payloads in "lower-case hex, "-" when empty". Characters are their ASCII codes.
-- Assumes nothing.
use Rattle.std.specs.Prelude.{cond, List, [], ◌∷◌, ◌++◌, ℕ, zero, suc, ◌+◌, ◌/◌, ◌%◌, ltb}

-- the digit of a number below 16: 0 to 9, a to f
unfoldable pub digit : ℕ → ℕ
digit d = cond (ltb d 10) (48 + d) (87 + d)

-- two digits for each byte
unfoldable pub hex_run : List ℕ → List ℕ
hex_run [] = []
hex_run (b ∷ bs) = digit (b / 16) ∷ digit (b % 16) ∷ hex_run bs

-- "lower-case hex, "-" when empty"
unfoldable pub hex : List ℕ → List ℕ
hex [] = 45 ∷ []
hex (b ∷ bs) = hex_run (b ∷ bs)

-- at most k digits
unfoldable pub decimal_in : ℕ → ℕ → List ℕ
decimal_in zero n = []
decimal_in (suc k) n = let more : List ℕ = decimal_in k (n / 10) ++ (digit (n % 10) ∷ []) in cond (ltb n 10) (digit n ∷ []) more

-- a number in decimal: it has at most n + 1 digits
unfoldable pub decimal : ℕ → List ℕ
decimal n = decimal_in (suc n) n
