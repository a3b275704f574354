-- Claim.
-- Read after read with one reader, whatever else each read is lent.
-- Assumes nothing.
use Rattle.std.specs.Prelude.{◌≡◌, List, [], ◌∷◌, ℕ}
use Rattle.frame.specs.declared.Reader.{Reader}
use Rattle.frame.specs.Block.{blocks}
use Rattle.calls.specs.Reading.{ReadAnswer as Given}
use Rattle.read_step.specs.declared.ReadAnswer.{ReadAnswer}
use Rattle.contracts.specs.Numbers.{given_by}
use Rattle.contracts.specs.Promises.{ReadKept}

-- "The reader is lent to each read and moves on in place.": the answers of some reads from a reader on. Each read is lent any scratch, and any log of n whole
-- blocks, which calls may have written to since the last read. Reading goes on after a refusal, and after end of log too.
pub data ReadsOn (n : ℕ) : Reader → List Given → Type 0 where
  none : {r : Reader} → ReadsOn n r []
  read : {r r' : Reader} {gs : List Given} (log s s' : List ℕ) (a : ReadAnswer) → blocks log ≡ n → ReadKept log s r a s' r' → ReadsOn n r' gs
      → ReadsOn n r (given_by s' a ∷ gs)
