-- Helper: for proofs; no promise rests on reading it.
-- What the code's own state means: how it stands for the ranges that the grammar still wants; and bytes that each are a character.
-- Assumes nothing.
use Rattle.std.specs.Prelude.{Bool, true, ◌&&◌, List, [], ◌∷◌, ℕ, zero, suc, ltb, replicate, Option, Some, None}
use Rattle.utf8.specs.Utf8.{Range, range, tail, Follow, no_character, following}
use Rattle.utf8.specs.declared.Wanted.{Wanted}

-- this many octets: the next one in a range, each further one a UTF8-tail
unfoldable pub ranges : ℕ → Range → List Range
ranges zero r = []
ranges (suc n) r = r ∷ replicate n tail

abbrev pub wanted : Wanted → Follow
wanted w = following (ranges w.left (range w.low w.high))

unfoldable pub follow : Option Wanted → Follow
follow (Some w) = wanted w
follow None = no_character

-- each of the bytes is a character of one octet (UTF8-1)
unfoldable pub are_one_octet : List ℕ → Bool
are_one_octet [] = true
are_one_octet (x ∷ xs) = ltb x 0x80 && are_one_octet xs
