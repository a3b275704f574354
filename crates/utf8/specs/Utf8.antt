-- Definition (01, "The call").
-- UTF-8 by the grammar of RFC 3629, section 4, rule for rule: what "UTF-8" means of a name (01, refusal 3).
-- Above each part of the grammar stands the RFC's own line.
-- Assumes nothing.
use Rattle.std.specs.Prelude.{Bool, true, false, cond, ◌&&◌, List, [], ◌∷◌, ◌++◌, ℕ, leb}

-- the octets from the lowest to the highest, both among them: %xA0-BF is `range 0xA0 0xBF`
pub record Range : Type 0 where
  pub low : ℕ
  pub high : ℕ

abbrev pub range : ℕ → ℕ → Range
range a b = record { low = a; high = b }

-- an octet in the range
unfoldable pub among : Range → ℕ → Bool
among r x = leb r.low x && leb x r.high

-- One way to write a character: a first octet, and octets after it, one in each range.
pub record Rule : Type 0 where
  pub first : Range
  pub behind : List Range

abbrev pub rule : ℕ → ℕ → List Range → Rule
rule a b rs = record { first = range a b; behind = rs }

-- UTF8-tail   = %x80-BF
abbrev pub tail : Range
tail = range 0x80 0xBF

-- UTF8-1      = %x00-7F
abbrev pub utf8_1 : List Rule
utf8_1 = rule 0x00 0x7F [] ∷ []

-- UTF8-2      = %xC2-DF UTF8-tail
abbrev pub utf8_2 : List Rule
utf8_2 = rule 0xC2 0xDF (tail ∷ []) ∷ []

-- UTF8-3      = %xE0 %xA0-BF UTF8-tail / %xE1-EC 2( UTF8-tail ) /
--               %xED %x80-9F UTF8-tail / %xEE-EF 2( UTF8-tail )
abbrev pub utf8_3 : List Rule
utf8_3 =
    rule 0xE0 0xE0 (range 0xA0 0xBF ∷ tail ∷ [])
    ∷ rule 0xE1 0xEC (tail ∷ tail ∷ [])
    ∷ rule 0xED 0xED (range 0x80 0x9F ∷ tail ∷ [])
    ∷ rule 0xEE 0xEF (tail ∷ tail ∷ [])
    ∷ []

-- UTF8-4      = %xF0 %x90-BF 2( UTF8-tail ) / %xF1-F3 3( UTF8-tail ) /
--               %xF4 %x80-8F 2( UTF8-tail )
abbrev pub utf8_4 : List Rule
utf8_4 =
    rule 0xF0 0xF0 (range 0x90 0xBF ∷ tail ∷ tail ∷ [])
    ∷ rule 0xF1 0xF3 (tail ∷ tail ∷ tail ∷ [])
    ∷ rule 0xF4 0xF4 (range 0x80 0x8F ∷ tail ∷ tail ∷ [])
    ∷ []

-- UTF8-char   = UTF8-1 / UTF8-2 / UTF8-3 / UTF8-4
unfoldable pub grammar : List Rule
grammar = utf8_1 ++ (utf8_2 ++ (utf8_3 ++ utf8_4))

-- What may follow the octets so far: nothing, since no UTF-8 begins with them; or one octet in each of these ranges, which
-- end the character that is begun (none: it is whole), and then further characters.
pub data Follow : Type 0 where
  no_character : Follow
  following : List Range → Follow

-- after the first octet of a character (no two rules share one)
unfoldable pub begun : List Rule → ℕ → Follow
begun [] x = no_character
begun (g ∷ gs) x = cond (among g.first x) (following g.behind) (begun gs x)

-- after one octet more
unfoldable pub after : Follow → ℕ → Follow
after no_character x = no_character
after (following []) x = begun grammar x
after (following (r ∷ rs)) x = cond (among r x) (following rs) no_character

-- after all of these
unfoldable pub after_all : Follow → List ℕ → Follow
after_all f [] = f
after_all f (x ∷ xs) = after_all (after f x) xs

-- no character is cut short
unfoldable pub whole : Follow → Bool
whole no_character = false
whole (following []) = true
whole (following (r ∷ rs)) = false

-- UTF8-octets = *( UTF8-char )
unfoldable pub utf8 : List ℕ → Bool
utf8 xs = whole (after_all (following []) xs)
