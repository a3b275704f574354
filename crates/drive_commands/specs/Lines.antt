-- Definition (02, Ticket 4).
-- The line of a command: what its call answered. Characters are their ASCII codes; the line ends with a line feed.
-- Assumes nothing.
use Rattle.std.specs.Prelude.{cond, List, [], ◌∷◌, ◌++◌, ℕ, eqb}
use Rattle.queues.specs.Queues.{Position, no_position, at}
use Rattle.calls.specs.State.{Call, create_call, delete_call, truncate_call, append_call, mark_call, CallAnswer}
use Rattle.listing.specs.Digits.{decimal}
use Rattle.listing.specs.Listing.{space, numbered, number_line, refusal}

-- "ok"
abbrev pub ok_word : List ℕ
ok_word = 111 ∷ 107 ∷ []

-- "the last position ("-" for none)"
unfoldable pub position_text : Position → List ℕ
position_text no_position = 45 ∷ []
position_text (at p) = decimal p

-- "the last position .. after an append or the evicted count after a truncate", with the space before it. No command writes a mark.
unfoldable pub told_of : Call → CallAnswer → List ℕ
told_of (create_call n) a = []
told_of (delete_call n) a = []
told_of (truncate_call n e) a = numbered space a.evicted
told_of (append_call n p run ks) a = space ++ position_text a.last
told_of (mark_call n body) a = []

-- "then frame bytes and padding bytes, with single spaces between"
unfoldable pub counts_text : CallAnswer → List ℕ
counts_text a = numbered space a.frame_bytes ++ number_line space a.padding_bytes

unfoldable pub ok_line : Call → CallAnswer → List ℕ
ok_line k a = ok_word ++ (told_of k a ++ counts_text a)

-- "The line is `ok`, .. or `refused` and the number"
unfoldable pub line_by : Call → CallAnswer → List ℕ
line_by k a = cond (eqb a.refusal 0) (ok_line k a) (refusal a.refusal)
