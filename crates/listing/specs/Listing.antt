-- Definition (01, "Readout"; 02, Tickets 2 and 11).
-- 01, "Readout": the text that is listed for the queues, the bytes lost and the resume point, line by line.
-- Characters are their ASCII codes; each line ends with a line feed, 10.
-- Assumes nothing.
use Rattle.std.specs.Prelude.{cond, List, [], ◌∷◌, ◌++◌, ℕ, ◌+◌, ◌*◌, ◌/◌, ◌%◌, ltb, length}
use Rattle.record.specs.Record.{Item}
use Rattle.queues.specs.Queues.{Stored, Queue, item_of, next}
use Rattle.listing.specs.Digits.{hex, decimal}

-- ---- the words, each with the spaces around it

-- "shift "
abbrev pub shift_word : List ℕ
shift_word = 115 ∷ 104 ∷ 105 ∷ 102 ∷ 116 ∷ 32 ∷ []

-- "queues "
abbrev pub queues_word : List ℕ
queues_word = 113 ∷ 117 ∷ 101 ∷ 117 ∷ 101 ∷ 115 ∷ 32 ∷ []

-- "queue "
abbrev pub queue_word : List ℕ
queue_word = 113 ∷ 117 ∷ 101 ∷ 117 ∷ 101 ∷ 32 ∷ []

-- " start "
abbrev pub start_word : List ℕ
start_word = 32 ∷ 115 ∷ 116 ∷ 97 ∷ 114 ∷ 116 ∷ 32 ∷ []

-- " next "
abbrev pub next_word : List ℕ
next_word = 32 ∷ 110 ∷ 101 ∷ 120 ∷ 116 ∷ 32 ∷ []

-- " held "
abbrev pub held_word : List ℕ
held_word = 32 ∷ 104 ∷ 101 ∷ 108 ∷ 100 ∷ 32 ∷ []

-- "record "
abbrev pub record_word : List ℕ
record_word = 114 ∷ 101 ∷ 99 ∷ 111 ∷ 114 ∷ 100 ∷ 32 ∷ []

-- "lost "
abbrev pub lost_word : List ℕ
lost_word = 108 ∷ 111 ∷ 115 ∷ 116 ∷ 32 ∷ []

-- "fill "
abbrev pub fill_word : List ℕ
fill_word = 102 ∷ 105 ∷ 108 ∷ 108 ∷ 32 ∷ []

-- "refused "
abbrev pub refused_word : List ℕ
refused_word = 114 ∷ 101 ∷ 102 ∷ 117 ∷ 115 ∷ 101 ∷ 100 ∷ 32 ∷ []

-- a space, a point, a line feed
abbrev pub space : List ℕ
space = 32 ∷ []

abbrev pub point : List ℕ
point = 46 ∷ []

abbrev pub line_feed : List ℕ
line_feed = 10 ∷ []

-- ---- the lines

-- a word and a number
unfoldable pub numbered : List ℕ → ℕ → List ℕ
numbered w n = w ++ decimal n

unfoldable pub number_line : List ℕ → ℕ → List ℕ
number_line w n = numbered w n ++ line_feed

-- 02, Ticket 11: "A new desk lists it as `shift` and the number", a line for each mark
unfoldable pub shift_lines : List ℕ → List ℕ
shift_lines [] = []
shift_lines (n ∷ ns) = number_line shift_word n ++ shift_lines ns

-- a queue's name, start, next position and number of records
unfoldable pub head_line : List ℕ → ℕ → ℕ → ℕ → List ℕ
head_line name s n k = queue_word ++ (hex name ++ (numbered start_word s ++ (numbered next_word n ++ number_line held_word k)))

unfoldable pub queue_line : Queue → List ℕ
queue_line q = head_line q.name q.start (next q) (length q.records)

-- a record's position and payload
unfoldable pub record_line : Item → List ℕ
record_line i = numbered record_word i.position ++ (space ++ (hex i.payload ++ line_feed))

-- of held records: their blocks are not listed
unfoldable pub record_lines : List Stored → List ℕ
record_lines [] = []
record_lines (i ∷ is) = record_line (item_of i) ++ record_lines is

-- "queues go in byte order of names, records by position": as the list and its queues have them
unfoldable pub queue_lines : List Queue → List ℕ
queue_lines [] = []
queue_lines (q ∷ qs) = queue_line q ++ (record_lines q.records ++ queue_lines qs)

-- ---- the fill

-- the bytes of the whole blocks of a log of n bytes
unfoldable pub whole_bytes : ℕ → ℕ
whole_bytes n = n / 32768 * 32768

-- a / b to the nearest whole number: "at an exact half the even" one (02, Ticket 2, over 01's "halves up")
unfoldable pub half_even : ℕ → ℕ → ℕ
half_even a b = cond (ltb (2 * (a % b)) b) (a / b) (cond (ltb b (2 * (a % b))) (a / b + 1) (a / b + a / b % 2))

-- "the bytes before the resume point as a percentage of the log, one decimal": in tenths, of the whole blocks; "the nearest tenth, and at an exact half
-- the even tenth"
unfoldable pub fill_tenths : ℕ → ℕ → ℕ
fill_tenths resumed n = half_even (1000 * resumed) (whole_bytes n)

unfoldable pub fill_line : ℕ → List ℕ
fill_line t = numbered fill_word (t / 10) ++ number_line point (t % 10)

-- ---- the whole

-- "From now on `lost` is a number of bytes" (02, Ticket 7)
unfoldable pub end_lines : ℕ → ℕ → ℕ → List ℕ
end_lines lost resumed n = number_line lost_word lost ++ fill_line (fill_tenths resumed n)

-- what is listed for a log of n bytes, from the line `queues` on
unfoldable pub listing : List Queue → ℕ → ℕ → ℕ → List ℕ
listing qs lost resumed n = number_line queues_word (length qs) ++ (queue_lines qs ++ end_lines lost resumed n)

-- "A refusal prints only `refused` and the number"
unfoldable pub refusal : ℕ → List ℕ
refusal k = number_line refused_word k
