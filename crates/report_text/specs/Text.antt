-- Definition (02, Ticket 12).
-- The text that the depot's tool prints for a report: the table, the other counts, the mean. Characters are their ASCII codes; each line ends with a line feed.
-- Assumes nothing.
use Rattle.std.specs.Prelude.{Some, None, Ok, Err, Bool, cond, List, [], ◌∷◌, ◌++◌, ℕ, ltb, length, get_or}
use Rattle.listing.specs.Listing.{numbered, number_line, refused_word, space, line_feed, refusal}
use Rattle.report.specs.Layout.{report_numbers, report_arranged}
use Rattle.report.specs.Feed.{feed_refusal, feed_left, refusal_number, MeanAnswer, mean_answer}

-- ---- the words, each with the spaces around it

-- "logs "
abbrev pub logs_word : List ℕ
logs_word = 108 ∷ 111 ∷ 103 ∷ 115 ∷ 32 ∷ []

-- "full right "
abbrev pub full_word : List ℕ
full_word = 102 ∷ 117 ∷ 108 ∷ 108 ∷ 32 ∷ 114 ∷ 105 ∷ 103 ∷ 104 ∷ 116 ∷ 32 ∷ []

-- "first right "
abbrev pub first_word : List ℕ
first_word = 102 ∷ 105 ∷ 114 ∷ 115 ∷ 116 ∷ 32 ∷ 114 ∷ 105 ∷ 103 ∷ 104 ∷ 116 ∷ 32 ∷ []

-- "middle right "
abbrev pub middle_word : List ℕ
middle_word = 109 ∷ 105 ∷ 100 ∷ 100 ∷ 108 ∷ 101 ∷ 32 ∷ 114 ∷ 105 ∷ 103 ∷ 104 ∷ 116 ∷ 32 ∷ []

-- "last right "
abbrev pub last_word : List ℕ
last_word = 108 ∷ 97 ∷ 115 ∷ 116 ∷ 32 ∷ 114 ∷ 105 ∷ 103 ∷ 104 ∷ 116 ∷ 32 ∷ []

-- " wrong "
abbrev pub wrong_word : List ℕ
wrong_word = 32 ∷ 119 ∷ 114 ∷ 111 ∷ 110 ∷ 103 ∷ 32 ∷ []

-- "unreadable "
abbrev pub unreadable_word : List ℕ
unreadable_word = 117 ∷ 110 ∷ 114 ∷ 101 ∷ 97 ∷ 100 ∷ 97 ∷ 98 ∷ 108 ∷ 101 ∷ 32 ∷ []

-- "over-long "
abbrev pub over_long_word : List ℕ
over_long_word = 111 ∷ 118 ∷ 101 ∷ 114 ∷ 45 ∷ 108 ∷ 111 ∷ 110 ∷ 103 ∷ 32 ∷ []

-- "data "
abbrev pub data_word : List ℕ
data_word = 100 ∷ 97 ∷ 116 ∷ 97 ∷ 32 ∷ []

-- "mean "
abbrev pub mean_word : List ℕ
mean_word = 109 ∷ 101 ∷ 97 ∷ 110 ∷ 32 ∷ []

-- " remainder "
abbrev pub remainder_word : List ℕ
remainder_word = 32 ∷ 114 ∷ 101 ∷ 109 ∷ 97 ∷ 105 ∷ 110 ∷ 100 ∷ 101 ∷ 114 ∷ 32 ∷ []

-- " over "
abbrev pub over_word : List ℕ
over_word = 32 ∷ 111 ∷ 118 ∷ 101 ∷ 114 ∷ 32 ∷ []

-- "mean none" and a line feed
abbrev pub no_mean_line : List ℕ
no_mean_line = 109 ∷ 101 ∷ 97 ∷ 110 ∷ 32 ∷ 110 ∷ 111 ∷ 110 ∷ 101 ∷ 10 ∷ []

-- ---- the lines

-- "four frame types by two outcomes": a line for each type
unfoldable pub row_line : List ℕ → ℕ → ℕ → List ℕ
row_line w r n = numbered w r ++ number_line wrong_word n

unfoldable pub table_lines : List ℕ → List ℕ
table_lines ws =
    row_line full_word (get_or ws 1 0) (get_or ws 2 0)
    ++ (row_line first_word (get_or ws 3 0) (get_or ws 4 0) ++ (row_line middle_word (get_or ws 5 0) (get_or ws 6 0) ++ row_line last_word (get_or ws 7 0) (get_or ws 8 0)))

-- "the unreadable headers, the over-long frames, bytes of data in sound frames"
unfoldable pub other_lines : List ℕ → List ℕ
other_lines ws = number_line unreadable_word (get_or ws 9 0) ++ (number_line over_long_word (get_or ws 10 0) ++ number_line data_word (get_or ws 11 0))

-- "as a whole number and a remainder over their count, or "none" when there are none"
unfoldable pub mean_line : MeanAnswer → List ℕ
mean_line (Ok (Some m)) = numbered mean_word m.whole ++ (numbered remainder_word m.remainder ++ number_line over_word m.count)
mean_line (Ok None) = no_mean_line
mean_line (Err e) = refusal (refusal_number e)

unfoldable pub count_lines : List ℕ → List ℕ
count_lines ws = number_line logs_word (get_or ws 0 0) ++ (table_lines ws ++ other_lines ws)

-- the whole; of a report that is not arranged only the refusal
unfoldable pub report_text : List ℕ → List ℕ
report_text report = cond (report_arranged report) (count_lines (report_numbers report) ++ mean_line (mean_answer report)) (refusal 6)

-- a card that is refused: the number and the card's name
unfoldable pub refused_line : ℕ → List ℕ → List ℕ
refused_line n name = numbered refused_word n ++ (space ++ (name ++ line_feed))

-- ---- a card fed

-- a card has at most two blocks, as for `readout` (01: "over 65,536 bytes of input is 1"); else it is fed as a log
unfoldable pub card_too_long : List ℕ → Bool
card_too_long card = ltb 65536 (length card)

unfoldable pub card_refusal : List ℕ → List ℕ → ℕ
card_refusal report card = cond (card_too_long card) 1 (feed_refusal report card)

unfoldable pub card_left : List ℕ → List ℕ → List ℕ
card_left report card = cond (card_too_long card) report (feed_left report card)
