-- Claim.
-- Worked examples: what is printed for short inputs, computed.
-- Assumes nothing.
use Rattle.std.specs.Prelude.{◌≡◌, true, List, [], ◌∷◌, ◌++◌, ℕ}
use Rattle.slices.specs.Bytes.{zeros}
use Rattle.calls.specs.State.{State, create_call}
use Rattle.readout_text.specs.Card.{readout_room, readout_scratch}
use Rattle.drive_calls.specs.Driven.{line_of, drive_text}

-- a day: create, append, an append just before next, truncate, truncate at 2^64-1 (4), delete of a missing queue (8), an unknown command byte (16), and nothing behind it
abbrev pub day_command1 : List ℕ
day_command1 = 1 ∷ 97 ∷ 0 ∷ 0 ∷ 0 ∷ 0 ∷ 0 ∷ 0 ∷ 0 ∷ []

abbrev pub day_command2 : List ℕ
day_command2 = 2 ∷ 97 ∷ 0 ∷ 0 ∷ 0 ∷ 0 ∷ 0 ∷ 0 ∷ 0 ∷ 255 ∷ 255 ∷ 255 ∷ 255 ∷ 255 ∷ 255 ∷ 255 ∷ 255 ∷ 48 ∷ 49 ∷ 50 ∷ 51 ∷ 52 ∷ 53 ∷ 54 ∷ 55 ∷ 56 ∷ 57 ∷ 97 ∷ 98 ∷ 99 ∷ 100 ∷ 101 ∷ 102 ∷ []

abbrev pub day_command3 : List ℕ
day_command3 = 2 ∷ 97 ∷ 0 ∷ 0 ∷ 0 ∷ 0 ∷ 0 ∷ 0 ∷ 0 ∷ 0 ∷ 0 ∷ 0 ∷ 0 ∷ 0 ∷ 0 ∷ 0 ∷ 0 ∷ 0 ∷ 0 ∷ 0 ∷ 0 ∷ 0 ∷ 0 ∷ 0 ∷ 0 ∷ 0 ∷ 0 ∷ 0 ∷ 0 ∷ 0 ∷ 0 ∷ 0 ∷ 0 ∷ []

abbrev pub day_command4 : List ℕ
day_command4 = 3 ∷ 97 ∷ 0 ∷ 0 ∷ 0 ∷ 0 ∷ 0 ∷ 0 ∷ 0 ∷ 0 ∷ 0 ∷ 0 ∷ 0 ∷ 0 ∷ 0 ∷ 0 ∷ 0 ∷ []

abbrev pub day_command5 : List ℕ
day_command5 = 3 ∷ 97 ∷ 0 ∷ 0 ∷ 0 ∷ 0 ∷ 0 ∷ 0 ∷ 0 ∷ 255 ∷ 255 ∷ 255 ∷ 255 ∷ 255 ∷ 255 ∷ 255 ∷ 255 ∷ []

abbrev pub day_command6 : List ℕ
day_command6 = 4 ∷ 98 ∷ 98 ∷ 98 ∷ 98 ∷ 98 ∷ 98 ∷ 98 ∷ 98 ∷ []

abbrev pub day_command7 : List ℕ
day_command7 = 5 ∷ []

abbrev pub day_command8 : List ℕ
day_command8 = 1 ∷ 99 ∷ 0 ∷ 0 ∷ 0 ∷ 0 ∷ 0 ∷ 0 ∷ 0 ∷ []

-- "ok 19 0"
abbrev pub day_line1 : List ℕ
day_line1 = 111 ∷ 107 ∷ 32 ∷ 49 ∷ 57 ∷ 32 ∷ 48 ∷ 10 ∷ []

-- "ok 0 47 0"
abbrev pub day_line2 : List ℕ
day_line2 = 111 ∷ 107 ∷ 32 ∷ 48 ∷ 32 ∷ 52 ∷ 55 ∷ 32 ∷ 48 ∷ 10 ∷ []

-- "ok - 0 0"
abbrev pub day_line3 : List ℕ
day_line3 = 111 ∷ 107 ∷ 32 ∷ 45 ∷ 32 ∷ 48 ∷ 32 ∷ 48 ∷ 10 ∷ []

-- "ok 1 19 0"
abbrev pub day_line4 : List ℕ
day_line4 = 111 ∷ 107 ∷ 32 ∷ 49 ∷ 32 ∷ 49 ∷ 57 ∷ 32 ∷ 48 ∷ 10 ∷ []

-- "refused 4"
abbrev pub day_line5 : List ℕ
day_line5 = 114 ∷ 101 ∷ 102 ∷ 117 ∷ 115 ∷ 101 ∷ 100 ∷ 32 ∷ 52 ∷ 10 ∷ []

-- "refused 8"
abbrev pub day_line6 : List ℕ
day_line6 = 114 ∷ 101 ∷ 102 ∷ 117 ∷ 115 ∷ 101 ∷ 100 ∷ 32 ∷ 56 ∷ 10 ∷ []

-- "refused 16"
abbrev pub day_line7 : List ℕ
day_line7 = 114 ∷ 101 ∷ 102 ∷ 117 ∷ 115 ∷ 101 ∷ 100 ∷ 32 ∷ 49 ∷ 54 ∷ 10 ∷ []

-- "queues 1"
abbrev pub day_line8 : List ℕ
day_line8 = 113 ∷ 117 ∷ 101 ∷ 117 ∷ 101 ∷ 115 ∷ 32 ∷ 49 ∷ 10 ∷ []

-- "queue 61 start 1 next 1 held 0"
abbrev pub day_line9 : List ℕ
day_line9 = 113 ∷ 117 ∷ 101 ∷ 117 ∷ 101 ∷ 32 ∷ 54 ∷ 49 ∷ 32 ∷ 115 ∷ 116 ∷ 97 ∷ 114 ∷ 116 ∷ 32 ∷ 49 ∷ 32 ∷ 110 ∷ 101 ∷ 120 ∷ 116 ∷ 32 ∷ 49 ∷ 32 ∷ 104 ∷ 101 ∷ 108 ∷ 100 ∷ 32 ∷ 48 ∷ 10 ∷ []

-- "lost 0"
abbrev pub day_line10 : List ℕ
day_line10 = 108 ∷ 111 ∷ 115 ∷ 116 ∷ 32 ∷ 48 ∷ 10 ∷ []

-- "fill 0.1"
abbrev pub day_line11 : List ℕ
day_line11 = 102 ∷ 105 ∷ 108 ∷ 108 ∷ 32 ∷ 48 ∷ 46 ∷ 49 ∷ 10 ∷ []

abbrev pub Day : Type 0
Day = drive_text (day_command1 ++ (day_command2 ++ (day_command3 ++ (day_command4 ++ (day_command5 ++ (day_command6 ++ (day_command7 ++ (day_command8)))))))) ≡ day_line1 ++ (day_line2 ++ (day_line3 ++ (day_line4 ++ (day_line5 ++ (day_line6 ++ (day_line7 ++ (day_line8 ++ (day_line9 ++ (day_line10 ++ (day_line11))))))))))

-- names: held already (7), zeros inside, eight zeros, a zero in front, FF (3), taken away, operands that run out (16, before 7)
abbrev pub names_command1 : List ℕ
names_command1 = 1 ∷ 97 ∷ 0 ∷ 0 ∷ 0 ∷ 0 ∷ 0 ∷ 0 ∷ 0 ∷ []

abbrev pub names_command2 : List ℕ
names_command2 = 1 ∷ 97 ∷ 0 ∷ 0 ∷ 0 ∷ 0 ∷ 0 ∷ 0 ∷ 0 ∷ []

abbrev pub names_command3 : List ℕ
names_command3 = 1 ∷ 97 ∷ 0 ∷ 98 ∷ 0 ∷ 0 ∷ 0 ∷ 0 ∷ 0 ∷ []

abbrev pub names_command4 : List ℕ
names_command4 = 1 ∷ 0 ∷ 0 ∷ 0 ∷ 0 ∷ 0 ∷ 0 ∷ 0 ∷ 0 ∷ []

abbrev pub names_command5 : List ℕ
names_command5 = 1 ∷ 0 ∷ 97 ∷ 0 ∷ 0 ∷ 0 ∷ 0 ∷ 0 ∷ 0 ∷ []

abbrev pub names_command6 : List ℕ
names_command6 = 1 ∷ 255 ∷ 0 ∷ 0 ∷ 0 ∷ 0 ∷ 0 ∷ 0 ∷ 0 ∷ []

abbrev pub names_command7 : List ℕ
names_command7 = 4 ∷ 97 ∷ 0 ∷ 0 ∷ 0 ∷ 0 ∷ 0 ∷ 0 ∷ 0 ∷ []

abbrev pub names_command8 : List ℕ
names_command8 = 1 ∷ 97 ∷ 0 ∷ 98 ∷ 0 ∷ 0 ∷ 0 ∷ 0 ∷ []

-- "ok 19 0"
abbrev pub names_line1 : List ℕ
names_line1 = 111 ∷ 107 ∷ 32 ∷ 49 ∷ 57 ∷ 32 ∷ 48 ∷ 10 ∷ []

-- "refused 7"
abbrev pub names_line2 : List ℕ
names_line2 = 114 ∷ 101 ∷ 102 ∷ 117 ∷ 115 ∷ 101 ∷ 100 ∷ 32 ∷ 55 ∷ 10 ∷ []

-- "ok 21 0"
abbrev pub names_line3 : List ℕ
names_line3 = 111 ∷ 107 ∷ 32 ∷ 50 ∷ 49 ∷ 32 ∷ 48 ∷ 10 ∷ []

-- "ok 18 0"
abbrev pub names_line4 : List ℕ
names_line4 = 111 ∷ 107 ∷ 32 ∷ 49 ∷ 56 ∷ 32 ∷ 48 ∷ 10 ∷ []

-- "ok 20 0"
abbrev pub names_line5 : List ℕ
names_line5 = 111 ∷ 107 ∷ 32 ∷ 50 ∷ 48 ∷ 32 ∷ 48 ∷ 10 ∷ []

-- "refused 3"
abbrev pub names_line6 : List ℕ
names_line6 = 114 ∷ 101 ∷ 102 ∷ 117 ∷ 115 ∷ 101 ∷ 100 ∷ 32 ∷ 51 ∷ 10 ∷ []

-- "ok 19 0"
abbrev pub names_line7 : List ℕ
names_line7 = 111 ∷ 107 ∷ 32 ∷ 49 ∷ 57 ∷ 32 ∷ 48 ∷ 10 ∷ []

-- "refused 16"
abbrev pub names_line8 : List ℕ
names_line8 = 114 ∷ 101 ∷ 102 ∷ 117 ∷ 115 ∷ 101 ∷ 100 ∷ 32 ∷ 49 ∷ 54 ∷ 10 ∷ []

-- "queues 3"
abbrev pub names_line9 : List ℕ
names_line9 = 113 ∷ 117 ∷ 101 ∷ 117 ∷ 101 ∷ 115 ∷ 32 ∷ 51 ∷ 10 ∷ []

-- "queue - start 0 next 0 held 0"
abbrev pub names_line10 : List ℕ
names_line10 = 113 ∷ 117 ∷ 101 ∷ 117 ∷ 101 ∷ 32 ∷ 45 ∷ 32 ∷ 115 ∷ 116 ∷ 97 ∷ 114 ∷ 116 ∷ 32 ∷ 48 ∷ 32 ∷ 110 ∷ 101 ∷ 120 ∷ 116 ∷ 32 ∷ 48 ∷ 32 ∷ 104 ∷ 101 ∷ 108 ∷ 100 ∷ 32 ∷ 48 ∷ 10 ∷ []

-- "queue 0061 start 0 next 0 held 0"
abbrev pub names_line11 : List ℕ
names_line11 = 113 ∷ 117 ∷ 101 ∷ 117 ∷ 101 ∷ 32 ∷ 48 ∷ 48 ∷ 54 ∷ 49 ∷ 32 ∷ 115 ∷ 116 ∷ 97 ∷ 114 ∷ 116 ∷ 32 ∷ 48 ∷ 32 ∷ 110 ∷ 101 ∷ 120 ∷ 116 ∷ 32 ∷ 48 ∷ 32 ∷ 104 ∷ 101 ∷ 108 ∷ 100 ∷ 32 ∷ 48 ∷ 10 ∷ []

-- "queue 610062 start 0 next 0 held 0"
abbrev pub names_line12 : List ℕ
names_line12 = 113 ∷ 117 ∷ 101 ∷ 117 ∷ 101 ∷ 32 ∷ 54 ∷ 49 ∷ 48 ∷ 48 ∷ 54 ∷ 50 ∷ 32 ∷ 115 ∷ 116 ∷ 97 ∷ 114 ∷ 116 ∷ 32 ∷ 48 ∷ 32 ∷ 110 ∷ 101 ∷ 120 ∷ 116 ∷ 32 ∷ 48 ∷ 32 ∷ 104 ∷ 101 ∷ 108 ∷ 100 ∷ 32 ∷ 48 ∷ 10 ∷ []

-- "lost 0"
abbrev pub names_line13 : List ℕ
names_line13 = 108 ∷ 111 ∷ 115 ∷ 116 ∷ 32 ∷ 48 ∷ 10 ∷ []

-- "fill 0.1"
abbrev pub names_line14 : List ℕ
names_line14 = 102 ∷ 105 ∷ 108 ∷ 108 ∷ 32 ∷ 48 ∷ 46 ∷ 49 ∷ 10 ∷ []

abbrev pub Names : Type 0
Names = drive_text (names_command1 ++ (names_command2 ++ (names_command3 ++ (names_command4 ++ (names_command5 ++ (names_command6 ++ (names_command7 ++ (names_command8)))))))) ≡ names_line1 ++ (names_line2 ++ (names_line3 ++ (names_line4 ++ (names_line5 ++ (names_line6 ++ (names_line7 ++ (names_line8 ++ (names_line9 ++ (names_line10 ++ (names_line11 ++ (names_line12 ++ (names_line13 ++ (names_line14)))))))))))))

-- positions: little-endian; past (9); 2^64-2, then none is left (10)
abbrev pub positions_command1 : List ℕ
positions_command1 = 1 ∷ 97 ∷ 0 ∷ 0 ∷ 0 ∷ 0 ∷ 0 ∷ 0 ∷ 0 ∷ []

abbrev pub positions_command2 : List ℕ
positions_command2 = 2 ∷ 97 ∷ 0 ∷ 0 ∷ 0 ∷ 0 ∷ 0 ∷ 0 ∷ 0 ∷ 2 ∷ 1 ∷ 0 ∷ 0 ∷ 0 ∷ 0 ∷ 0 ∷ 0 ∷ 48 ∷ 49 ∷ 50 ∷ 51 ∷ 52 ∷ 53 ∷ 54 ∷ 55 ∷ 56 ∷ 57 ∷ 97 ∷ 98 ∷ 99 ∷ 100 ∷ 101 ∷ 102 ∷ []

abbrev pub positions_command3 : List ℕ
positions_command3 = 2 ∷ 97 ∷ 0 ∷ 0 ∷ 0 ∷ 0 ∷ 0 ∷ 0 ∷ 0 ∷ 0 ∷ 0 ∷ 0 ∷ 0 ∷ 0 ∷ 0 ∷ 0 ∷ 0 ∷ 48 ∷ 49 ∷ 50 ∷ 51 ∷ 52 ∷ 53 ∷ 54 ∷ 55 ∷ 56 ∷ 57 ∷ 97 ∷ 98 ∷ 99 ∷ 100 ∷ 101 ∷ 102 ∷ []

abbrev pub positions_command4 : List ℕ
positions_command4 = 2 ∷ 97 ∷ 0 ∷ 0 ∷ 0 ∷ 0 ∷ 0 ∷ 0 ∷ 0 ∷ 254 ∷ 255 ∷ 255 ∷ 255 ∷ 255 ∷ 255 ∷ 255 ∷ 255 ∷ 48 ∷ 49 ∷ 50 ∷ 51 ∷ 52 ∷ 53 ∷ 54 ∷ 55 ∷ 56 ∷ 57 ∷ 97 ∷ 98 ∷ 99 ∷ 100 ∷ 101 ∷ 102 ∷ []

abbrev pub positions_command5 : List ℕ
positions_command5 = 2 ∷ 97 ∷ 0 ∷ 0 ∷ 0 ∷ 0 ∷ 0 ∷ 0 ∷ 0 ∷ 255 ∷ 255 ∷ 255 ∷ 255 ∷ 255 ∷ 255 ∷ 255 ∷ 255 ∷ 48 ∷ 49 ∷ 50 ∷ 51 ∷ 52 ∷ 53 ∷ 54 ∷ 55 ∷ 56 ∷ 57 ∷ 97 ∷ 98 ∷ 99 ∷ 100 ∷ 101 ∷ 102 ∷ []

-- "ok 19 0"
abbrev pub positions_line1 : List ℕ
positions_line1 = 111 ∷ 107 ∷ 32 ∷ 49 ∷ 57 ∷ 32 ∷ 48 ∷ 10 ∷ []

-- "ok 258 47 0"
abbrev pub positions_line2 : List ℕ
positions_line2 = 111 ∷ 107 ∷ 32 ∷ 50 ∷ 53 ∷ 56 ∷ 32 ∷ 52 ∷ 55 ∷ 32 ∷ 48 ∷ 10 ∷ []

-- "refused 9"
abbrev pub positions_line3 : List ℕ
positions_line3 = 114 ∷ 101 ∷ 102 ∷ 117 ∷ 115 ∷ 101 ∷ 100 ∷ 32 ∷ 57 ∷ 10 ∷ []

-- "ok 18446744073709551614 47 0"
abbrev pub positions_line4 : List ℕ
positions_line4 = 111 ∷ 107 ∷ 32 ∷ 49 ∷ 56 ∷ 52 ∷ 52 ∷ 54 ∷ 55 ∷ 52 ∷ 52 ∷ 48 ∷ 55 ∷ 51 ∷ 55 ∷ 48 ∷ 57 ∷ 53 ∷ 53 ∷ 49 ∷ 54 ∷ 49 ∷ 52 ∷ 32 ∷ 52 ∷ 55 ∷ 32 ∷ 48 ∷ 10 ∷ []

-- "refused 10"
abbrev pub positions_line5 : List ℕ
positions_line5 = 114 ∷ 101 ∷ 102 ∷ 117 ∷ 115 ∷ 101 ∷ 100 ∷ 32 ∷ 49 ∷ 48 ∷ 10 ∷ []

-- "queues 1"
abbrev pub positions_line6 : List ℕ
positions_line6 = 113 ∷ 117 ∷ 101 ∷ 117 ∷ 101 ∷ 115 ∷ 32 ∷ 49 ∷ 10 ∷ []

-- "queue 61 start 258 next 18446744073709551615 held 2"
abbrev pub positions_line7 : List ℕ
positions_line7 = 113 ∷ 117 ∷ 101 ∷ 117 ∷ 101 ∷ 32 ∷ 54 ∷ 49 ∷ 32 ∷ 115 ∷ 116 ∷ 97 ∷ 114 ∷ 116 ∷ 32 ∷ 50 ∷ 53 ∷ 56 ∷ 32 ∷ 110 ∷ 101 ∷ 120 ∷ 116 ∷ 32 ∷ 49 ∷ 56 ∷ 52 ∷ 52 ∷ 54 ∷ 55 ∷ 52 ∷ 52 ∷ 48 ∷ 55 ∷ 51 ∷ 55 ∷ 48 ∷ 57 ∷ 53 ∷ 53 ∷ 49 ∷ 54 ∷ 49 ∷ 53 ∷ 32 ∷ 104 ∷ 101 ∷ 108 ∷ 100 ∷ 32 ∷ 50 ∷ 10 ∷ []

-- "record 258 30313233343536373839616263646566"
abbrev pub positions_line8 : List ℕ
positions_line8 = 114 ∷ 101 ∷ 99 ∷ 111 ∷ 114 ∷ 100 ∷ 32 ∷ 50 ∷ 53 ∷ 56 ∷ 32 ∷ 51 ∷ 48 ∷ 51 ∷ 49 ∷ 51 ∷ 50 ∷ 51 ∷ 51 ∷ 51 ∷ 52 ∷ 51 ∷ 53 ∷ 51 ∷ 54 ∷ 51 ∷ 55 ∷ 51 ∷ 56 ∷ 51 ∷ 57 ∷ 54 ∷ 49 ∷ 54 ∷ 50 ∷ 54 ∷ 51 ∷ 54 ∷ 52 ∷ 54 ∷ 53 ∷ 54 ∷ 54 ∷ 10 ∷ []

-- "record 18446744073709551614 30313233343536373839616263646566"
abbrev pub positions_line9 : List ℕ
positions_line9 = 114 ∷ 101 ∷ 99 ∷ 111 ∷ 114 ∷ 100 ∷ 32 ∷ 49 ∷ 56 ∷ 52 ∷ 52 ∷ 54 ∷ 55 ∷ 52 ∷ 52 ∷ 48 ∷ 55 ∷ 51 ∷ 55 ∷ 48 ∷ 57 ∷ 53 ∷ 53 ∷ 49 ∷ 54 ∷ 49 ∷ 52 ∷ 32 ∷ 51 ∷ 48 ∷ 51 ∷ 49 ∷ 51 ∷ 50 ∷ 51 ∷ 51 ∷ 51 ∷ 52 ∷ 51 ∷ 53 ∷ 51 ∷ 54 ∷ 51 ∷ 55 ∷ 51 ∷ 56 ∷ 51 ∷ 57 ∷ 54 ∷ 49 ∷ 54 ∷ 50 ∷ 54 ∷ 51 ∷ 54 ∷ 52 ∷ 54 ∷ 53 ∷ 54 ∷ 54 ∷ 10 ∷ []

-- "lost 0"
abbrev pub positions_line10 : List ℕ
positions_line10 = 108 ∷ 111 ∷ 115 ∷ 116 ∷ 32 ∷ 48 ∷ 10 ∷ []

-- "fill 0.2"
abbrev pub positions_line11 : List ℕ
positions_line11 = 102 ∷ 105 ∷ 108 ∷ 108 ∷ 32 ∷ 48 ∷ 46 ∷ 50 ∷ 10 ∷ []

abbrev pub Positions : Type 0
Positions = drive_text (positions_command1 ++ (positions_command2 ++ (positions_command3 ++ (positions_command4 ++ (positions_command5))))) ≡ positions_line1 ++ (positions_line2 ++ (positions_line3 ++ (positions_line4 ++ (positions_line5 ++ (positions_line6 ++ (positions_line7 ++ (positions_line8 ++ (positions_line9 ++ (positions_line10 ++ (positions_line11))))))))))

-- an empty input
-- "queues 0"
abbrev pub nothing_line1 : List ℕ
nothing_line1 = 113 ∷ 117 ∷ 101 ∷ 117 ∷ 101 ∷ 115 ∷ 32 ∷ 48 ∷ 10 ∷ []

-- "lost 0"
abbrev pub nothing_line2 : List ℕ
nothing_line2 = 108 ∷ 111 ∷ 115 ∷ 116 ∷ 32 ∷ 48 ∷ 10 ∷ []

-- "fill 0.0"
abbrev pub nothing_line3 : List ℕ
nothing_line3 = 102 ∷ 105 ∷ 108 ∷ 108 ∷ 32 ∷ 48 ∷ 46 ∷ 48 ∷ 10 ∷ []

abbrev pub Nothing : Type 0
Nothing = drive_text ([]) ≡ nothing_line1 ++ (nothing_line2 ++ (nothing_line3))

-- a lone command byte
abbrev pub lone_command1 : List ℕ
lone_command1 = 2 ∷ []

-- "refused 16"
abbrev pub lone_line1 : List ℕ
lone_line1 = 114 ∷ 101 ∷ 102 ∷ 117 ∷ 115 ∷ 101 ∷ 100 ∷ 32 ∷ 49 ∷ 54 ∷ 10 ∷ []

-- "queues 0"
abbrev pub lone_line2 : List ℕ
lone_line2 = 113 ∷ 117 ∷ 101 ∷ 117 ∷ 101 ∷ 115 ∷ 32 ∷ 48 ∷ 10 ∷ []

-- "lost 0"
abbrev pub lone_line3 : List ℕ
lone_line3 = 108 ∷ 111 ∷ 115 ∷ 116 ∷ 32 ∷ 48 ∷ 10 ∷ []

-- "fill 0.0"
abbrev pub lone_line4 : List ℕ
lone_line4 = 102 ∷ 105 ∷ 108 ∷ 108 ∷ 32 ∷ 48 ∷ 46 ∷ 48 ∷ 10 ∷ []

abbrev pub Lone : Type 0
Lone = drive_text (lone_command1) ≡ lone_line1 ++ (lone_line2 ++ (lone_line3 ++ (lone_line4)))

-- ---- lines near a block's end and at the log's end

-- readout's memory, empty, and a zeroed log of two blocks, with the write position p
abbrev pub start_at : ℕ → State
start_at p = record { log = zeros 65536; place = p; queues = []; arranged = true; capacities = readout_room; scratch = readout_scratch }

abbrev pub line_at : ℕ → List ℕ
line_at p = line_of (start_at p) (create_call (120 ∷ []))

-- "ok 19 6", "ok 19 1", "ok 26 0", "ok 19 0", "refused 13"
pub record Edges : Type 0 where
  pub six_left : line_at 32762 ≡ 111 ∷ 107 ∷ 32 ∷ 49 ∷ 57 ∷ 32 ∷ 54 ∷ 10 ∷ []
  pub one_left : line_at 32767 ≡ 111 ∷ 107 ∷ 32 ∷ 49 ∷ 57 ∷ 32 ∷ 49 ∷ 10 ∷ []
  pub seven_left : line_at 32761 ≡ 111 ∷ 107 ∷ 32 ∷ 50 ∷ 54 ∷ 32 ∷ 48 ∷ 10 ∷ []
  pub none_left : line_at 32768 ≡ 111 ∷ 107 ∷ 32 ∷ 49 ∷ 57 ∷ 32 ∷ 48 ∷ 10 ∷ []
  pub full : line_at 65518 ≡ 114 ∷ 101 ∷ 102 ∷ 117 ∷ 115 ∷ 101 ∷ 100 ∷ 32 ∷ 49 ∷ 51 ∷ 10 ∷ []
