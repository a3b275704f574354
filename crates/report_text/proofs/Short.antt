-- How long the text of a report gets, and that it fits the buffer; and some lines, computed.
-- Assumes nothing.
use mathlib.Core.Path.{◌≡◌, refl, sym, ap}
use mathlib.Core.Bool.{Bool, true, false, cond}
use mathlib.Core.List.{List, [], ◌∷◌, ◌++◌}
use Prim.Native.Nat.{ℕ, zero, suc, ◌+◌, ◌/◌, ◌%◌, ◌≤◌, ◌<◌, ◌^◌}
use native.Mathlib.Nat.{mod-lt, div-le_self}
use native.Mathlib.Omega.{arith}
use lib.ListN.{length, get_or, length-append}
use Rattle.listing.specs.Digits.{digit, decimal_in, decimal}
use Rattle.listing.specs.Listing.{numbered, number_line, refusal}
use Rattle.listing.proofs.Bounds.{decimal_short}
use Rattle.listing.proofs.Writes.{listed-whole}
use Rattle.std.specs.Prelude.{Ok, Err}
use Rattle.report.specs.declared.ReportRefusal.TheVariants.{NotArranged as not_arranged}
use Rattle.report.specs.Layout.{report_numbers, report_arranged}
use Rattle.report.specs.Feed.{MeanAnswer, mean_of, sound_frames, mean_answer}
use Rattle.report.proofs.Claims.{report_bound}
use Rattle.report_text.specs.Text.{row_line, table_lines, other_lines, mean_line, count_lines, report_text, refused_line, mean_word, remainder_word, over_word, wrong_word}
use Rattle.report_text.specs.Text.{logs_word, full_word, first_word, middle_word, last_word, unreadable_word, over_long_word, data_word}
use Rattle.report_text.specs.Claims.{ReportShort, ReportRoom, TextExamples}

numbered_short : (w : List ℕ) (n : ℕ) → n < 2 ^ 64 → length (numbered w n) ≤ length w + 20
unfolding numbered
numbered_short w n h = omega (arith, length-append w (decimal n), decimal_short n h)

line_short : (w : List ℕ) (n : ℕ) → n < 2 ^ 64 → length (number_line w n) ≤ length w + 21
unfolding number_line
line_short w n h = omega (arith, length-append (numbered w n) (10 ∷ []), numbered_short w n h)

row_short : (w : List ℕ) (a b : ℕ) → a < 2 ^ 64 → b < 2 ^ 64 → length w ≤ 20 → length (row_line w a b) ≤ 68
unfolding row_line
row_short w a b h k l = omega (arith, length-append (numbered w a) (number_line wrong_word b), numbered_short w a h, line_short wrong_word b k)

module _ (ws : List ℕ) (h : (i : ℕ) → get_or ws i 0 < 2 ^ 64) where
  table_short : length (table_lines ws) ≤ 272
  unfolding table_lines
  table_short =
      let a : List ℕ = row_line full_word (get_or ws 1 0) (get_or ws 2 0) in
      let b : List ℕ = row_line first_word (get_or ws 3 0) (get_or ws 4 0) in
      let c : List ℕ = row_line middle_word (get_or ws 5 0) (get_or ws 6 0) in
      let d : List ℕ = row_line last_word (get_or ws 7 0) (get_or ws 8 0) in
      omega (
        arith,
        length-append a (b ++ (c ++ d)),
        length-append b (c ++ d),
        length-append c d,
        row_short full_word _ _ (h 1) (h 2) (omega arith),
        row_short first_word _ _ (h 3) (h 4) (omega arith),
        row_short middle_word _ _ (h 5) (h 6) (omega arith),
        row_short last_word _ _ (h 7) (h 8) (omega arith),
      )

  others_short : length (other_lines ws) ≤ 89
  unfolding other_lines
  others_short =
      let a : List ℕ = number_line unreadable_word (get_or ws 9 0) in
      let b : List ℕ = number_line over_long_word (get_or ws 10 0) in
      let c : List ℕ = number_line data_word (get_or ws 11 0) in
      omega
      (arith, length-append a (b ++ c), length-append b c, line_short unreadable_word _ (h 9), line_short over_long_word _ (h 10), line_short data_word _ (h 11))

  counts_short : length (count_lines ws) ≤ 387
  unfolding count_lines
  counts_short =
      omega (
        arith,
        length-append (number_line logs_word (get_or ws 0 0)) (table_lines ws ++ other_lines ws),
        length-append (table_lines ws) (other_lines ws),
        line_short logs_word _ (h 0),
        table_short,
        others_short,
      )

mean_short : (n bytes : ℕ) → n < 2 ^ 64 → bytes < 2 ^ 64 → length (mean_line (Ok (mean_of n bytes))) ≤ 83
unfolding mean_of mean_line
mean_short zero bytes h k = omega arith
mean_short (suc n) bytes h k =
    let a : List ℕ = numbered mean_word (bytes / suc n) in
    let b : List ℕ = numbered remainder_word (bytes % suc n) in
    let c : List ℕ = number_line over_word (suc n) in
    let w : bytes / suc n ≤ bytes = div-le_self bytes (suc n) in
    let r : bytes % suc n < suc n = mod-lt bytes (omega arith) in
    omega (
      arith,
      length-append a (b ++ c),
      length-append b c,
      numbered_short mean_word (bytes / suc n) (omega arith),
      numbered_short remainder_word (bytes % suc n) (omega arith),
      line_short over_word (suc n) h,
    )

refusal_short : length (refusal 6) ≤ 1024
unfolding refusal number_line numbered decimal decimal_in digit
refusal_short = let l : length (refusal 6) ≡ 10 = refl in omega (arith, l)

mean_is : (report : List ℕ) → report_arranged report ≡ true → mean_answer report ≡ Ok (mean_of (sound_frames (report_numbers report)) (get_or (report_numbers report) 11 0))
unfolding mean_answer
mean_is report e = ap (λ (b : Bool). cond b (Ok (mean_of (sound_frames (report_numbers report)) (get_or (report_numbers report) 11 0))) (Err not_arranged)) e

pub report_short : ReportShort
unfolding report_text sound_frames
report_short report = go (report_arranged report) refl
  where
    go : (b : Bool) → report_arranged report ≡ b → length (cond b (count_lines (report_numbers report) ++ mean_line (mean_answer report)) (refusal 6)) ≤ 1024
    go false e = refusal_short
    go true e =
        let s = report_bound report e in
        omega (
          arith,
          length-append (count_lines (report_numbers report)) (mean_line (mean_answer report)),
          counts_short (report_numbers report) (λ i. omega (arith, s i)),
          ap (λ (m : MeanAnswer). length (mean_line m)) (mean_is report e),
          mean_short (sound_frames (report_numbers report)) (get_or (report_numbers report) 11 0) (omega (arith, s 1, s 3, s 5, s 7)) (omega (arith, s 11)),
        )

pub report_room : ReportRoom
report_room report room h = sym (listed-whole room (length (report_text report)) (omega (arith, report_short report)))

pub text_examples : TextExamples
unfolding row_line mean_line refused_line number_line numbered decimal decimal_in digit
text_examples = record { row = refl; some = refl; none = refl; card = refl }
