-- The text of a report put together from its pieces.
-- Assumes nothing.
use mathlib.Core.Path.{◌≡◌, sym, ap, ap₂, subst, ◌∙◌}
use mathlib.Core.Bool.{Bool, true, false, cond}
use mathlib.Core.List.{List, ◌++◌}
use Prim.Native.Nat.{ℕ}
use lib.ListN.{length, get_or, length-replicate}
use Rattle.slices.specs.Bytes.{zeros}
use Rattle.std.specs.Prelude.{Option}
use Rattle.report.specs.declared.MeanLength.{MeanLength}
use Rattle.listing.specs.Writing.{written, listed}
use Rattle.listing.specs.Internal.{Wrote, Lists}
use Rattle.listing.specs.Listing.{numbered, number_line, refused_word, space, line_feed, refusal}
use Rattle.listing.proofs.Writes.{on, reads, wrote-length, listed-behind}
use Rattle.std.specs.Prelude.{None, Ok, Err}
use Rattle.report.specs.declared.ReportRefusal.{ReportRefusal}
use Rattle.report.specs.Layout.{report_numbers, report_arranged}
use Rattle.report.proofs.Refusing.{Arranged}
use Rattle.report.specs.Feed.{refusal_number, MeanAnswer, mean, mean_answer}
use Rattle.report_text.specs.Text.{logs_word, full_word, first_word, middle_word, last_word, wrong_word, unreadable_word, over_long_word, data_word, mean_word, remainder_word, over_word, no_mean_line}
use Rattle.report_text.specs.Text.{row_line, table_lines, other_lines, mean_line, count_lines, report_text, refused_line}

pub row_on : {s t u : List ℕ} {p q r : ℕ} (w : List ℕ) (a b : ℕ) → Wrote s p (numbered w a) q t → Wrote t q (number_line wrong_word b) r u → Wrote s p (row_line w a b) r u
unfolding row_line
row_on w a b x y = on x y

pub table_on : {s t u v z : List ℕ} {p q r m n : ℕ} (ws : List ℕ) → Wrote s p (row_line full_word (get_or ws 1 0) (get_or ws 2 0)) q t
    → Wrote t q (row_line first_word (get_or ws 3 0) (get_or ws 4 0)) r u → Wrote u r (row_line middle_word (get_or ws 5 0) (get_or ws 6 0)) m v
    → Wrote v m (row_line last_word (get_or ws 7 0) (get_or ws 8 0)) n z → Wrote s p (table_lines ws) n z
unfolding table_lines
table_on ws a b c d = on a (on b (on c d))

pub others_on : {s t u v : List ℕ} {p q r m : ℕ} (ws : List ℕ) → Wrote s p (number_line unreadable_word (get_or ws 9 0)) q t
    → Wrote t q (number_line over_long_word (get_or ws 10 0)) r u → Wrote u r (number_line data_word (get_or ws 11 0)) m v → Wrote s p (other_lines ws) m v
unfolding other_lines
others_on ws a b c = on a (on b c)

pub counts_on : {s t u v : List ℕ} {p q r m : ℕ} (ws : List ℕ) → Wrote s p (number_line logs_word (get_or ws 0 0)) q t
    → Wrote t q (table_lines ws) r u → Wrote u r (other_lines ws) m v → Wrote s p (count_lines ws) m v
unfolding count_lines
counts_on ws a b c = on a (on b c)

pub parts_on : {s t u v : List ℕ} {p q r m : ℕ} (w k n : ℕ) → Wrote s p (numbered mean_word w) q t → Wrote t q (numbered remainder_word k) r u
    → Wrote u r (number_line over_word n) m v → Wrote s p (mean_line (Ok (mean w k n))) m v
unfolding mean_line
parts_on w k n a b c = on a (on b c)

-- ---- the mean's line by its cases

pub mean_is : {s t : List ℕ} {p q : ℕ} (a : MeanAnswer) (m n : Option MeanLength) → a ≡ Ok m → m ≡ n → Wrote s p (mean_line (Ok n)) q t → Wrote s p (mean_line a) q t
mean_is a m n e f x = reads (ap (λ (y : Option MeanLength). mean_line (Ok y)) (sym f) ∙ ap mean_line (sym e)) x

pub none_is : {s t : List ℕ} {p q : ℕ} (a : MeanAnswer) (m : Option MeanLength) → a ≡ Ok m → m ≡ None → Wrote s p no_mean_line q t → Wrote s p (mean_line a) q t
unfolding mean_line
none_is a m e f x = mean_is a m None e f x

pub refused_is : {s t : List ℕ} {p q : ℕ} (a : MeanAnswer) (k : ReportRefusal) {n : ℕ} → a ≡ Err k → n ≡ refusal_number k → Wrote s p (number_line refused_word n) q t → Wrote s p (mean_line a) q t
unfolding mean_line refusal
refused_is a k e f x = reads (ap (number_line refused_word) f ∙ ap mean_line (sym e)) x

-- ---- a whole text

lists : {s u : List ℕ} {q : ℕ} {xs : List ℕ} (a : Option ℕ) → Wrote s 0 xs q u → a ≡ listed (length u) q → Lists s xs a u
lists {s} {u} {q} {xs} a w is = (is ∙ ap₂ listed (wrote-length w) w.place ∙ listed-behind (length s) (length xs), w.buffer)

text_is : (report : List ℕ) → report_arranged report ≡ true → count_lines (report_numbers report) ++ mean_line (mean_answer report) ≡ report_text report
unfolding report_text
text_is report e = sym (ap (λ (b : Bool). cond b (count_lines (report_numbers report) ++ mean_line (mean_answer report)) (refusal 6)) e)

text_not : (report : List ℕ) → report_arranged report ≡ false → refusal 6 ≡ report_text report
unfolding report_text
text_not report e = sym (ap (λ (b : Bool). cond b (count_lines (report_numbers report) ++ mean_line (mean_answer report)) (refusal 6)) e)

pub arranged_on : {s t u : List ℕ} {p q : ℕ} (ns : List ℕ) (m : MeanAnswer) (a : Option ℕ) → Wrote s 0 (count_lines ns) p t → Wrote t p (mean_line m) q u
    → a ≡ listed (length u) q → Lists s (count_lines ns ++ mean_line m) a u
arranged_on ns m a x y is = lists a (on x y) is

pub line_on : {s t u v z : List ℕ} {p q r m : ℕ} (n : ℕ) (name : List ℕ) (a : Option ℕ) → Wrote s 0 (numbered refused_word n) p t → Wrote t p space q u
    → Wrote u q name r v → Wrote v r line_feed m z → a ≡ listed (length z) m → Lists s (refused_line n name) a z
unfolding refused_line
line_on n name a w x y z is = lists a (on w (on x (on y z))) is

-- in a buffer that was cleared before
cleared : (s z u text : List ℕ) (a : Option ℕ) → z ≡ zeros (length s) → Lists z text a u
    → (a ≡ listed (length s) (length text)) × (u ≡ written (zeros (length s)) 0 text)
cleared s z u text a e l = (
  l.0 ∙ ap (λ (n : ℕ). listed n (length text)) (ap length e ∙ length-replicate {A = ℕ} (length s) 0),
  l.1 ∙ ap (λ (b : List ℕ). written b 0 text) e,
)

pub whole_text : (s z u report ns : List ℕ) (m : MeanAnswer) (a : Option ℕ) → Arranged report ns → m ≡ mean_answer report → z ≡ zeros (length s)
    → Lists z (count_lines ns ++ mean_line m) a u
    → (a ≡ listed (length s) (length (report_text report))) × (u ≡ written (zeros (length s)) 0 (report_text report))
whole_text s z u report ns m a w em e l =
    let is = ap₂ (λ (l : List ℕ) (k : MeanAnswer). count_lines l ++ mean_line k) w.numbers em ∙ text_is report w.whole in
    cleared s z u (report_text report) a e (subst (λ (text : List ℕ). Lists z text a u) is l)

pub refused_text : (s z u report : List ℕ) (a : Option ℕ) → report_arranged report ≡ false → z ≡ zeros (length s) → Lists z (refusal 6) a u
    → (a ≡ listed (length s) (length (report_text report))) × (u ≡ written (zeros (length s)) 0 (report_text report))
refused_text s z u report a n e l =
    cleared s z u (report_text report) a e (subst (λ (text : List ℕ). Lists z text a u) (text_not report n) l)
