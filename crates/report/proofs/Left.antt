-- What a feeding leaves: read again, its numbers are the sums, and it is arranged.
-- Assumes nothing.
use mathlib.Core.Path.{◌≡◌, refl, sym, ap, subst, ◌∙◌}
use mathlib.Core.Bool.{Bool, true, false, cond}
use mathlib.Core.List.{List, [], ◌∷◌, ◌++◌, append-nil}
use Prim.Native.Nat.{ℕ, zero, suc, ◌*◌, ◌/◌, ◌%◌, ◌≤◌}
use native.Mathlib.Omega.{arith}
use lib.ListN.{length, get_or, drop}
use lib.Seq.{drop-length}
use borrow.Author.Tests.{eq-eqb}
use Rattle.fields.specs.Le.{le_bytes}
use Rattle.queues.proofs.Both.{both}
use Rattle.abi_queues.specs.Words.{words_from}
use Rattle.abi_queues.specs.Packing.{word_bytes, WordsStored}
use Rattle.abi_queues.proofs.Laws.{length-word_bytes, words_back}
use Rattle.report_frames.specs.Seen.{frames_read}
use Rattle.report_frames.specs.Tally.{tally}
use Rattle.report_count.specs.Sums.{plus}
use Rattle.report_count.specs.Table.{NumbersFit}
use Rattle.std.specs.Prelude.{Option, None, Ok, Err}
use Rattle.report.specs.declared.ReportRefusal.{ReportRefusal}
use Rattle.report.specs.declared.ReportRefusal.TheVariants.{LogSize as log_size, NotArranged as not_arranged, ReportFull as report_full}
use Rattle.report.specs.declared.MeanLength.{MeanLength}
use Rattle.report.specs.Layout.{report_numbers, number_bytes, numbers_arranged, report_arranged}
use Rattle.report.specs.Internal.{NumbersOk}
use Rattle.report.specs.Feed.{feed_refusal, refusal_of, feed_answer_by, feed_answer, fed_report, feed_left_by, feed_left, mean, mean_of, sound_frames, mean_answer}
use Rattle.report.proofs.Bounds.{ok_numbers, ok_small, fed_ok, length-fed}
use Rattle.report.proofs.Refusing.{length-numbers, FeedPassed}

-- ---- the two cases

pub left-fed : (report log : List ℕ) → feed_refusal report log ≡ 0 → feed_left report log ≡ fed_report report log
unfolding feed_left feed_left_by
left-fed report log e = ap (λ (n : ℕ). feed_left_by n report log) e

pub left_kept : (report log : List ℕ) (n : ℕ) → feed_refusal report log ≡ suc n → feed_left report log ≡ report
unfolding feed_left feed_left_by
left_kept report log n e = ap (λ (n : ℕ). feed_left_by n report log) e

-- no refusal, so the number is 0
pub passes : (report log : List ℕ) → Ok tt ≡ feed_answer report log → feed_refusal report log ≡ 0
unfolding feed_answer feed_answer_by
passes report log e = go (feed_refusal report log) e
  where
    go : (n : ℕ) → Ok tt ≡ feed_answer_by n → n ≡ 0
    go zero e = refl
    go (suc n) e = absurd (let z : ◌≡◌ {A = ℕ} 0 1 = cc in omega arith)

-- refused: the report is left as it was
pub kept_as : (report log : List ℕ) (k : ReportRefusal) → Err k ≡ feed_answer report log → report ≡ feed_left report log
unfolding feed_answer feed_answer_by feed_left feed_left_by
kept_as report log k e = go (feed_refusal report log) e
  where
    go : (n : ℕ) → Err k ≡ feed_answer_by n → report ≡ feed_left_by n report log
    go zero e = absurd (let z : ◌≡◌ {A = ℕ} 0 1 = cc in omega arith)
    go (suc n) e = refl

-- the answer of each number
pub answer_none : (report log : List ℕ) → 0 ≡ feed_refusal report log → Ok tt ≡ feed_answer report log
unfolding feed_answer feed_answer_by
answer_none report log e = ap feed_answer_by e

pub answer_log : (report log : List ℕ) → 1 ≡ feed_refusal report log → Err log_size ≡ feed_answer report log
unfolding feed_answer feed_answer_by refusal_of
answer_log report log e = ap feed_answer_by e

pub answer_report : (report log : List ℕ) → 6 ≡ feed_refusal report log → Err not_arranged ≡ feed_answer report log
unfolding feed_answer feed_answer_by refusal_of
answer_report report log e = ap feed_answer_by e

pub answer_full : (report log : List ℕ) → 17 ≡ feed_refusal report log → Err report_full ≡ feed_answer report log
unfolding feed_answer feed_answer_by refusal_of
answer_full report log e = ap feed_answer_by e

-- ---- a log counted in

same_bytes_lem : (ws : List ℕ) → number_bytes ws ≡ word_bytes ws
unfolding number_bytes word_bytes
same_bytes_lem [] = refl
same_bytes_lem (w ∷ ws) = ap (λ (l : List ℕ). le_bytes 8 w ++ l) (same_bytes_lem ws)

module _ (report log : List ℕ) (p : FeedPassed report log) where
  fed-numbers_ok : NumbersOk (plus (report_numbers report) (tally (frames_read log)))
  fed-numbers_ok = fed_ok (report_numbers report) log p.ok.numbers p.room p.sized.some p.sized.most

  fed_long : length (plus (report_numbers report) (tally (frames_read log))) ≡ 12
  fed_long = length-fed (report_numbers report) log (length-numbers report)

  pub numbers_fit : (ws : List ℕ) → ws ≡ report_numbers report → NumbersFit ws log
  numbers_fit ws e = subst (λ (ws : List ℕ). NumbersFit ws log) (sym e)
      (λ i. omega (arith, ok_small (plus (report_numbers report) (tally (frames_read log))) fed_long fed-numbers_ok i))

  pub fed_numbers : report_numbers (fed_report report log) ≡ plus (report_numbers report) (tally (frames_read log))
  unfolding report_numbers fed_report
  fed_numbers =
      ap (words_from 12) (same_bytes_lem ws ∙ sym (append-nil (word_bytes ws)))
      ∙ ap (λ (n : ℕ). words_from n (word_bytes ws ++ [])) (sym fed_long)
      ∙ words_back ws [] (λ i. omega (arith, ok_small ws fed_long fed-numbers_ok i))
    where
      ws : List ℕ
      ws = plus (words_from 12 report) (tally (frames_read log))

  pub fed_length : length (fed_report report log) ≡ 96
  unfolding fed_report
  fed_length = omega (arith, ap length (same_bytes_lem (plus (report_numbers report) (tally (frames_read log)))), length-word_bytes (plus (report_numbers report) (tally (frames_read log))), fed_long)

  pub fed_arranged : report_arranged (fed_report report log) ≡ true
  unfolding report_arranged
  fed_arranged =
      both (eq-eqb (length (fed_report report log)) 96 fed_length) (ap numbers_arranged fed_numbers ∙ ok_numbers (plus (report_numbers report) (tally (frames_read log))) fed-numbers_ok)

  -- as the code stores it
  module _ (ns ws : List ℕ) (en : ns ≡ report_numbers report) (ew : ws ≡ plus ns (tally (frames_read log))) where
    pub pack_room : 8 * length ws ≤ length report
    pack_room = omega (arith, ap length ew, ap (λ (l : List ℕ). length (plus l (tally (frames_read log)))) en, fed_long, p.ok.long)

    pub stored : (after : List ℕ) → WordsStored ws report after → after ≡ fed_report report log
    unfolding fed_report
    stored after s =
        s.stored
        ∙ ap (λ (l : List ℕ). word_bytes ws ++ l)
        (ap (λ (n : ℕ). drop n report)
        (let z : 8 * length ws ≡ length report
        = omega (arith, ap length ew, ap (λ (l : List ℕ). length (plus l (tally (frames_read log)))) en, fed_long, p.ok.long) in z)
        ∙ drop-length report)
        ∙ append-nil (word_bytes ws)
        ∙ sym (same_bytes_lem ws)
        ∙ ap number_bytes (ew ∙ ap (λ (l : List ℕ). plus l (tally (frames_read log))) en)

-- ---- numbers and means

pub mean_some : (n bytes : ℕ) → (n ≡ 0 → ⊥) → mean (bytes / n) (bytes % n) n ≡ mean_of n bytes
unfolding mean_of
mean_some zero bytes h = absurd (h refl)
mean_some (suc n) bytes h = refl

pub mean_none : (n bytes : ℕ) → n ≡ 0 → None ≡ mean_of n bytes
unfolding mean_of
mean_none n bytes e = sym (ap (λ (n : ℕ). mean_of n bytes) e)

pub mean_refused : (report : List ℕ) → report_arranged report ≡ false → Err not_arranged ≡ mean_answer report
unfolding mean_answer
mean_refused report e =
    sym (ap (λ (a : Bool). cond a (Ok (mean_of (sound_frames (report_numbers report)) (get_or (report_numbers report) 11 0))) (Err not_arranged)) e)

pub mean_given : (report : List ℕ) (m : Option MeanLength) → report_arranged report ≡ true
    → m ≡ mean_of (sound_frames (report_numbers report)) (get_or (report_numbers report) 11 0) → Ok m ≡ mean_answer report
unfolding mean_answer
mean_given report m e f =
    ap Ok f ∙ sym (ap (λ (a : Bool). cond a (Ok (mean_of (sound_frames (report_numbers report)) (get_or (report_numbers report) 11 0))) (Err not_arranged)) e)
