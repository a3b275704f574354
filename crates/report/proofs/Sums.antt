-- Many logs fed one after another: the numbers are the sums.
-- Assumes nothing.
use mathlib.Core.Path.{◌≡◌, refl, sym, ap, ap₂, ◌∙◌}
use mathlib.Core.Bool.{Bool, true, false, cond}
use mathlib.Core.List.{List, [], ◌∷◌}
use Prim.Native.Nat.{ℕ, zero, suc, ◌+◌, ◌-◌}
use native.Mathlib.Omega.{arith}
use lib.Dec.{leb}
use lib.ListN.{length, get_or, take, replicate}
use borrow.Author.Tests.{leb-true, leb-false}
use Rattle.frame.specs.declared.FrameType.TheVariants.{Full as full, First as first, Middle as middle, Last as last}
use Rattle.calls.specs.Refusals.{log_refused}
use Rattle.report_frames.specs.declared.Seen.{Seen}
use Rattle.report_frames.specs.declared.Seen.TheVariants.{Right as right, Wrong as wrong, Unreadable as unreadable, OverLong as over_long}
use Rattle.report_frames.specs.Seen.{frames_read}
use Rattle.report_frames.specs.Tally.{row_of, is_right, one, times, tally}
use Rattle.report_count.specs.Sums.{plus}
use Rattle.report_count.proofs.Plus.{get_d_plus, length-plus, plus_assoc}
use Rattle.report.specs.Layout.{report_numbers, most_logs, report_arranged}
use Rattle.report.specs.Feed.{feed_refusal, fed_report, feed_left, sound_frames}
use Rattle.report.specs.Claims.{feed_all, kept_by, logs_kept, sums, logs_sized, is_sound, sound_sum, data_sum}
use Rattle.report.proofs.Bounds.{length-tally}
use Rattle.report.proofs.Refusing.{length-numbers, by_log, by_full, by_none, feed_passed}
use Rattle.report.proofs.Left.{left-fed, left_kept, fed_numbers, fed_arranged}

-- ---- zeros add nothing

pub zeros-left : (n : ℕ) (ys : List ℕ) → length ys ≡ n → plus (replicate n 0) ys ≡ ys
unfolding plus
zeros-left zero ys h = refl
zeros-left (suc n) [] h = absurd (omega arith)
zeros-left (suc n) (y ∷ ys) h =
    let e : 0 + y ≡ y = omega arith in
    ap₂ (λ (a : ℕ) (l : List ℕ). a ∷ l) e (zeros-left n ys (omega arith))

zeros_right : (n : ℕ) (xs : List ℕ) → length xs ≡ n → plus xs (replicate n 0) ≡ xs
unfolding plus
zeros_right zero [] h = refl
zeros_right zero (x ∷ xs) h = absurd (omega arith)
zeros_right (suc n) [] h = absurd (omega arith)
zeros_right (suc n) (x ∷ xs) h =
    let e : x + 0 ≡ x = omega arith in
    ap₂ (λ (a : ℕ) (l : List ℕ). a ∷ l) e (zeros_right n xs (omega arith))

pub length-sums : (logs : List (List ℕ)) → length (sums logs) ≡ 12
unfolding sums
length-sums [] = refl
length-sums (log ∷ logs) =
    length-plus (tally (frames_read log)) (sums logs) (length-tally (frames_read log) ∙ sym (length-sums logs)) ∙ length-tally (frames_read log)

-- ---- one log after another

kept_log : (report log : List ℕ) (logs : List (List ℕ)) → feed_refusal report log ≡ 0
    → logs_kept report (log ∷ logs) ≡ log ∷ logs_kept (fed_report report log) logs
unfolding logs_kept kept_by
kept_log report log logs e =
    ap₂ (λ (n : ℕ) (r : List ℕ). kept_by n log (logs_kept r logs)) e (left-fed report log e)

kept_not : (report log : List ℕ) (logs : List (List ℕ)) (n : ℕ) → feed_refusal report log ≡ suc n → logs_kept report (log ∷ logs) ≡ logs_kept report logs
unfolding logs_kept kept_by
kept_not report log logs n e =
    ap₂ (λ (n : ℕ) (r : List ℕ). kept_by n log (logs_kept r logs)) e (left_kept report log n e)

fed_on : (report log : List ℕ) (logs : List (List ℕ)) → feed_refusal report log ≡ 0 → feed_all report (log ∷ logs) ≡ feed_all (fed_report report log) logs
unfolding feed_all
fed_on report log logs e = ap (λ (r : List ℕ). feed_all r logs) (left-fed report log e)

fed_not : (report log : List ℕ) (logs : List (List ℕ)) (n : ℕ) → feed_refusal report log ≡ suc n → feed_all report (log ∷ logs) ≡ feed_all report logs
unfolding feed_all
fed_not report log logs n e = ap (λ (r : List ℕ). feed_all r logs) (left_kept report log n e)

-- ---- the sums, from any report

pub fed-sums : (report : List ℕ) (logs : List (List ℕ)) → report_numbers (feed_all report logs) ≡ plus (report_numbers report) (sums (logs_kept report logs))
unfolding feed_all logs_kept sums
fed-sums report [] = sym (zeros_right 12 (report_numbers report) (length-numbers report))
fed-sums report (log ∷ logs) = go (feed_refusal report log) refl (fed-sums report logs) (fed-sums (fed_report report log) logs)
  where
    go : (n : ℕ) → feed_refusal report log ≡ n → report_numbers (feed_all report logs) ≡ plus (report_numbers report) (sums (logs_kept report logs))
        → report_numbers (feed_all (fed_report report log) logs) ≡ plus (report_numbers (fed_report report log)) (sums (logs_kept (fed_report report log) logs))
        → report_numbers (feed_all report (log ∷ logs)) ≡ plus (report_numbers report) (sums (logs_kept report (log ∷ logs)))
    go (suc n) e f g =
        ap report_numbers (fed_not report log logs n e)
        ∙ f
        ∙ ap (λ (ls : List (List ℕ)). plus (report_numbers report) (sums ls)) (sym (kept_not report log logs n e))
    go zero e f g =
        ap report_numbers (fed_on report log logs e)
        ∙ g
        ∙ ap (λ (ws : List ℕ). plus ws (sums (logs_kept (fed_report report log) logs))) (fed_numbers report log (feed_passed report log e))
        ∙ plus_assoc (report_numbers report) (tally (frames_read log)) (sums (logs_kept (fed_report report log) logs))
        ∙ ap (λ (ls : List (List ℕ)). plus (report_numbers report) (sums ls)) (sym (kept_log report log logs e))

pub all_arranged : (report : List ℕ) (logs : List (List ℕ)) → report_arranged report ≡ true → report_arranged (feed_all report logs) ≡ true
unfolding feed_all
all_arranged report [] a = a
all_arranged report (log ∷ logs) a = all_arranged (feed_left report log) logs (go (feed_refusal report log) refl)
  where
    go : (n : ℕ) → feed_refusal report log ≡ n → report_arranged (feed_left report log) ≡ true
    go zero e = ap report_arranged (left-fed report log e) ∙ fed_arranged report log (feed_passed report log e)
    go (suc n) e = ap report_arranged (left_kept report log n e) ∙ a

-- ---- which logs are kept

module _ (report log : List ℕ) (logs : List (List ℕ)) where
  sized_not : log_refused log ≡ true → logs_sized (log ∷ logs) ≡ logs_sized logs
  unfolding logs_sized
  sized_not e = ap (λ (b : Bool). cond b (logs_sized logs) (log ∷ logs_sized logs)) e

  sized_log : log_refused log ≡ false → logs_sized (log ∷ logs) ≡ log ∷ logs_sized logs
  unfolding logs_sized
  sized_log e = ap (λ (b : Bool). cond b (logs_sized logs) (log ∷ logs_sized logs)) e

take-one : (m n : ℕ) (log : List ℕ) (ls : List (List ℕ)) → m ≡ suc n → take m (log ∷ ls) ≡ log ∷ take n ls
take-one m n log ls e = ap (λ (k : ℕ). take k (log ∷ ls)) e

take_none : (m : ℕ) (ls : List (List ℕ)) → m ≡ 0 → take m ls ≡ []
take_none m ls e = ap (λ (k : ℕ). take k ls) e

fed_logs : (report log : List ℕ) → feed_refusal report log ≡ 0 → get_or (report_numbers (fed_report report log)) 0 0 ≡ get_or (report_numbers report) 0 0 + 1
unfolding tally
fed_logs report log e =
    ap (λ (ws : List ℕ). get_or ws 0 0) (fed_numbers report log (feed_passed report log e)) ∙ get_d_plus (report_numbers report) (tally (frames_read log)) 0

pub kept_are : (report : List ℕ) (logs : List (List ℕ)) → report_arranged report ≡ true
    → logs_kept report logs ≡ take (most_logs - get_or (report_numbers report) 0 0) (logs_sized logs)
unfolding logs_kept logs_sized
kept_are report [] a = empty (most_logs - get_or (report_numbers report) 0 0)
  where
    empty : (m : ℕ) → ◌≡◌ {A = List (List ℕ)} [] (take m [])
    empty zero = refl
    empty (suc m) = refl
kept_are report (log ∷ logs) a =
    go (log_refused log) refl (leb most_logs (get_or (report_numbers report) 0 0)) refl (kept_are report logs a)
    (λ e. kept_are (fed_report report log) logs (fed_arranged report log (feed_passed report log e)))
  where
    n : ℕ
    n = get_or (report_numbers report) 0 0

    go : (b : Bool) → log_refused log ≡ b → (c : Bool) → leb most_logs n ≡ c → logs_kept report logs ≡ take (most_logs - n) (logs_sized logs)
        → (feed_refusal report log ≡ 0 → logs_kept (fed_report report log) logs ≡ take (most_logs - get_or (report_numbers (fed_report report log)) 0 0) (logs_sized logs))
        → logs_kept report (log ∷ logs) ≡ take (most_logs - n) (logs_sized (log ∷ logs))
    go true eb c ec f g =
        kept_not report log logs 0 (sym (by_log report log eb)) ∙ f ∙ ap (take (most_logs - n)) (sym (sized_not report log logs eb))
    go false eb true ec f g =
        kept_not report log logs 16 (sym (by_full report log eb a ec))
        ∙ f
        ∙ take_none (most_logs - n) (logs_sized logs) (omega (arith, leb-true most_logs n ec))
        ∙ sym (take_none (most_logs - n) (logs_sized (log ∷ logs)) (omega (arith, leb-true most_logs n ec)))
    go false eb false ec f g =
        let e : feed_refusal report log ≡ 0 = sym (by_none report log eb a ec) in
        let m : most_logs - n ≡ suc (most_logs - get_or (report_numbers (fed_report report log)) 0 0) = omega (arith, leb-false most_logs n ec, fed_logs report log e) in
        kept_log report log logs e
        ∙ ap (λ (ls : List (List ℕ)). log ∷ ls) (g e)
        ∙ sym (take-one (most_logs - n) (most_logs - get_or (report_numbers (fed_report report log)) 0 0) log (logs_sized logs) m)
        ∙ ap (take (most_logs - n)) (sym (sized_log report log logs eb))

-- ---- the sums, number by number

pub sums_logs : (logs : List (List ℕ)) → get_or (sums logs) 0 0 ≡ length logs
unfolding sums tally
sums_logs [] = refl
sums_logs (log ∷ logs) = omega (arith, get_d_plus (tally (frames_read log)) (sums logs) 0, sums_logs logs)

pub sums_data : (logs : List (List ℕ)) → get_or (sums logs) 11 0 ≡ data_sum logs
unfolding sums data_sum tally
sums_data [] = refl
sums_data (log ∷ logs) = omega (arith, get_d_plus (tally (frames_read log)) (sums logs) 11, sums_data logs)

one_sound : (s : Seen) → one (is_right 0 s) + one (is_right 1 s) + one (is_right 2 s) + one (is_right 3 s) ≡ one (is_sound s)
unfolding one is_right is_sound row_of
one_sound (right full n) = refl
one_sound (right first n) = refl
one_sound (right middle n) = refl
one_sound (right last n) = refl
one_sound (wrong t) = refl
one_sound unreadable = refl
one_sound over_long = refl

all_sound : (ss : List Seen) → times (is_right 0) ss + times (is_right 1) ss + times (is_right 2) ss + times (is_right 3) ss ≡ times is_sound ss
unfolding times
all_sound [] = refl
all_sound (s ∷ ss) = omega (arith, one_sound s, all_sound ss)

pub sums_sound : (logs : List (List ℕ)) → sound_frames (sums logs) ≡ sound_sum logs
unfolding sound_frames sums sound_sum tally
sums_sound [] = refl
sums_sound (log ∷ logs) =
    omega (
      arith,
      get_d_plus (tally (frames_read log)) (sums logs) 1,
      get_d_plus (tally (frames_read log)) (sums logs) 3,
      get_d_plus (tally (frames_read log)) (sums logs) 5,
      get_d_plus (tally (frames_read log)) (sums logs) 7,
      all_sound (frames_read log),
      sums_sound logs,
    )
