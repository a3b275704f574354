-- The numbers of an arranged report one by one, and that they are arranged again after one log more.
-- Assumes nothing.
use mathlib.Core.Path.{◌≡◌, refl, sym, ap, ◌∙◌}
use mathlib.Core.Logic.{◌⊎◌, inl, inr}
use mathlib.Core.Bool.{true, ◌&&◌}
use mathlib.Core.List.{List}
use Prim.Native.Nat.{ℕ, zero, suc, ◌+◌, ◌*◌, ◌≤◌, ◌<◌}
use native.Mathlib.Omega.{arith}
use lib.Dec.{leb}
use lib.ListN.{length, get_or, take, drop, length-take, get_or-eq_default}
use lib.Seq.{get_or-take, get_or-drop}
use borrow.Author.Tests.{leb-true, le-leb}
use Rattle.queues.proofs.Both.{and_left, and_right, both}
use Rattle.frame.specs.Block.{blocks}
use Rattle.frame.proofs.Tests.{le_or_lt}
use Rattle.report_frames.specs.declared.Seen.{Seen}
use Rattle.report_frames.specs.Seen.{frames_read}
use Rattle.report_frames.specs.Tally.{tally}
use Rattle.report_frames.proofs.Claims.{frames_bound, data_bound}
use Rattle.report_count.specs.Sums.{plus}
use Rattle.report_count.proofs.Plus.{get_d_plus, length-plus}
use Rattle.report.specs.Layout.{most_logs, most_frames, most_data, all_within, numbers_arranged}
use Rattle.report.specs.Internal.{NumbersOk}
use Rattle.report.proofs.Within.{within_at, at_within}

-- the ten counts of frames
counts_at : (ws : List ℕ) (i : ℕ) → i < 10 → get_or (take 10 (drop 1 ws)) i 0 ≡ get_or ws (suc i) 0
counts_at ws i h =
    get_or-take 10 (drop 1 ws) i 0 h ∙ get_or-drop 1 ws i 0 ∙ ap (λ (n : ℕ). get_or ws n 0) (let e : 1 + i ≡ suc i = omega arith in e)

counts_past : (ws : List ℕ) (i : ℕ) → 10 ≤ i → get_or (take 10 (drop 1 ws)) i 0 ≡ 0
counts_past ws i h = get_or-eq_default (take 10 (drop 1 ws)) 0 {n = i} (omega (arith, length-take 10 (drop 1 ws)))

pub numbers_ok : (ws : List ℕ) → numbers_arranged ws ≡ true → NumbersOk ws
unfolding numbers_arranged
numbers_ok ws h = record {
  logs = leb-true (get_or ws 0 0) most_logs a;
  frames = λ i l. omega (arith, within_at (get_or ws 0 0 * most_frames) (take 10 (drop 1 ws)) b i, counts_at ws i l);
  bytes = leb-true (get_or ws 11 0) (get_or ws 0 0 * most_data) c;
}
  where
    a : leb (get_or ws 0 0) most_logs ≡ true
    a = and_left (leb (get_or ws 0 0) most_logs) (all_within (get_or ws 0 0 * most_frames) (take 10 (drop 1 ws)) && leb (get_or ws 11 0) (get_or ws 0 0 * most_data)) h

    r : all_within (get_or ws 0 0 * most_frames) (take 10 (drop 1 ws)) && leb (get_or ws 11 0) (get_or ws 0 0 * most_data) ≡ true
    r = and_right (leb (get_or ws 0 0) most_logs) (all_within (get_or ws 0 0 * most_frames) (take 10 (drop 1 ws)) && leb (get_or ws 11 0) (get_or ws 0 0 * most_data)) h

    b : all_within (get_or ws 0 0 * most_frames) (take 10 (drop 1 ws)) ≡ true
    b = and_left (all_within (get_or ws 0 0 * most_frames) (take 10 (drop 1 ws))) (leb (get_or ws 11 0) (get_or ws 0 0 * most_data)) r

    c : leb (get_or ws 11 0) (get_or ws 0 0 * most_data) ≡ true
    c = and_right (all_within (get_or ws 0 0 * most_frames) (take 10 (drop 1 ws))) (leb (get_or ws 11 0) (get_or ws 0 0 * most_data)) r

pub ok_numbers : (ws : List ℕ) → NumbersOk ws → numbers_arranged ws ≡ true
unfolding numbers_arranged
ok_numbers ws w =
    both (le-leb (get_or ws 0 0) most_logs w.logs)
    (both (at_within (get_or ws 0 0 * most_frames) (take 10 (drop 1 ws)) (λ i. at i (le_or_lt 10 i)))
    (le-leb (get_or ws 11 0) (get_or ws 0 0 * most_data) w.bytes))
  where
    at : (i : ℕ) → (10 ≤ i) ⊎ (i < 10) → get_or (take 10 (drop 1 ws)) i 0 ≤ get_or ws 0 0 * most_frames
    at i (inl h) = omega (arith, counts_past ws i h)
    at i (inr h) = omega (arith, counts_at ws i h, w.frames i h)

-- no number comes near 2^64
pub ok_small : (ws : List ℕ) → length ws ≡ 12 → NumbersOk ws → (i : ℕ) → get_or ws i 0 ≤ 8796093022208
ok_small ws n w zero = omega (arith, w.logs)
ok_small ws n w (suc i) = at (le_or_lt 10 i)
  where
    past : (10 ≤ i) → (i ≡ 10) ⊎ (11 ≤ i) → get_or ws (suc i) 0 ≤ 8796093022208
    past h (inl e) = omega (arith, ap (λ (k : ℕ). get_or ws (suc k) 0) e, w.bytes, w.logs)
    past h (inr l) = omega (arith, get_or-eq_default ws 0 {n = suc i} (omega arith))

    ten : (10 ≤ i) → (10 < i) ⊎ (i ≤ 10) → (i ≡ 10) ⊎ (11 ≤ i)
    ten h (inl l) = inr (omega arith)
    ten h (inr l) = inl (omega arith)

    flip : (i ≤ 10) ⊎ (10 < i) → (10 < i) ⊎ (i ≤ 10)
    flip (inl l) = inr l
    flip (inr l) = inl l

    at : (10 ≤ i) ⊎ (i < 10) → get_or ws (suc i) 0 ≤ 8796093022208
    at (inl h) = past h (ten h (flip (le_or_lt i 10)))
    at (inr h) = omega (arith, w.frames i h, w.logs)

-- what one log adds
tally_frames : (log : List ℕ) (i : ℕ) → i < 10 → get_or (tally (frames_read log)) (suc i) 0 ≤ blocks log * 4681
unfolding tally
tally_frames log zero h = frames_bound log _
tally_frames log (suc zero) h = frames_bound log _
tally_frames log (suc (suc zero)) h = frames_bound log _
tally_frames log (suc (suc (suc zero))) h = frames_bound log _
tally_frames log (suc (suc (suc (suc zero)))) h = frames_bound log _
tally_frames log (suc (suc (suc (suc (suc zero))))) h = frames_bound log _
tally_frames log (suc (suc (suc (suc (suc (suc zero)))))) h = frames_bound log _
tally_frames log (suc (suc (suc (suc (suc (suc (suc zero))))))) h = frames_bound log _
tally_frames log (suc (suc (suc (suc (suc (suc (suc (suc zero)))))))) h = frames_bound log _
tally_frames log (suc (suc (suc (suc (suc (suc (suc (suc (suc zero))))))))) h = frames_bound log _
tally_frames log (suc (suc (suc (suc (suc (suc (suc (suc (suc (suc i)))))))))) h = absurd (omega arith)

tally_logs : (ss : List Seen) → get_or (tally ss) 0 0 ≡ 1
unfolding tally
tally_logs ss = refl

tally_bytes : (log : List ℕ) → 1 ≤ blocks log → get_or (tally (frames_read log)) 11 0 ≤ blocks log * 32768
unfolding tally
tally_bytes log h = data_bound log h

pub length-tally : (ss : List Seen) → length (tally ss) ≡ 12
unfolding tally
length-tally ss = refl

pub fed_ok : (ws log : List ℕ) → NumbersOk ws → get_or ws 0 0 < most_logs → 1 ≤ blocks log → blocks log ≤ 4096 → NumbersOk (plus ws (tally (frames_read log)))
fed_ok ws log w l h k = record {
  logs = omega (arith, logs);
  frames = λ i m. omega (arith, logs, get_d_plus ws (tally (frames_read log)) (suc i), w.frames i m, tally_frames log i m);
  bytes = omega (arith, logs, get_d_plus ws (tally (frames_read log)) 11, w.bytes, tally_bytes log h);
}
  where
    logs : get_or (plus ws (tally (frames_read log))) 0 0 ≡ get_or ws 0 0 + 1
    logs = get_d_plus ws (tally (frames_read log)) 0 ∙ ap (λ (n : ℕ). get_or ws 0 0 + n) (tally_logs (frames_read log))

pub length-fed : (ws log : List ℕ) → length ws ≡ 12 → length (plus ws (tally (frames_read log))) ≡ 12
length-fed ws log n = length-plus ws (tally (frames_read log)) (n ∙ sym (length-tally (frames_read log))) ∙ n
