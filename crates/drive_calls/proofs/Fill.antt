-- In a log of two blocks `fill` is the same for the write position and for the place where a replay resumes: they differ by a block's padding at most.
-- Assumes nothing.
use mathlib.Core.Path.{◌≡◌, ap, subst, ◌∙◌}
use mathlib.Core.Logic.{◌⊎◌, inl, inr}
use mathlib.Core.List.{List, ◌++◌}
use Prim.Native.Nat.{ℕ, ◌+◌, ◌-◌, ◌*◌, ◌/◌, ◌%◌, ◌≤◌, ◌<◌}
use native.Mathlib.Omega.{arith}
use lib.ListN.{length}
use borrow.Author.Tests.{lt-ltb, le-ltb}
use Rattle.frame.specs.Block.{padding}
use Rattle.frame.proofs.Tests.{le_or_lt}
use Rattle.frame.proofs.Step.{padding_none, padding_some, padding_small}
use Rattle.recordlog.specs.Read.{resume}
use Rattle.calls.specs.State.{State}
use Rattle.calls.specs.Machine.{Fed}
use Rattle.calls.specs.Run.{StatesRun}
use Rattle.calls.proofs.Runs.{resumes_behind}
use Rattle.listing.specs.Listing.{queues_word, lost_word, number_line, queue_lines, whole_bytes, half_even, fill_tenths, fill_line, end_lines, listing}
use Rattle.readout_text.specs.Card.{readout_scratch}
use Rattle.drive_calls.specs.Driven.{driven, listing_of}
use Rattle.drive_calls.specs.Claims.{FillByPlace}
use Rattle.drive_calls.proofs.Drives.{drive_runs}
use Rattle.drive_calls.proofs.Lists.{Sized, driven_sized}

-- a place that is no half of a tenth, in two blocks
tenths_down : (p : ℕ) → 2 * (1000 * p % 65536) < 65536 → fill_tenths p 65536 ≡ 1000 * p / 65536
unfolding fill_tenths half_even whole_bytes
tenths_down p h = simp (lt-ltb (2 * (1000 * p % 65536)) 65536 h)

tenths_up : (p : ℕ) → 65536 < 2 * (1000 * p % 65536) → fill_tenths p 65536 ≡ 1000 * p / 65536 + 1
unfolding fill_tenths half_even whole_bytes
tenths_up p h = simp (le-ltb (2 * (1000 * p % 65536)) 65536 (omega (arith, h)), lt-ltb 65536 (2 * (1000 * p % 65536)) h)

parts : (n k r : ℕ) → n ≡ 65536 * k + r → r < 65536 → (n / 65536 ≡ k) × (n % 65536 ≡ r)
parts n k r e h = (omega arith, omega arith)

padded_same : (p : ℕ) → (p % 32768 ≤ 32761) ⊎ (32761 < p % 32768) → fill_tenths (p + padding p) 65536 ≡ fill_tenths p 65536
padded_same p (inl e) = ap (λ (r : ℕ). fill_tenths r 65536) (omega (arith, padding_none p e))
padded_same p (inr e) = same (p / 32768) (padding p) (omega (arith, padding_some p e)) (omega (arith, padding_some p e)) (padding_small p)
  where
    same : (k d : ℕ) → p + d ≡ 32768 * k + 32768 → 1 ≤ d → d ≤ 6 → fill_tenths (p + d) 65536 ≡ fill_tenths p 65536
    same k d s some few =
        let l = parts (1000 * p) (500 * k + 499) (65536 - 1000 * d) (omega arith) (omega arith) in
        let m = parts (1000 * (p + d)) (500 * k + 500) 0 (omega arith) (omega arith) in
        omega (arith, tenths_up p (omega (arith, l.1, few)), tenths_down (p + d) (omega (arith, m.1)), l.0, m.0)

fill_same : (p r : ℕ) → (r ≡ p) ⊎ (r ≡ p + padding p) → fill_tenths r 65536 ≡ fill_tenths p 65536
fill_same p r (inl e) = ap (λ (x : ℕ). fill_tenths x 65536) e
fill_same p r (inr e) = ap (λ (x : ℕ). fill_tenths x 65536) e ∙ padded_same p (le_or_lt (p % 32768) 32761)

pub run-fill : (h : List Fed) (s : State) → StatesRun h s → Sized s → listing_of s ≡ listing s.queues 0 s.place 65536
unfolding listing_of listing end_lines
run-fill h s r z =
    let b : (resume s.log readout_scratch ≡ s.place) ⊎ (resume s.log readout_scratch ≡ s.place + padding s.place) =
    subst (λ (n : ℕ). (resume s.log n ≡ s.place) ⊎ (resume s.log n ≡ s.place + padding s.place)) z.scratch_is (resumes_behind h s r) in
    ap (listing s.queues 0 (resume s.log readout_scratch)) z.log_size
    ∙ ap (λ (t : ℕ). number_line queues_word (length s.queues) ++ (queue_lines s.queues ++ (number_line lost_word 0 ++ fill_line t)))
    (fill_same s.place (resume s.log readout_scratch) b)

pub fill_by_place : FillByPlace
fill_by_place input b = run-fill (driven input).history (driven input).state (drive_runs input b) (driven_sized input)
