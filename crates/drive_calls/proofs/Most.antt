-- 65,536 bytes 01 are 7,281 commands and a rest of 7 bytes.
-- Assumes nothing.
use mathlib.Core.Path.{◌≡◌, refl, ap, ◌∙◌}
use mathlib.Core.Bool.{Bool, cond}
use mathlib.Core.List.{List, [], ◌∷◌}
use Prim.Native.Nat.{ℕ, zero, suc, ◌+◌, ◌*◌}
use native.Mathlib.Omega.{arith}
use lib.ListN.{length, replicate}
use borrow.Author.Tests.{le-leb}
use Rattle.slices.specs.Bytes.{Bytes}
use Rattle.slices.proofs.Bytes.{append_bytes}
use Rattle.calls.specs.State.{State}
use Rattle.calls.specs.Machine.{Fed}
use Rattle.drive_commands.specs.Commands.{bad, command, width, call_by, is_command, command_at}
use Rattle.drive_calls.specs.Driven.{Driven, also_line, driven_from, driven, opening}
use Rattle.drive_calls.specs.Claims.{LinesMost}
use Rattle.drive_calls.specs.Internal.{driven_rest}
use Rattle.drive_calls.proofs.Turns.{drive_turn}

abbrev eight : List ℕ → List ℕ
eight xs = 1 ∷ 1 ∷ 1 ∷ 1 ∷ 1 ∷ 1 ∷ 1 ∷ 1 ∷ xs

-- n commands and 7 bytes
unfoldable ones : ℕ → List ℕ
ones zero = 1 ∷ 1 ∷ 1 ∷ 1 ∷ 1 ∷ 1 ∷ 1 ∷ []
ones (suc n) = 1 ∷ eight (ones n)

ones_length : (n : ℕ) → length (ones n) ≡ 9 * n + 7
unfolding ones
ones_length zero = refl
ones_length (suc n) = omega (arith, ones_length n)

one_more_lem : (xs : List ℕ) → Bytes xs → Bytes (1 ∷ xs)
one_more_lem xs b zero = omega arith
one_more_lem xs b (suc i) = b i

no_bytes : Bytes []
no_bytes i = omega arith

run_bytes : (k : ℕ) → Bytes (replicate k 1)
run_bytes zero = no_bytes
run_bytes (suc k) = one_more_lem (replicate k 1) (run_bytes k)

ones_bytes : (n : ℕ) → Bytes (ones n)
unfolding ones
ones_bytes zero = run_bytes 7
ones_bytes (suc n) = append_bytes (replicate 9 1) (ones n) (run_bytes 9) (ones_bytes n)

one_command : (xs : List ℕ) → command_at (1 ∷ eight xs) ≡ command (call_by 1 (eight xs)) xs
unfolding command_at is_command width
one_command xs = ap (λ (e : Bool). cond e (command (call_by 1 (eight xs)) xs) bad) (le-leb 8 (length (eight xs)) (omega arith))

rest_bad : command_at (ones 0) ≡ bad
unfolding ones command_at is_command width
rest_bad = refl

ones_lines : (n : ℕ) (h : List Fed) (s : State) → length (driven_rest h s (ones n)).lines ≡ suc n
unfolding ones also_line
ones_lines zero h s = ap (λ (d : Driven). length d.lines) (drive_turn.stops h s (ones 0) rest_bad)
ones_lines (suc n) h s =
    ap (λ (d : Driven). length d.lines) (drive_turn.goes_on h s (1 ∷ eight (ones n)) (call_by 1 (eight (ones n))) (ones n) (one_command (ones n)))
    ∙ ap suc (ones_lines n _ _)

pub lines_most : LinesMost
unfolding driven driven_from
lines_most = record { input = ones 7281; size = ones_length 7281; bytes = ones_bytes 7281; lines = ones_lines 7281 [] opening }
