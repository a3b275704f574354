-- `drive_text::day::drive_zeroed` meets its contract.
-- Assumes nothing.
use Rattle.std.proofs.Common.{◌≡◌, ℕ, List, sym, subst, rules}
use lib.ListN.{length-replicate}
use Rattle.drive_text.specs.Internal.{Drove}
use Rattle.drive_text.proofs.Opening.{drove}
use Rattle.drive_text.proofs.day.drive_zeroed.Goals as goal

-- the buffer as it is left
left_in : {input log' out : List ℕ} {r : ℕ} (u v : List ℕ) → u ≡ v → Drove input log' out r v → Drove input log' out r u
left_in {input} {log'} {out} {r} u v e w = subst (λ (x : List ℕ). Drove input log' out r x) (sym e) w

pub returns : goal.returns
returns c =
    left_in _ _ (search rules)
    (drove c.requires (length-replicate {A = ℕ} 65536 0) (length-replicate {A = ℕ} 32768 0) (length-replicate {A = ℕ} 32768 0) (length-replicate {A = ℕ} 32768 0) (length-replicate {A = ℕ} 8192 0) (search rules) c.run.ensures.ran)
