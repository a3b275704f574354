-- `crc32_fold::register_after` meets its contract: what the fold leaves adds up to the register after the piece.
-- Assumes nothing.
use mathlib.Core.Path.{◌≡◌, ap, ◌∙◌}
use mathlib.Core.List.{List}
use Prim.Native.Nat.{ℕ, ◌+◌, ◌-◌}
use native.Mathlib.Omega.{arith}
use lib.ListN.{length, take, drop}
use Rattle.crc32.specs.Crc.{run, bits}
use Rattle.crc32_fold.specs.Fold.{exponents, summed}
use Rattle.crc32_fold.proofs.Folding.{folded_run}
use Rattle.crc32_fold.proofs.register_after.Goals as goal

pub returns : goal.returns
returns c =
    let xs : List ℕ = c.args.s.now in
    let us : List ℕ = c.args.u.now in
    let e : length xs + 300 - length xs ≡ 300 = omega arith in
    c.last_ones.ensures
    ∙ ap (λ (m : ℕ). summed exponents (λ j. run 0 (bits (take j (take m (drop (length xs) us)))))) e
    ∙ folded_run c.args.crc xs us (λ i. (c.type_inv.s i).fits) (λ i. (c.type_inv.u i).fits) c.ranges.crc.fits c.requires.0 c.requires.1 c.requires.2
