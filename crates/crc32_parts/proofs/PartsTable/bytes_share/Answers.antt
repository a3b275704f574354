use mathlib.Core.Path.{sym, ap, ◌∙◌}
use Prim.Native.Nat.{ℕ, ◌*◌, ◌/◌, ◌^◌}
use native.Mathlib.Omega.{arith}
use native.Mathlib.Nat.{div-one}
use lib.Bits.{xor_zero_l}
use lib.Pow.{shr-shr}
use Rattle.crc32.proofs.Wide.{share_next, share_end}
use Rattle.crc32_parts.proofs.PartsTable.bytes_share.Goals as goal

pub loop-i-init : goal.loop-i-init
loop-i-init c = (omega arith, sym (div-one c.args.crc), xor_zero_l _)

pub loop-i-preserved : goal.loop-i-preserved
loop-i-preserved c = (
  omega arith,
  ap (λ (x : ℕ). x / 2 ^ 8) c.loop-i.invariant.1 ∙ shr-shr c.args.crc (8 * c.loop-i.i) 8 ∙ ap (λ (n : ℕ). c.args.crc / 2 ^ n) (omega arith),
  share_next c.loop-i.c c.loop-i.r c.byte_share-r.result c.loop-i.i c.args.k c.args.s.now (omega arith)
      (c.type_inv.s c.loop-i.i).fits c.byte_share-r.ensures
      ∙ c.loop-i.invariant.2,
)

pub returns : goal.returns
returns c =
    sym (share_end c.args.crc c.loop-i.c c.loop-i.r c.loop-i.i c.args.k c.args.s.now c.ranges.crc.fits c.requires.0 (omega arith) c.loop-i.invariant.1)
    ∙ c.loop-i.invariant.2
