-- `crc32_parts::PartsTable::next` meets its contract: the byte's share with nothing after it, and the register shifted down.
-- Assumes nothing.
use mathlib.Core.Path.{ap, ◌∙◌}
use Prim.Native.Nat.{ℕ, ◌/◌, ◌^◌}
use lib.Bits.{bit_xor}
use Rattle.crc32.proofs.Wide.{byte_alone}
use Rattle.crc32_parts.proofs.PartsTable.next.Goals as goal

pub returns : goal.returns
returns c =
    ap (λ (r : ℕ). bit_xor r (c.args.crc / 2 ^ 8)) c.byte_share.ensures ∙ byte_alone c.args.crc c.args.b c.ranges.b.fits
