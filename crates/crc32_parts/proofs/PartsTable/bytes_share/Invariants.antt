-- `crc32_parts::PartsTable::bytes_share` meets its contract. The loop's invariant: what the bytes so far add up to, and what is left of the register with the bytes
-- that are left, make up the whole.
-- Assumes nothing.
use mathlib.Core.Path.{◌≡◌}
use mathlib.Core.List.{◌++◌}
use Prim.Native.Nat.{◌*◌, ◌/◌, ◌^◌, ◌≤◌}
use lib.Bits.{bit_xor}
use lib.ListN.{length, drop}
use Rattle.slices.specs.Bytes.{zeros}
use Rattle.crc32.specs.Crc.{run, bits}
use Rattle.crc32_parts.proofs.PartsTable.bytes_share.Given as goal

abbrev pub invariant-loop-i : goal.invariant-loop-i
invariant-loop-i l = (l.i ≤ length l.s) × (l.c ≡ l.crc / 2 ^ (8 * l.i)) × (bit_xor l.r (run l.c (bits (drop l.i l.s ++ zeros l.k))) ≡ run l.crc (bits (l.s ++ zeros l.k)))
