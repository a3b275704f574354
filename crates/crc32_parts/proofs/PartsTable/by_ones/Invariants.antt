-- `crc32_parts::PartsTable::by_ones` meets its contract. The loop's invariant: the bytes that are left take the register to where all of them take the first.
-- Assumes nothing.
use mathlib.Core.Path.{◌≡◌}
use Prim.Native.Nat.{◌≤◌}
use lib.ListN.{length, drop}
use Rattle.crc32.specs.Crc.{run, bits}
use Rattle.crc32_parts.proofs.PartsTable.by_ones.Given as goal

abbrev pub invariant-loop-b : goal.invariant-loop-b
invariant-loop-b l = (l.b-index ≤ length l.data) × (run l.c (bits (drop l.b-index l.data)) ≡ run l.crc (bits l.data))
