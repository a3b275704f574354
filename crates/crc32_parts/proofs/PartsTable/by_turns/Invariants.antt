-- `crc32_parts::PartsTable::by_turns` meets its contract. The loop's invariant: the bytes that are left take the register to where all of them take the first.
-- Assumes nothing.
use mathlib.Core.Path.{◌≡◌}
use lib.ListN.{length}
use Rattle.crc32.specs.Crc.{run, bits}
use Rattle.crc32_parts.proofs.PartsTable.by_turns.Given as goal

abbrev pub invariant-loop-s : goal.invariant-loop-s
invariant-loop-s l = run l.c (bits l.rest) ≡ run l.crc (bits l.data)

abbrev pub decreases-loop-s : goal.decreases-loop-s
decreases-loop-s l = length l.rest
