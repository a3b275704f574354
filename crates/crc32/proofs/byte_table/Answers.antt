-- `crc32::byte_table` meets its contract: the one test of the whole table, which antt computes against the bitwise rule.
-- Assumes nothing.
use mathlib.Core.Path.{refl}
use Rattle.crc32.specs.Crc.{odd, step, run, bits_of, bits}
use Rattle.crc32.specs.Wide.{wide_entry, wide_from, byte_table}
use Rattle.crc32.proofs.byte_table.Goals as goal

pub returns : goal.returns
unfolding byte_table wide_from wide_entry run step bits bits_of odd
returns c = refl
