-- `crc32_parts::parts` meets its contract: the one test of the whole table, which antt computes against the bitwise rule.
-- Assumes nothing.
use mathlib.Core.Path.{refl}
use Rattle.crc32.specs.Crc.{odd, step, run, bits_of, bits}
use Rattle.crc32.specs.Wide.{wide_entry, wide_from, wide_table}
use Rattle.crc32_parts.proofs.parts.Goals as goal

pub returns : goal.returns
unfolding wide_table wide_from wide_entry run step bits bits_of odd
returns c = refl
