-- `crc32::BytewiseTable::next` meets its contract: the table takes eight steps at once.
-- Assumes nothing.
use native.Mathlib.Omega.{arith}
use lib.Bits.{bit_xor, mask_lt}
use Rattle.crc32.proofs.Wide.{by_table}
use Rattle.crc32.proofs.BytewiseTable.next.Goals as goal

pub overflow_cast-low : goal.overflow_cast-low
overflow_cast-low c = record { fits = omega (arith, mask_lt (bit_xor c.args.crc c.args.b) 8) }

pub offset_bounds-self-low : goal.offset_bounds-self-low
offset_bounds-self-low c = record { fits = omega (arith, mask_lt (bit_xor c.args.crc c.args.b) 8) }

pub bounds-self-low : goal.bounds-self-low
bounds-self-low c = omega (arith, mask_lt (bit_xor c.args.crc c.args.b) 8)

pub returns : goal.returns
returns c = by_table c.args.self.entries.now c.args.crc c.args.b c.args.self.right c.ranges.b.fits
