-- The claims of specs/Claims.antt, but for `parts_join`, which is in Parts, and `table_rule`, which is in Entries.
-- Assumes nothing.
use mathlib.Core.Path.{sym, ◌∙◌}
use lib.Dec.{lit<}
use Rattle.fields.proofs.Le.{le_injective}
use Rattle.crc32.specs.Crc.{run, bits, crc32}
use Rattle.crc32.specs.Claims.{BurstDetected, StoredSumTold}
use Rattle.crc32.proofs.Xor.{xor_cancel}
use Rattle.crc32.proofs.Burst.{burst_places, bits_injective}

pub burst_detected : BurstDetected
unfolding crc32
burst_detected xs ys k hx hy h n e =
    n
    (bits_injective xs ys hx hy
    (burst_places (bits xs) (bits ys) 0xFFFFFFFF k (lit< tt) h
    (xor_cancel (run 0xFFFFFFFF (bits xs)) (run 0xFFFFFFFF (bits ys)) 0xFFFFFFFF e)))

pub stored-sum-told : StoredSumTold
stored-sum-told xs ws vs hw hv lw lv ew n ev = n (le_injective ws vs (lw ∙ sym lv) hw hv (ew ∙ sym ev))
