-- The tables, entry by entry, and as a whole.
-- Assumes nothing.
use mathlib.Core.Path.{◌≡◌, refl, sym, ap, ap₂, subst, ◌∙◌}
use mathlib.Core.List.{List, []}
use Prim.Native.Nat.{ℕ, zero, suc, ◌+◌, ◌*◌, ◌/◌, ◌%◌, ◌≤◌, ◌<◌}
use native.Mathlib.Nat.{add-zero, zero-add, add-suc, suc-add, le_of_suc-le-suc, not-suc-le-zero}
use native.Mathlib.Omega.{arith}
use lib.ListN.{length, get_or}
use Rattle.slices.specs.Bytes.{zeros}
use Rattle.crc32.specs.Crc.{run, bits, bits_of}
use Rattle.crc32.specs.Wide.{wide_entry, wide_from, byte_table, wide_table, Starts}
use Rattle.crc32.specs.Claims.{TableRule}
use Rattle.crc32.proofs.Parts.{run-cons, run-nil}

-- ---- an entry

-- the entry at k of part m, and of the first part
pub entry_at : (m k : ℕ) → k < 256 → wide_entry (m * 256 + k) ≡ run k (bits (zeros (m + 1)))
unfolding wide_entry
entry_at m k h =
    let d : suc ((m * 256 + k) / 256) ≡ m + 1 = omega arith in
    let r : (m * 256 + k) % 256 ≡ k = omega arith in
    ap₂ (λ (n x : ℕ). run x (bits (zeros n))) d r

pub entry_low : (k : ℕ) → k < 256 → wide_entry k ≡ run k (bits (zeros 1))
entry_low k h = let e : k ≡ 0 * 256 + k = omega arith in ap wide_entry e ∙ entry_at 0 k h

-- an entry of the first part is its place after one zero byte
pub first : (i : ℕ) → i < 256 → run i (bits_of 8 0) ≡ wide_entry i
first i h = sym (entry_low i h ∙ run-cons i 0 [] ∙ run-nil (run i (bits_of 8 0)))

-- ---- the lists

pub length-wide_from : (j n : ℕ) → length (wide_from j n) ≡ n
unfolding wide_from
length-wide_from j zero = refl
length-wide_from j (suc n) = ap suc (length-wide_from (suc j) n)

pub get_d_wide_from : (j n i : ℕ) → i < n → get_or (wide_from j n) i 0 ≡ wide_entry (j + i)
unfolding wide_from
get_d_wide_from j zero i h = absurd (not-suc-le-zero h)
get_d_wide_from j (suc n) zero h = ap wide_entry (sym (add-zero j))
get_d_wide_from j (suc n) (suc i) h =
    get_d_wide_from (suc j) n i (le_of_suc-le-suc h) ∙ ap wide_entry (suc-add j i ∙ sym (add-suc j i))

-- the first n entries
pub from_start : (n : ℕ) → Starts n (wide_from 0 n)
from_start n = record { long = omega (arith, length-wide_from 0 n); right = λ j g. get_d_wide_from 0 n j g ∙ ap wide_entry (zero-add j) }

-- each entry of the byte table, as the wide table has it, and by the bitwise rule
pub entry : (k : ℕ) → k < 256 → get_or byte_table k 0 ≡ wide_entry k
unfolding byte_table
entry = (from_start 256).right

pub table_rule : TableRule
table_rule k h = entry k h ∙ sym (first k h)

-- ---- what the tables are for

pub byte_table_lem : (t : List ℕ) → t ≡ byte_table → Starts 256 t
unfolding byte_table
byte_table_lem t e = subst (Starts 256) (sym e) (from_start 256)

pub wide_table_lem : (t : List ℕ) → t ≡ wide_table → Starts 4096 t
unfolding wide_table
wide_table_lem t e = subst (Starts 4096) (sym e) (from_start 4096)

-- fewer entries
pub fewer : (m n : ℕ) (t : List ℕ) → m ≤ n → Starts n t → Starts m t
fewer m n t h s = record { long = omega arith; right = λ j g. s.right j (omega arith) }
