-- How long a part of a slice is.
-- Assumes nothing.
use mathlib.Core.Path.{◌≡◌}
use mathlib.Core.List.{List}
use Prim.Native.Nat.{ℕ, ◌+◌, ◌≤◌}
use native.Mathlib.Omega.{arith}
use lib.ListN.{length, take, drop, length-drop}
use lib.Seq.{length-take-le}

pub part_length : {A : Type 0} (s : List A) (from n : ℕ) → from + n ≤ length s → length (take n (drop from s)) ≡ n
part_length s from n h = length-take-le n (drop from s) (omega (arith, length-drop from s))
