-- Claim.
-- What is claimed of numbers as bytes, at every width; each is proved in proofs/ under the same name in snake case.
-- Assumes nothing.
use Rattle.std.specs.Prelude.{◌≡◌, List, ℕ, ◌+◌, ◌^◌, ◌<◌, ◌≤◌, length, take, drop}
use Rattle.slices.specs.Bytes.{Bytes}
use Rattle.slices.specs.Put.{put}
use Rattle.fields.specs.Le.{le, le_bytes}

-- the n low bytes of a number that fits n bytes stand for that number
abbrev pub NumberComesBack : Type 0
NumberComesBack = (n x : ℕ) → x < 256 ^ n → le (le_bytes n x) ≡ x

-- the number that bytes stand for has these bytes
abbrev pub BytesComeBack : Type 0
BytesComeBack = (bs : List ℕ) → Bytes bs → le_bytes (length bs) (le bs) ≡ bs

-- and fits as many bytes
abbrev pub NumberFits : Type 0
NumberFits = (bs : List ℕ) → Bytes bs → le bs < 256 ^ length bs

-- what was written at a place is read there
abbrev pub ReadsWritten : Type 0
ReadsWritten = (s : List ℕ) (at n x : ℕ) → at + n ≤ length s → x < 256 ^ n → le (take n (drop at (put s at (le_bytes n x)))) ≡ x
