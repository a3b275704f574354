-- Claim.
-- What is claimed of readings and planes, for every width above 0 and every list whose length it divides. 02: "The fact is proved for every width together".
-- Assumes nothing.
use Rattle.std.specs.Prelude.{◌≡◌, List, [], ◌∷◌, ℕ, ◌+◌, ◌*◌, ◌/◌, ◌%◌, ◌<◌, length, get_or}
use Rattle.planes.specs.Planes.{to_planes, from_planes}
use Rattle.planes.specs.Step.{step_answer, to_planes_left, from_planes_left}
use Rattle.std.specs.declared.result.Result.TheVariants.{Ok}

-- 02: "The inverse restores it, each way undoes the other": planes of readings, turned back, are the readings
abbrev pub ReadingsComeBack : Type 0
ReadingsComeBack = (w : ℕ) (xs : List ℕ) → 0 < w → length xs % w ≡ 0 → from_planes w (to_planes w xs) ≡ xs

-- readings of planes, turned again, are the planes
abbrev pub PlanesComeBack : Type 0
PlanesComeBack = (w : ℕ) (ys : List ℕ) → 0 < w → length ys % w ≡ 0 → to_planes w (from_planes w ys) ≡ ys

-- both ways the length stays
abbrev pub SameLength : Type 0
SameLength = (w : ℕ) (xs : List ℕ) → 0 < w → length xs % w ≡ 0 → (length (to_planes w xs) ≡ length xs) × (length (from_planes w xs) ≡ length xs)

-- "the total of the payload's byte values"
unfoldable pub total : List ℕ → ℕ
total [] = 0
total (x ∷ xs) = x + total xs

-- "the total of the payload's byte values is unchanged", both ways
abbrev pub SameTotal : Type 0
SameTotal = (w : ℕ) (xs : List ℕ) → 0 < w → length xs % w ≡ 0 → (total (to_planes w xs) ≡ total xs) × (total (from_planes w xs) ≡ total xs)

-- "first byte 0 of every reading, then byte 1, and so on": of n readings, byte j of reading i stands at j * n + i of the planes
abbrev pub PlanesInOrder : Type 0
PlanesInOrder = (w i j : ℕ) (xs : List ℕ) → 0 < w → length xs % w ≡ 0 → i < length xs / w → j < w
    → get_or (to_planes w xs) (j * (length xs / w) + i) 0 ≡ get_or xs (i * w + j) 0

-- and back: what stands at j * n + i of the planes is byte j of reading i
abbrev pub ReadingsInOrder : Type 0
ReadingsInOrder = (w i j : ℕ) (ys : List ℕ) → 0 < w → length ys % w ≡ 0 → i < length ys / w → j < w
    → get_or (from_planes w ys) (i * w + j) 0 ≡ get_or ys (j * (length ys / w) + i) 0

-- and so do the steps: what a step not refused has made, given to the other step with a target of its length, is not refused and is the payload again
abbrev pub StepsUndo : Type 0
StepsUndo = (w : ℕ) (xs target again : List ℕ) → step_answer w xs target ≡ Ok tt → length again ≡ length xs
    → (step_answer w (to_planes_left w xs target) again ≡ Ok tt)
    × (from_planes_left w (to_planes_left w xs target) again ≡ xs)
    × (step_answer w (from_planes_left w xs target) again ≡ Ok tt)
    × (to_planes_left w (from_planes_left w xs target) again ≡ xs)

-- three readings of two bytes, and two readings of three bytes
abbrev pub SmallPlanes : Type 0
SmallPlanes =
    (to_planes 2 (1 ∷ 2 ∷ 3 ∷ 4 ∷ 5 ∷ 6 ∷ []) ≡ 1 ∷ 3 ∷ 5 ∷ 2 ∷ 4 ∷ 6 ∷ [])
    × (to_planes 3 (1 ∷ 2 ∷ 3 ∷ 4 ∷ 5 ∷ 6 ∷ []) ≡ 1 ∷ 4 ∷ 2 ∷ 5 ∷ 3 ∷ 6 ∷ [])
    × (from_planes 2 (1 ∷ 3 ∷ 5 ∷ 2 ∷ 4 ∷ 6 ∷ []) ≡ 1 ∷ 2 ∷ 3 ∷ 4 ∷ 5 ∷ 6 ∷ [])
