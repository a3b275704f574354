-- The claims: there and back, length, total, and the order, for every width.
-- Assumes nothing.
use mathlib.Core.Path.{◌≡◌, refl, sym, ap, ap₂, ◌∙◌}
use mathlib.Core.Bool.{Bool, true, false}
use mathlib.Core.List.{List}
use Prim.Native.Nat.{ℕ, ◌*◌, ◌/◌, ◌%◌}
use native.Mathlib.Nat.{div-add-mod', mul_comm}
use native.Mathlib.Omega.{arith}
use lib.ListN.{length}
use Rattle.planes.specs.Planes.{every, runs, crossed, to_planes, from_planes}
use Rattle.planes.specs.Claims.{ReadingsComeBack, PlanesComeBack, SameLength, SameTotal, PlanesInOrder, ReadingsInOrder, StepsUndo, SmallPlanes}
use Rattle.planes.specs.Step.{planes_fit, planes_answer, planes_left, to_planes_left, from_planes_left}
use Rattle.std.specs.Prelude.{Ok}
use Rattle.planes.proofs.Fits.{fits}
use Rattle.planes.proofs.Runs.{length-crossed, crossed_at, crossed_back}
use Rattle.planes.proofs.Total.{total-crossed}

-- what the width divides is this many readings of it
pub readings : (w : ℕ) (xs : List ℕ) → length xs % w ≡ 0 → length xs ≡ length xs / w * w
readings w xs h = omega (arith, div-add-mod' (length xs) w)

pub planes : (w : ℕ) (xs : List ℕ) → length xs % w ≡ 0 → length xs ≡ w * (length xs / w)
planes w xs h = readings w xs h ∙ mul_comm (length xs / w) w

pub same_length : SameLength
same_length w xs p h =
    (length-crossed w (length xs / w) xs ∙ sym (planes w xs h), length-crossed (length xs / w) w xs ∙ sym (readings w xs h))

pub readings_come_back : ReadingsComeBack
readings_come_back w xs p h =
    ap (λ (n : ℕ). crossed (n / w) w (to_planes w xs)) (same_length w xs p h).0
    ∙ crossed_back w (length xs / w) xs (readings w xs h)

pub planes_come_back : PlanesComeBack
planes_come_back w ys p h =
    ap (λ (n : ℕ). crossed w (n / w) (from_planes w ys)) (same_length w ys p h).1
    ∙ crossed_back (length ys / w) w ys (planes w ys h)

pub same_total : SameTotal
same_total w xs p h = (total-crossed w (length xs / w) xs (readings w xs h), total-crossed (length xs / w) w xs (planes w xs h))

pub planes_in_order : PlanesInOrder
planes_in_order w i j xs p h a b = crossed_at w (length xs / w) xs i j a b

pub readings_in_order : ReadingsInOrder
readings_in_order w i j ys p h a b = crossed_at (length ys / w) w ys j i b a

-- a step that is done was taken, and has left what it made
taken : (t : Bool) → planes_answer t ≡ Ok tt → t ≡ true
unfolding planes_answer
taken true e = refl
taken false e = cc

answered : (t : Bool) → t ≡ true → planes_answer t ≡ Ok tt
unfolding planes_answer
answered t e = ap planes_answer e

left_made : (t : Bool) (made before : List ℕ) → t ≡ true → planes_left t made before ≡ made
unfolding planes_left
left_made t made before e = ap (λ (s : Bool). planes_left s made before) e

-- what is as long as the payload fits as the payload did
fits_again : (w : ℕ) (xs target made again : List ℕ) → planes_fit w (length xs) (length target) ≡ true → length made ≡ length xs
    → length again ≡ length xs → planes_fit w (length made) (length again) ≡ true
fits_again w xs target made again h l k = ap₂ (planes_fit w) l (k ∙ sym (fits w (length xs) (length target) h).long) ∙ h

pub steps_undo : StepsUndo
steps_undo w xs target again d k =
    let h : planes_fit w (length xs) (length target) ≡ true = taken _ d in
    let f = fits w (length xs) (length target) h in
    let l = same_length w xs f.some f.whole in
    let p : to_planes_left w xs target ≡ to_planes w xs = left_made _ _ _ h in
    let q : from_planes_left w xs target ≡ from_planes w xs = left_made _ _ _ h in
    let a = fits_again w xs target (to_planes_left w xs target) again h (ap length p ∙ l.0) k in
    let b = fits_again w xs target (from_planes_left w xs target) again h (ap length q ∙ l.1) k in (
      answered _ a,
      left_made _ _ _ a ∙ ap (from_planes w) p ∙ readings_come_back w xs f.some f.whole,
      answered _ b,
      left_made _ _ _ b ∙ ap (to_planes w) q ∙ planes_come_back w xs f.some f.whole,
    )

pub small_planes : SmallPlanes
unfolding every runs
small_planes = (refl, refl, refl)
