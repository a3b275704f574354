-- Definition (02, "Ticket 13").
-- What the step to planes, and the one from planes, answers and leaves of the target.
-- Assumes nothing.
use Rattle.std.specs.Prelude.{Bool, true, false, ◌&&◌, List, ℕ, ⊤, ◌%◌, eqb, leb, length}
use Rattle.planes.specs.Planes.{to_planes, from_planes}
use Rattle.std.specs.declared.result.Result.{Result}
use Rattle.std.specs.declared.result.Result.TheVariants.{Ok, Err}
use Rattle.planes.specs.declared.PlanesError.{PlanesError}
use Rattle.planes.specs.declared.PlanesError.TheVariants.{WidthWrong}

-- 02: "18 when the width is outside 1 to 64 or doesn't divide the payload's length, or the lent target's length isn't the payload's"; else the step is taken
unfoldable pub planes_fit : ℕ → ℕ → ℕ → Bool
planes_fit width payload target = leb 1 width && (leb width 64 && (eqb (payload % width) 0 && eqb target payload))

-- "it is the only refusal of this step"
unfoldable pub planes_answer : Bool → Result ⊤ PlanesError
planes_answer true = Ok tt
planes_answer false = Err WidthWrong

-- "and the target bytes are as before": what is made, or on refusal what was there
unfoldable pub planes_left : Bool → List ℕ → List ℕ → List ℕ
planes_left true made before = made
planes_left false made before = before

-- both steps answer alike, by the width, the payload and the target
abbrev pub step_answer : ℕ → List ℕ → List ℕ → Result ⊤ PlanesError
step_answer width payload target = planes_answer (planes_fit width (length payload) (length target))

-- the target after the step to planes, and after the step from planes
abbrev pub to_planes_left : ℕ → List ℕ → List ℕ → List ℕ
to_planes_left width payload target = planes_left (planes_fit width (length payload) (length target)) (to_planes width payload) target

abbrev pub from_planes_left : ℕ → List ℕ → List ℕ → List ℕ
from_planes_left width payload target = planes_left (planes_fit width (length payload) (length target)) (from_planes width payload) target

-- a refusal's number
abbrev pub error_number : PlanesError → ℕ
error_number WidthWrong = 18

-- an answer's number: 0 where nothing is refused
abbrev pub planes_number : Result ⊤ PlanesError → ℕ
planes_number (Ok _) = 0
planes_number (Err e) = error_number e
