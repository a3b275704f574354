-- Claim.
-- What one hit frame costs in bytes (02, Ticket 7), by the frames that the plain machine lists: for the claims.
-- Assumes nothing.
use Rattle.std.specs.Prelude.{Bool, cond, List, [], ◌∷◌, ℕ, ◌+◌, length}
use Rattle.recordlog.specs.Write.{Frame}
use Rattle.recordlog.specs.Hit.{struck, any_struck}
use Rattle.recordlog.specs.Claims.{hit_size}
use Rattle.calls.specs.Machine.{Listed}

-- the bytes of those frames that are not struck, header and data: f is the frame hit, and `lost` whether its type is "no longer 1 to 4"
unfoldable pub unstruck_bytes : Bool → Frame → List Frame → ℕ
unstruck_bytes lost f [] = 0
unstruck_bytes lost f (g ∷ gs) = cond (struck lost f g) 0 (7 + length g.content) + unstruck_bytes lost f gs

-- the bytes of those that are struck
unfoldable pub struck_bytes : Bool → Frame → List Frame → ℕ
struck_bytes lost f [] = 0
struck_bytes lost f (g ∷ gs) = cond (struck lost f g) (7 + length g.content) 0 + struck_bytes lost f gs

unfoldable pub struck_in : Bool → Frame → List Listed → ℕ
struck_in lost f [] = 0
struck_in lost f (l ∷ ls) = struck_bytes lost f l.frames + struck_in lost f ls

-- of a record that owns a struck frame its other frames; of one that owns none nothing
unfoldable pub others_of : Bool → Frame → List Frame → ℕ
others_of lost f gs = cond (any_struck lost f gs) (unstruck_bytes lost f gs) 0

unfoldable pub others_in : Bool → Frame → List Listed → ℕ
others_in lost f [] = 0
others_in lost f (l ∷ ls) = others_of lost f l.frames + others_in lost f ls

-- The struck frames, and the other frames of their owners. Struck is the hit frame alone; where its type is lost, what lies from its header to its block's end: "from
-- each unreadable header .. to its block's end".
unfoldable pub hit_cost : Bool → Frame → List Listed → ℕ
hit_cost lost f ls = hit_size lost f + others_in lost f ls
