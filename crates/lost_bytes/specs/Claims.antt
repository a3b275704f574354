-- Claim.
-- What is promised of the bytes lost (02, Ticket 7). Each claim is proved in proofs/ under its name in snake case.
-- Assumes nothing.
use Rattle.std.specs.Prelude.{◌≡◌, Bool, true, false, List, [], ◌∷◌, ◌++◌, ℕ, ◌+◌, ◌*◌, ◌≤◌, ◌<◌, length}
use Rattle.frame.specs.Block.{blocks}
use Rattle.recordlog.specs.Write.{Frame}
use Rattle.recordlog.specs.Laid.{place_all, laid}
use Rattle.recordlog.specs.Hit.{Hit, type_lost}
use Rattle.recordlog.specs.Claims.{Each, hit_size}
use Rattle.record.specs.Record.{Record, one_record, decode}
use Rattle.calls.specs.State.{State}
use Rattle.calls.specs.Reading.{ReadAnswer, gave_record, gave_corruption, gave_end, gave_refusal, readings, lost_in}
use Rattle.calls.specs.Lost.{lost_bytes}
use Rattle.calls.specs.Machine.{Listed, Fed, machine, NoneLonger}
use Rattle.calls.specs.Run.{StatesRun}
use Rattle.lost_bytes.specs.Given.{given_bytes, seen_bytes}
use Rattle.lost_bytes.specs.Costs.{hit_cost, struck_in}

-- ---- every log, however damaged

-- never more than the whole blocks have
abbrev pub LostWithin : Type 0
LostWithin = (log : List ℕ) (limit : ℕ) → lost_bytes log limit ≤ blocks log * 32768

-- the reading comes to a refusal
unfoldable pub refused_in : List ReadAnswer → Bool
refused_in [] = false
refused_in (gave_record x ∷ as') = refused_in as'
refused_in (gave_corruption l ∷ as') = refused_in as'
refused_in (gave_end ∷ as') = refused_in as'
refused_in (gave_refusal n ∷ as') = true

-- Each byte of a frame met counts once: it is lost, or it is of a record handed out. Padding, and what comes after the first seven zeros, is of no frame met.
abbrev pub LostOrGiven : Type 0
LostOrGiven = (log : List ℕ) (limit : ℕ) → refused_in (readings log limit) ≡ false → lost_bytes log limit + given_bytes log limit ≡ seen_bytes log

-- each corruption answer costs a header at least
abbrev pub LostCosts : Type 0
LostCosts = (log : List ℕ) (limit : ℕ) → 7 * lost_in (readings log limit) ≤ lost_bytes log limit

-- ---- logs that were written

-- these bytes mean a record
abbrev pub Decodes : List ℕ → Type 0
Decodes xs = (r : Record) × (decode xs ≡ one_record r)

-- records laid from place 0 into n zeroed blocks, each of them decoded, and none longer than the scratch: nothing is lost
abbrev pub RecordsLoseNothing : Type 0
RecordsLoseNothing = (n limit : ℕ) (rs : List (List ℕ)) (tail : List ℕ) → length tail < 32768
    → place_all 0 rs ≤ n * 32768 → Each (λ xs. length xs ≤ limit) rs → Each Decodes rs
    → lost_bytes (laid n rs ++ tail) limit ≡ 0

-- nor of a log that calls wrote
abbrev pub StatesLoseNothing : Type 0
StatesLoseNothing = (h : List Fed) (s : State) → StatesRun h s → lost_bytes s.log s.scratch ≡ 0

-- ---- one hit frame

-- What one hit frame costs is the struck frames and the other frames of their owners, for every hit of which `StatesOneHitFrame` tells the answers. Records listed
-- before the owner own no struck frame.
abbrev pub StatesHitCosts : Type 0
StatesHitCosts = (h : List Fed) (s : State) → StatesRun h s
    → (before after : List Listed) (owner : Listed) (earlier later : List Frame) (f : Frame) (hit : List ℕ) (limit : ℕ)
    → (machine h).records ≡ before ++ (owner ∷ after)
    → owner.frames ≡ earlier ++ (f ∷ later)
    → Hit s.log hit f
    → NoneLonger limit (machine h).records
    → lost_bytes hit limit ≡ hit_cost (type_lost hit f) f (owner ∷ after)

-- The struck frames are within what the hit itself costs, and are all of it where its type is not lost; else it is also what of the block is no frame: a padding, or bytes not yet written.
pub record StruckParts (lost : Bool) (f : Frame) (ls : List Listed) : Type 0 where
  pub within : struck_in lost f ls ≤ hit_size lost f
  pub alone : lost ≡ false → struck_in lost f ls ≡ hit_size lost f

abbrev pub StatesStruckWithin : Type 0
StatesStruckWithin = (h : List Fed) (s : State) → StatesRun h s
    → (before after : List Listed) (owner : Listed) (earlier later : List Frame) (f : Frame) (lost : Bool)
    → (machine h).records ≡ before ++ (owner ∷ after)
    → owner.frames ≡ earlier ++ (f ∷ later)
    → StruckParts lost f (owner ∷ after)
