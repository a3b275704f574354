-- A begun record is dropped by what follows it: a corruption, the end, or the first frame of another record. Lists alone, no log; records with their places.
-- Assumes nothing.
use mathlib.Core.Path.{◌≡◌, refl, sym, ap, subst, ◌∙◌}
use mathlib.Core.Bool.{Bool, true, false}
use mathlib.Core.List.{List, [], ◌∷◌, ◌++◌, map, append-nil}
use Prim.Native.Nat.{ℕ, ◌≤◌}
use native.Mathlib.Omega.{arith}
use lib.ListN.{length}
use Rattle.frame.specs.Frame.{begins}
use Rattle.frame.specs.declared.FrameType.{FrameType}
use Rattle.frame.specs.declared.Corruption.{Corruption}
use Rattle.recordlog.specs.Write.{Frame, frames_of, place_after}
use Rattle.recordlog.specs.Laid.{place_all}
use Rattle.recordlog.specs.Claims.{Each}
use Rattle.recordlog.specs.Read.{idle, gather_when, gather}
use Rattle.recordlog.specs.Began.{header_place}
use Rattle.recordlog.proofs.Sees.{Event, good, corrupted}
use Rattle.recordlog.proofs.Sited.{Sited, given, ended, began_at, joined, assemble}
use Rattle.recordlog.proofs.SitedRecords.{Restarts, dropped, laid_record, given_all, records}
use Rattle.recordlog.proofs.Frames.{Kinds, contents_of, owned, frames_all}
use Rattle.recordlog.proofs.Seen.{event}
use Rattle.recordlog.proofs.Assemble.{events_append, begins_kind}

pub restarts_end : (limit : ℕ) → Restarts limit []
unfolding assemble
restarts_end limit b p = refl

pub restarts_bad : (limit : ℕ) (c : Corruption) (es : List Event) → Restarts limit (corrupted c ∷ es)
unfolding assemble
restarts_bad limit c es b p = refl

restarts_begin : (limit : ℕ) (t : FrameType) (xs : List ℕ) (q : ℕ) (es : List Event) → begins t ≡ true → Restarts limit (good t xs q ∷ es)
unfolding assemble gather gather_when began_at
restarts_begin limit t xs q es e b p =
    ap (λ (x : Bool). joined limit t (gather_when x b xs) (began_at x q p) (assemble limit es)) e
    ∙ sym (ap (λ (x : Bool). joined limit t (gather_when x idle xs) (began_at x q 0) (assemble limit es)) e)

restarts_kinds : (limit : ℕ) (fs : List Frame) (es : List Event) → Kinds true fs → Restarts limit (map event fs ++ es)
restarts_kinds limit [] es k = absurd k
restarts_kinds limit (f ∷ []) es k = restarts_begin limit f.kind f.content f.start es (ap begins k ∙ begins_kind true true)
restarts_kinds limit (f ∷ g ∷ fs) es k = restarts_begin limit f.kind f.content f.start (map event (g ∷ fs) ++ es) (ap begins k.0 ∙ begins_kind true false)

pub restarts_records : (limit p : ℕ) (rs : List (List ℕ)) → Restarts limit (map event (frames_all p rs))
unfolding frames_all
restarts_records limit p [] b q = restarts_end limit b q
restarts_records limit p (xs ∷ rs) b q =
    ap (λ (es : List Event). assemble limit es b q) parts
    ∙ restarts_kinds limit (frames_of p xs) (map event (frames_all (place_after p xs) rs)) (owned p xs).kinds b q
    ∙ sym (ap (λ (es : List Event). assemble limit es idle 0) parts)
  where
    parts : map event (frames_of p xs ++ frames_all (place_after p xs) rs) ≡ map event (frames_of p xs) ++ map event (frames_all (place_after p xs) rs)
    parts =
        sym (append-nil (map event (frames_of p xs ++ frames_all (place_after p xs) rs)))
        ∙ events_append (frames_of p xs) (frames_all (place_after p xs) rs) []
        ∙ ap (λ (es : List Event). map event (frames_of p xs) ++ es) (append-nil (map event (frames_all (place_after p xs) rs)))

-- ---- records before, and a record that is whole or broken off

module _ (limit : ℕ) (before : List (List ℕ)) (xs : List ℕ) (es : List Event) (hb : Each (λ ys. length ys ≤ limit) before) (hx : length xs ≤ limit) where
  pub puts_whole : assemble limit (map event (frames_all 0 before ++ frames_of (place_all 0 before) xs) ++ es) idle 0
      ≡ given_all 0 before ++ (given (header_place (place_all 0 before)) xs ∷ assemble limit es idle 0)
  puts_whole =
      ap (λ (s : List Event). assemble limit s idle 0) (events_append (frames_all 0 before) (frames_of (place_all 0 before) xs) es)
      ∙ records limit (map event (frames_of (place_all 0 before) xs) ++ es) 0 before hb
      ∙ ap (λ (s : List Sited). given_all 0 before ++ s)
      (laid_record limit es (place_all 0 before) (frames_of (place_all 0 before) xs) (owned (place_all 0 before) xs).kinds (owned (place_all 0 before) xs).stands
      (omega (arith, ap length (owned (place_all 0 before) xs).contents))
      ∙ ap (λ (ys : List ℕ). given (header_place (place_all 0 before)) ys ∷ assemble limit es idle 0) (owned (place_all 0 before) xs).contents)

  pub puts_broken : (pre : List Frame) (f : Frame) (post : List Frame) → frames_of (place_all 0 before) xs ≡ pre ++ (f ∷ post) → Restarts limit es
      → assemble limit (map event (frames_all 0 before ++ pre) ++ es) idle 0 ≡ given_all 0 before ++ assemble limit es idle 0
  puts_broken pre f post e on =
      ap (λ (s : List Event). assemble limit s idle 0) (events_append (frames_all 0 before) pre es)
      ∙ records limit (map event pre ++ es) 0 before hb
      ∙ ap (λ (s : List Sited). given_all 0 before ++ s)
      (dropped limit es on f post pre (subst (Kinds true) e (owned (place_all 0 before) xs).kinds)
      (omega (arith, ap length (owned (place_all 0 before) xs).contents, ap (λ (gs : List Frame). length (contents_of gs)) e)))

-- records alone
pub puts-records : (limit p : ℕ) (rs : List (List ℕ)) → Each (λ ys. length ys ≤ limit) rs
    → assemble limit (map event (frames_all p rs)) idle 0 ≡ given_all p rs ++ (ended ∷ [])
puts-records limit p rs h =
    ap (λ (s : List Event). assemble limit s idle 0) (sym (append-nil (map event (frames_all p rs))))
    ∙ records limit [] p rs h ∙ unfold assemble in refl
