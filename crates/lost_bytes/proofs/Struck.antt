-- The struck frames lie between the hit frame's header and its block's end; where the type is not lost, the hit frame is the only one.
-- Assumes nothing.
use mathlib.Core.Path.{◌≡◌, refl, sym, ap, ap₂, subst, ◌∙◌}
use mathlib.Core.Logic.{◌⊎◌, inl, inr}
use mathlib.Core.Bool.{Bool, true, false, cond, ◌||◌, false≢true}
use mathlib.Core.List.{List, [], ◌∷◌, ◌++◌, append_assoc}
use Prim.Native.Nat.{ℕ, suc, ◌+◌, ◌*◌, ◌/◌, ◌≤◌, ◌<◌}
use native.Mathlib.Omega.{arith}
use lib.ListN.{length}
use Rattle.frame.specs.Block.{padding}
use Rattle.frame.proofs.Tests.{le_or_lt}
use Rattle.recordlog.specs.Write.{Frame, frames_of, place_after}
use Rattle.recordlog.specs.Laid.{place_all}
use Rattle.recordlog.specs.Hit.{struck, any_struck}
use Rattle.recordlog.specs.Claims.{hit_size}
use Rattle.recordlog.proofs.Frames.{Stands, Laid, after, end_of, end_ge, laid_right, laid_all, frames_all}
use Rattle.recordlog.proofs.Strike.{none_later}
use Rattle.record.specs.Record.{encode}
use Rattle.calls.specs.Machine.{Listed}
use Rattle.calls.proofs.Follows.{encodings, Owns, Standing}
use Rattle.calls.proofs.Steps.{follows}
use Rattle.calls.proofs.Runs.{same_records}
use Rattle.calls.proofs.ListParts.{owns_from}
use Rattle.lost_bytes.specs.Costs.{struck_bytes, struck_in}
use Rattle.lost_bytes.specs.Claims.{StruckParts, StatesStruckWithin}
use Rattle.lost_bytes.proofs.Hit.{struck-before, struck_self}

module _ (lost : Bool) (h : Frame) where
  struck-append : (fs gs : List Frame) → struck_bytes lost h (fs ++ gs) ≡ struck_bytes lost h fs + struck_bytes lost h gs
  unfolding struck_bytes
  struck-append [] gs = omega arith
  struck-append (f ∷ fs) gs = omega (arith, struck-append fs gs)

  none_struck : (fs : List Frame) → any_struck lost h fs ≡ false → struck_bytes lost h fs ≡ 0
  unfolding struck_bytes any_struck
  none_struck [] e = refl
  none_struck (f ∷ fs) e = go (struck lost h f) e (none_struck fs)
    where
      go : (b : Bool) → b || any_struck lost h fs ≡ false → (any_struck lost h fs ≡ false → struck_bytes lost h fs ≡ 0)
          → cond b (7 + length f.content) 0 + struck_bytes lost h fs ≡ 0
      go true e on = absurd (false≢true (sym e))
      go false e on = omega (arith, on e)

  one_most : (f : Frame) → cond (struck lost h f) (7 + length f.content) 0 ≤ 7 + length f.content
  one_most f = go (struck lost h f)
    where
      go : (b : Bool) → cond b (7 + length f.content) 0 ≤ 7 + length f.content
      go true = omega arith
      go false = omega arith

-- frames after the hit one, from p on: those that are struck lie before its block's end
later_within : (h : Frame) (p : ℕ) (fs : List Frame) → Laid p fs → h.start < p → p ≤ suc (h.start / 32768) * 32768
    → p + struck_bytes true h fs ≤ suc (h.start / 32768) * 32768
unfolding struck_bytes
later_within h p [] l s u = omega arith
later_within h p (f ∷ fs) l s u =
    go (le_or_lt (suc (h.start / 32768) * 32768) (p + padding p))
    (λ g. later_within h (after p f) fs l.1 (omega arith) (omega (arith, l.0.fits)))
  where
    go : (suc (h.start / 32768) * 32768 ≤ p + padding p) ⊎ (p + padding p < suc (h.start / 32768) * 32768)
        → (p + padding p < suc (h.start / 32768) * 32768 → after p f + struck_bytes true h fs ≤ suc (h.start / 32768) * 32768)
        → p + (cond (struck true h f) (7 + length f.content) 0 + struck_bytes true h fs) ≤ suc (h.start / 32768) * 32768
    go (inl g) on =
        let z : struck_bytes true h (f ∷ fs) ≡ 0 = none_struck true h (f ∷ fs) (none_later true h p (f ∷ fs) l s (λ e. omega (arith, g))) in
        omega (arith, z)
    go (inr g) on = omega (arith, on g, one_most true h f)

-- ---- the frames of the owner and of the records after it

none_before : (lost : Bool) (f : Frame) (q : ℕ) (fs later : List Frame) → Laid q (fs ++ (f ∷ later)) → struck_bytes lost f fs ≡ 0
unfolding struck_bytes
none_before lost f q [] later l = refl
none_before lost f q (g ∷ fs) later l =
    let b : struck lost f g ≡ false = struck-before lost f g (omega (arith, l.0.starts, (laid_right (after q g) fs (f ∷ later) l.1).0.starts, end_ge (after q g) fs)) in
    ap (λ (x : Bool). cond x (7 + length g.content) 0 + struck_bytes lost f fs) b ∙ omega (arith, none_before lost f (after q g) fs later l.1)

module _ (p : ℕ) (f : Frame) (pre later : List Frame) (l : Laid p (pre ++ (f ∷ later))) where
  stands : Stands (end_of p pre) f
  stands = (laid_right p pre (f ∷ later) l).0

  behind : Laid (after (end_of p pre) f) later
  behind = (laid_right p pre (f ∷ later) l).1

  self : (lost : Bool) → struck_bytes lost f (f ∷ later) ≡ 7 + length f.content + struck_bytes lost f later
  unfolding struck_bytes
  self lost = ap (λ (x : Bool). cond x (7 + length f.content) 0 + struck_bytes lost f later) (struck_self lost f)

  whole : (lost : Bool) → struck_bytes lost f (pre ++ (f ∷ later)) ≡ 7 + length f.content + struck_bytes lost f later
  whole lost = omega (arith, struck-append lost f pre (f ∷ later), none_before lost f p pre later l, self lost)

  within : (lost : Bool) → struck_bytes lost f (pre ++ (f ∷ later)) ≤ hit_size lost f
  unfolding hit_size
  within false = omega (arith, whole false, none_struck false f later (none_later false f (after (end_of p pre) f) later behind (omega (arith, stands.starts)) (λ e. absurd (false≢true e))))
  within true =
      let w = later_within f (after (end_of p pre) f) later behind (omega (arith, stands.starts)) (omega (arith, stands.starts, stands.fits)) in
      omega (arith, whole true, w, stands.starts)

  alone : (lost : Bool) → lost ≡ false → struck_bytes lost f (pre ++ (f ∷ later)) ≡ hit_size lost f
  unfolding hit_size
  alone true e = absurd (false≢true (sym e))
  alone false e = omega (arith, whole false, none_struck false f later (none_later false f (after (end_of p pre) f) later behind (omega (arith, stands.starts)) (λ e. absurd (false≢true e))))

-- ---- lists of calls

listed : (lost : Bool) (f : Frame) (p : ℕ) (ls : List Listed) → Owns p ls → struck_in lost f ls ≡ struck_bytes lost f (frames_all p (encodings ls))
unfolding struck_in frames_all struck_bytes
listed lost f p [] w = refl
listed lost f p (l ∷ ls) w =
    ap₂ (λ (fs : List Frame) (n : ℕ). struck_bytes lost f fs + n) w.0 (listed lost f (place_after p (encode l.written)) ls w.1)
    ∙ sym (struck-append lost f (frames_of p (encode l.written)) (frames_all (place_after p (encode l.written)) (encodings ls)))

module _ (p : ℕ) (owner : Listed) (ls : List Listed) (w : Owns p (owner ∷ ls)) (earlier later : List Frame) (f : Frame) (hf : owner.frames ≡ earlier ++ (f ∷ later)) where
  abbrev rest : List Frame
  rest = frames_all (place_after p (encode owner.written)) (encodings ls)

  frames : frames_all p (encodings (owner ∷ ls)) ≡ earlier ++ (f ∷ (later ++ rest))
  unfolding frames_all
  frames = ap (λ (fs : List Frame). fs ++ rest) (sym w.0 ∙ hf) ∙ append_assoc earlier (f ∷ later) rest

  parts : (lost : Bool) → StruckParts lost f (owner ∷ ls)
  parts lost =
      let l : Laid p (earlier ++ (f ∷ (later ++ rest))) = subst (Laid p) frames (laid_all p (encodings (owner ∷ ls))) in
      let e : struck_in lost f (owner ∷ ls) ≡ struck_bytes lost f (earlier ++ (f ∷ (later ++ rest))) = listed lost f p (owner ∷ ls) w ∙ ap (struck_bytes lost f) frames in
      record {
        within = subst (λ (n : ℕ). n ≤ hit_size lost f) (sym e) (within p f earlier (later ++ rest) l lost);
        alone = λ z. e ∙ alone p f earlier (later ++ rest) l lost z;
      }

pub states_struck-within : StatesStruckWithin
states_struck-within h s r before after' owner earlier later f lost e hf =
    let w : Standing s (before ++ (owner ∷ after')) = subst (Standing s) (sym (same_records r) ∙ e) (follows r).stands in
    parts (place_all 0 (encodings before)) owner after' (owns_from 0 before (owner ∷ after') w.owns) earlier later f hf lost
