-- The frames ahead of a reader: one less with each, none at the end of log; how many there can be, and how many bytes of data.
-- Assumes nothing.
use mathlib.Core.Path.{◌≡◌, refl, ap, ◌∙◌}
use mathlib.Core.Bool.{Bool, true, false}
use Rattle.std.specs.Prelude.{Option, Some, None}
use mathlib.Core.List.{List, [], ◌∷◌}
use Prim.Native.Nat.{ℕ, zero, suc, ◌≤◌, ◌<◌}
use native.Mathlib.Omega.{arith}
use lib.ListN.{length}
use Rattle.frame.specs.declared.Reader.{Reader}
use Rattle.frame.specs.Reader.{not_available}
use Rattle.frame.specs.Reader.{read_frame, ahead}
use Rattle.frame.specs.Internal.{Arranged}
use Rattle.frame.proofs.Measure.{onward, ahead_falls}
use Rattle.report_frames.specs.declared.Seen.{Seen}
use Rattle.report_frames.specs.Seen.{type_said, seen_as, seen, frames_then, frames_from, frames_ahead}
use Rattle.report_frames.specs.Tally.{one, times}

module _ (log : List ℕ) where
  -- where the next frame is not the end of log
  going : (r : Reader) (s : Seen) → seen log r ≡ Some s → (read_frame log r).answer ≡ not_available → ⊥
  unfolding seen seen_as
  going r s h e =
      let n : seen_as (type_said log r) (read_frame log r).answer ≡ None = ap (seen_as (type_said log r)) e in
      let z : ◌≡◌ {A = ℕ} 0 1 = cc in omega arith

  pub left_arranged : (r : Reader) → Arranged log r → Arranged log (read_frame log r).reader
  left_arranged r a = (onward log r a).arranged

  pub fewer : (r : Reader) → Arranged log r → (s : Seen) → seen log r ≡ Some s → ahead log (read_frame log r).reader < ahead log r
  fewer r a s h = ahead_falls log r a (going r s h)

  -- any two numbers of turns that suffice give the same frames
  pub same : (j k : ℕ) (r : Reader) → Arranged log r → ahead log r ≤ j → ahead log r ≤ k → frames_from j log r ≡ frames_from k log r
  unfolding frames_from frames_then
  same zero zero r a hj hk = refl
  same zero (suc k) r a hj hk = none (seen log r) refl
    where
      none : (x : Option Seen) → seen log r ≡ x → [] ≡ frames_then x (frames_from k log (read_frame log r).reader)
      none None e = refl
      none (Some s) e = absurd (omega (arith, fewer r a s e))
  same (suc j) zero r a hj hk = none (seen log r) refl
    where
      none : (x : Option Seen) → seen log r ≡ x → frames_then x (frames_from j log (read_frame log r).reader) ≡ []
      none None e = refl
      none (Some s) e = absurd (omega (arith, fewer r a s e))
  same (suc j) (suc k) r a hj hk =
      step (seen log r) refl
      (λ s e. same j k (read_frame log r).reader (left_arranged r a) (omega (arith, fewer r a s e)) (omega (arith, fewer r a s e)))
    where
      step : (x : Option Seen) → seen log r ≡ x
          → ((s : Seen) → seen log r ≡ Some s → frames_from j log (read_frame log r).reader ≡ frames_from k log (read_frame log r).reader)
          → frames_then x (frames_from j log (read_frame log r).reader) ≡ frames_then x (frames_from k log (read_frame log r).reader)
      step None e go = refl
      step (Some s) e go = ap (λ (ss : List Seen). s ∷ ss) (go s e)

  pub none_ahead : (r : Reader) → Arranged log r → seen log r ≡ None → frames_ahead log r ≡ []
  unfolding frames_ahead frames_from frames_then
  none_ahead r a e =
      same (ahead log r) (suc (ahead log r)) r a (omega arith) (omega arith)
      ∙ ap (λ (x : Option Seen). frames_then x (frames_from (ahead log r) log (read_frame log r).reader)) e

  pub one_ahead : (r : Reader) → Arranged log r → (s : Seen) → seen log r ≡ Some s
      → frames_ahead log r ≡ s ∷ frames_ahead log (read_frame log r).reader
  unfolding frames_ahead frames_from frames_then
  one_ahead r a s e =
      same (ahead log r) (suc (ahead log r)) r a (omega arith) (omega arith)
      ∙ ap (λ (x : Option Seen). frames_then x (frames_from (ahead log r) log (read_frame log r).reader)) e
      ∙ ap (λ (ss : List Seen). s ∷ ss)
      (same (ahead log r) (ahead log (read_frame log r).reader) (read_frame log r).reader (left_arranged r a) (omega (arith, fewer r a s e)) (omega arith))

  pub most_frames_lem : (k : ℕ) (r : Reader) → length (frames_from k log r) ≤ k
  unfolding frames_from frames_then
  most_frames_lem zero r = omega arith
  most_frames_lem (suc k) r = step (seen log r) (most_frames_lem k (read_frame log r).reader)
    where
      step : (x : Option Seen) → length (frames_from k log (read_frame log r).reader) ≤ k
          → length (frames_then x (frames_from k log (read_frame log r).reader)) ≤ suc k
      step None h = omega arith
      step (Some s) h = omega arith

one_small : (b : Bool) → one b ≤ 1
unfolding one
one_small true = omega arith
one_small false = omega arith

pub times_most : (p : Seen → Bool) (ss : List Seen) → times p ss ≤ length ss
unfolding times
times_most p [] = omega arith
times_most p (s ∷ ss) = omega (arith, times_most p ss, one_small (p s))
