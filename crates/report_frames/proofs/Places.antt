-- What is said at a header, and what a frame is seen as.
-- Assumes nothing.
use mathlib.Core.Path.{◌≡◌, sym, ap, ◌∙◌}
use mathlib.Core.Bool.{Bool, true, false}
use mathlib.Core.List.{List}
use Prim.Native.Nat.{ℕ, ◌+◌, ◌*◌, ◌≤◌}
use native.Mathlib.Omega.{arith}
use lib.ListN.{length, get_or, drop, get_or-eq_default}
use lib.Seq.{get_or-drop}
use Rattle.frame.specs.declared.FrameType.{FrameType}
use Rattle.frame.specs.declared.Reader.{Reader}
use Rattle.std.specs.Prelude.{Option, None}
use Rattle.frame.specs.declared.FrameRead.{FrameRead}
use Rattle.frame.specs.Frame.{type_of, type_when, header_of}
use Rattle.frame.specs.Reader.{must_move, read_frame}
use Rattle.report_frames.specs.declared.Seen.{Seen}
use Rattle.report_frames.specs.Seen.{header_place_when, header_place, type_said, seen_as, seen}

pub place_low : (r : Reader) → r.cursor ≤ 32768 → header_place r ≤ r.block * 32768 + 32768
unfolding header_place header_place_when
place_low r h = go (must_move r) where
  go : (b : Bool) → header_place_when b r ≤ r.block * 32768 + 32768
  go true = omega arith
  go false = omega (arith, h)

-- the type byte inside the log, and past its end
pub said_there : (log : List ℕ) (r : Reader) (p b : ℕ) (k : Option FrameType) → p ≡ header_place r → b ≡ get_or log (p + 6) 0 → k ≡ type_of b → k ≡ type_said log r
unfolding type_said
said_there log r p b k ep eb ek = ek ∙ ap type_of (eb ∙ sym (get_or-drop p log 6 0) ∙ ap (λ (n : ℕ). (header_of (drop n log)).kind) ep)

pub said_past : (log : List ℕ) (r : Reader) (p : ℕ) (k : Option FrameType) → p ≡ header_place r → length log ≤ p + 6 → k ≡ None → k ≡ type_said log r
unfolding type_of type_when
said_past log r p k ep l ek = said_there log r p 0 k ep (sym (get_or-eq_default log 0 {n = p + 6} (omega (arith, l)))) ek

pub seen_is : (log : List ℕ) (r : Reader) (x : FrameRead) (s : Option Seen) → x ≡ read_frame log r → s ≡ seen_as (type_said log r) x.answer
    → (s ≡ seen log r) × (x.reader ≡ (read_frame log r).reader)
unfolding seen
seen_is log r x s ex es =
    (es ∙ ap (λ (y : FrameRead). seen_as (type_said log r) y.answer) ex, ap (λ (y : FrameRead). y.reader) ex)
