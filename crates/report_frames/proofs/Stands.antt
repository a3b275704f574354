-- One frame read: where its header stands, what its type byte says, and how far the reader moves on.
-- Assumes nothing.
use mathlib.Core.Path.{◌≡◌, refl, sym, ap, subst, ◌∙◌}
use mathlib.Core.Bool.{Bool, true, false}
use mathlib.Core.List.{List, ◌∷◌}
use Prim.Native.Nat.{ℕ, suc, ◌+◌, ◌*◌, ◌≤◌}
use native.Mathlib.Omega.{arith}
use lib.Dec.{leb, ltb, eqb}
use lib.ListN.{take, drop}
use Rattle.crc32.specs.Crc.{crc32}
use Rattle.frame.specs.declared.Reader.{Reader}
use Rattle.frame.specs.declared.FrameRead.{FrameRead}
use Rattle.frame.specs.declared.FrameType.{FrameType}
use Rattle.std.specs.Prelude.{Option, Some, Some as known, None, None as unknown, Ok}
use Rattle.std.specs.Option.{unwrap_or}
use Rattle.frame.specs.declared.Corruption.TheVariants.{UnknownType as unknown_type}
use Rattle.frame.specs.declared.Frame.{Frame}
use Rattle.frame.specs.Reader.{FrameAnswer, corrupt}
use Rattle.frame.proofs.Measure.{frame_in}
use Rattle.report_frames.specs.declared.Seen.{Seen}
use Rattle.frame.specs.Frame.{type_of, all_zero, header_of, content_of}
use Rattle.frame.specs.Block.{blocks}
use Rattle.frame.specs.Reader.{place, judge, look, read_at, must_move, moved, read_frame}
use Rattle.report_frames.specs.declared.Seen.TheVariants.{Unreadable as unreadable}
use Rattle.report_frames.specs.Seen.{header_place_when, header_place, type_said, wrong_as, seen_as}
use Rattle.report_frames.specs.Tally.{data_in}

-- x is read by a reader at place q, with its header at place p, whose type byte says k
pub record Stands (q p : ℕ) (k : Option FrameType) (x : FrameRead) : Type 0 where
  pub there : (f : Frame) → x.answer ≡ Ok f → (f.start ≡ p + 7) × (k ≡ known f.kind)
  pub typed : seen_as k x.answer ≡ Some unreadable → x.answer ≡ corrupt unknown_type
  pub moves : (s : Seen) → seen_as k x.answer ≡ Some s → q + data_in s ≤ place x.reader

-- no frame is none that is seen, and the data of one are those of the same
no_sight : {s : Seen} → None ≡ Some s → ⊥
no_sight e = let z : ◌≡◌ {A = ℕ} 0 1 = cc in omega arith

sight_data : {s u : Seen} → Some u ≡ Some s → data_in u ≡ data_in s
sight_data {s} e = ap (λ (x : Option Seen). data_in (unwrap_or x s)) e

judged : (q : ℕ) (z : Bool) (k : Option FrameType) (f e : Bool) (b c n : ℕ) → q ≤ b * 32768 + c → Stands q (b * 32768 + c) k (judge z k f e b c n)
unfolding judge seen_as wrong_as data_in
judged q true k f e b c n h = record { there = λ g d. (cc, cc); typed = λ g. cc; moves = λ s g. absurd (no_sight g) }
judged q false unknown f e b c n h = record { there = λ g d. (cc, cc); typed = λ g. refl; moves = λ s g. omega (arith, sight_data g) }
judged q false (known t) false e b c n h = record { there = λ g d. (cc, cc); typed = λ g. cc; moves = λ s g. omega (arith, sight_data g) }
judged q false (known t) true false b c n h = record { there = λ g d. (cc, cc); typed = λ g. cc; moves = λ s g. omega (arith, sight_data g) }
judged q false (known t) true true b c n h = record {
  there = λ g d.
      (sym (ap (λ (x : FrameAnswer). (frame_in g x).start) d), ap (λ (x : FrameAnswer). known (frame_in g x).kind) d);
  typed = λ g. cc;
  moves = λ s g. omega (arith, sight_data g);
}

looked : (q b c : ℕ) (s : List ℕ) → q ≤ b * 32768 + c → Stands q (b * 32768 + c) (type_of (header_of s).kind) (look b c s)
unfolding look
looked q b c s h =
    judged q (all_zero (take 7 s)) (type_of (header_of s).kind) (leb (c + 7 + (header_of s).len) 32768)
    (eqb (crc32 ((header_of s).kind ∷ content_of s)) (header_of s).checksum) b c (header_of s).len h

-- where the reader looks: at its place, or at the next block's start
stays_at : (r : Reader) → must_move r ≡ false → header_place r ≡ place r
unfolding header_place header_place_when
stays_at r m = ap (λ (b : Bool). header_place_when b r) m

moves_to : (r : Reader) → must_move r ≡ true → header_place r ≡ suc r.block * 32768 + 0
unfolding header_place header_place_when
moves_to r m = ap (λ (b : Bool). header_place_when b r) m ∙ (let e : suc r.block * 32768 ≡ suc r.block * 32768 + 0 = omega arith in e)

placed : (q p : ℕ) (log : List ℕ) (x : FrameRead) (r : Reader) → header_place r ≡ p → Stands q p (type_of (header_of (drop p log)).kind) x
    → Stands q (header_place r) (type_said log r) x
unfolding type_said
placed q p log x r e s = subst (λ (i : ℕ). Stands q i (type_of (header_of (drop i log)).kind) x) (sym e) s

-- a frame read by any reader; where there is no next block, there is none
pub stands : (q : ℕ) (log : List ℕ) (r : Reader) → q ≤ header_place r → Stands q (header_place r) (type_said log r) (read_frame log r)
unfolding read_frame moved seen_as
stands q log r h = go (must_move r) refl (ltb (suc r.block) (blocks log))
  where
    go : (m : Bool) → must_move r ≡ m → (n : Bool) → Stands q (header_place r) (type_said log r) (moved m n log r)
    go false em n =
        placed q (place r) log (read_at log r.block r.cursor) r (stays_at r em)
        (looked q r.block r.cursor (drop (place r) log) (omega (arith, stays_at r em)))
    go true em false = record { there = λ g d. (cc, cc); typed = λ g. cc; moves = λ s g. absurd (no_sight g) }
    go true em true =
        placed q (suc r.block * 32768 + 0) log (read_at log (suc r.block) 0) r (moves_to r em)
        (looked q (suc r.block) 0 (drop (suc r.block * 32768 + 0) log) (omega (arith, moves_to r em)))

-- a header is never looked for before the reader's place
pub not_before : (r : Reader) → r.cursor ≤ 32768 → place r ≤ header_place r
not_before r h = go (must_move r) refl
  where
    go : (m : Bool) → must_move r ≡ m → place r ≤ header_place r
    go false e = omega (arith, stays_at r e)
    go true e = omega (arith, moves_to r e)
