-- One frame counted in the table: its own cell is one more, every other stays, and four rows of two stay.
-- Assumes nothing.
use mathlib.Core.Path.{◌≡◌, refl, sym, ap, ◌∙◌}
use mathlib.Core.Bool.{Bool, true, false}
use mathlib.Core.List.{List, []}
use Prim.Native.Nat.{ℕ, zero, suc, ◌+◌, ◌<◌}
use native.Mathlib.Decide.{ℕ_discrete}
use native.Mathlib.Omega.{arith}
use lib.Dec.{eqb}
use lib.ListN.{length, get_or, set, length-set}
use lib.Seq.{get_or-set_same, get_or-set_other}
use borrow.Author.Tests.{eq-eqb, ne_eqb}
use Rattle.frame.specs.declared.FrameType.{FrameType}
use Rattle.frame.specs.declared.FrameType.TheVariants.{Full as full, First as first, Middle as middle, Last as last}
use Rattle.report_frames.specs.declared.Seen.{Seen}
use Rattle.report_frames.specs.declared.Seen.TheVariants.{Right as right, Wrong as wrong, Unreadable as unreadable, OverLong as over_long}
use Rattle.report_frames.specs.Tally.{row_of, is_right, is_wrong, one}
use Rattle.report_count.specs.Table.{is_of, side, cell, counted, count_seen, table_of, Shaped, CellsFit}

pub row_small : (u : FrameType) → row_of u < 4
unfolding row_of
row_small full = omega arith
row_small first = omega arith
row_small middle = omega arith
row_small last = omega arith

pub side_small : (b : Bool) → side b < 2
side_small true = omega arith
side_small false = omega arith

-- the row of a type after one frame more
abbrev row : List (List ℕ) → ℕ → Bool → List ℕ
row t k b = set (get_or t k []) (side b) (cell t k b + 1)

row_here : (t : List (List ℕ)) (k : ℕ) (b : Bool) → k < length t → get_or (counted t k b) k [] ≡ row t k b
unfolding counted
row_here t k b h = get_or-set_same t k (row t k b) [] h

row_elsewhere : (t : List (List ℕ)) (k : ℕ) (b : Bool) (j : ℕ) → (j ≡ k → ⊥) → get_or (counted t k b) j [] ≡ get_or t j []
unfolding counted
row_elsewhere t k b j n = get_or-set_other t k j (row t k b) [] n

-- the counted cell, the other one of its row, and those of other rows
here : (t : List (List ℕ)) (k : ℕ) (b : Bool) → Shaped t → k < 4 → cell (counted t k b) k b ≡ cell t k b + 1
unfolding cell
here t k b w h =
    ap (λ (l : List ℕ). get_or l (side b) 0) (row_here t k b (omega (arith, w.rows)))
    ∙ get_or-set_same (get_or t k []) (side b) (cell t k b + 1) 0 (omega (arith, w.sides k h, side_small b))

beside : (t : List (List ℕ)) (k : ℕ) (b d : Bool) → Shaped t → k < 4 → (side d ≡ side b → ⊥) → cell (counted t k b) k d ≡ cell t k d
unfolding cell
beside t k b d w h n =
    ap (λ (l : List ℕ). get_or l (side d) 0) (row_here t k b (omega (arith, w.rows)))
    ∙ get_or-set_other (get_or t k []) (side b) (side d) (cell t k b + 1) 0 n

elsewhere : (t : List (List ℕ)) (k : ℕ) (b : Bool) (j : ℕ) (d : Bool) → (j ≡ k → ⊥) → cell (counted t k b) j d ≡ cell t j d
unfolding cell
elsewhere t k b j d n = ap (λ (l : List ℕ). get_or l (side d) 0) (row_elsewhere t k b j n)

counted_shaped : (t : List (List ℕ)) (k : ℕ) (b : Bool) → Shaped t → Shaped (counted t k b)
unfolding counted
counted_shaped t k b w =
    record { rows = length-set t k (row t k b) ∙ w.rows; sides = λ j h. sides j h (ℕ_discrete j k) }
  where
    sides : (j : ℕ) → j < 4 → Dec (j ≡ k) → length (get_or (counted t k b) j []) ≡ 2
    sides j h (yes e) =
        ap (λ (i : ℕ). length (get_or (counted t k b) i [])) e
        ∙ ap length (row_here t k b (omega (arith, w.rows)))
        ∙ length-set (get_or t k []) (side b) (cell t k b + 1)
        ∙ w.sides k (omega arith)
    sides j h (no n) = ap length (row_elsewhere t k b j n) ∙ w.sides j h

-- a cell of the column that is counted in
same_column : (t : List (List ℕ)) (k : ℕ) (b : Bool) (j : ℕ) → Shaped t → j < 4 → cell (counted t k b) j b ≡ cell t j b + one (eqb j k)
unfolding one
same_column t k b j w h = go (ℕ_discrete j k)
  where
    go : Dec (j ≡ k) → cell (counted t k b) j b ≡ cell t j b + one (eqb j k)
    go (yes e) =
        ap (λ (i : ℕ). cell (counted t i b) j b) (sym e) ∙ here t j b w h ∙ ap (λ (q : Bool). cell t j b + one q) (sym (eq-eqb j k e))
    go (no n) =
        elsewhere t k b j b n
        ∙ (let z : cell t j b ≡ cell t j b + 0 = omega arith in z)
        ∙ ap (λ (q : Bool). cell t j b + one q) (sym (ne_eqb j k n))

-- a cell of the other column
other_column : (t : List (List ℕ)) (k : ℕ) (b d : Bool) (j : ℕ) → Shaped t → j < 4 → (side d ≡ side b → ⊥) → cell (counted t k b) j d ≡ cell t j d + 0
other_column t k b d j w h n = go (ℕ_discrete j k)
  where
    z : cell t j d ≡ cell t j d + 0
    z = omega arith

    go : Dec (j ≡ k) → cell (counted t k b) j d ≡ cell t j d + 0
    go (yes e) = ap (λ (i : ℕ). cell (counted t i b) j d) (sym e) ∙ beside t j b d w h n ∙ z
    go (no m) = elsewhere t k b j d m ∙ z

none_more : (x : ℕ) → x ≡ x + 0
none_more x = omega arith

-- one frame more
pub seen-counted : (t : List (List ℕ)) (s : Seen) (j : ℕ) (d : Bool) → Shaped t → j < 4 → cell (count_seen t s) j d ≡ cell t j d + one (is_of j d s)
unfolding count_seen is_of is_right is_wrong one
seen-counted t (right u n) j true w h = same_column t (row_of u) true j w h
seen-counted t (right u n) j false w h = other_column t (row_of u) true false j w h (λ e. omega arith)
seen-counted t (wrong u) j true w h = other_column t (row_of u) false true j w h (λ e. omega arith)
seen-counted t (wrong u) j false w h = same_column t (row_of u) false j w h
seen-counted t unreadable j true w h = none_more (cell t j true)
seen-counted t unreadable j false w h = none_more (cell t j false)
seen-counted t over_long j true w h = none_more (cell t j true)
seen-counted t over_long j false w h = none_more (cell t j false)

pub seen_shaped : (t : List (List ℕ)) (s : Seen) → Shaped t → Shaped (count_seen t s)
unfolding count_seen
seen_shaped t (right u n) w = counted_shaped t (row_of u) true w
seen_shaped t (wrong u) w = counted_shaped t (row_of u) false w
seen_shaped t unreadable w = w
seen_shaped t over_long w = w

pub table_shaped : (ws : List ℕ) → Shaped (table_of ws)
unfolding table_of
table_shaped ws = record { rows = refl; sides = sides }
  where
    sides : (k : ℕ) → k < 4 → length (get_or (table_of ws) k []) ≡ 2
    sides zero h = refl
    sides (suc zero) h = refl
    sides (suc (suc zero)) h = refl
    sides (suc (suc (suc zero))) h = refl
    sides (suc (suc (suc (suc k)))) h = omega arith

-- the place of a frame that is right, and of one that is wrong, as the code has it
pub cell_fits : (t : List (List ℕ)) (k j : ℕ) (b : Bool) → j ≡ side b → CellsFit t → k < 4
    → (k < 4) × (j < 2) × (get_or (get_or t k []) j 0 < 18446744073709551615)
unfolding cell
cell_fits t k j b e h l =
    (l, omega (arith, side_small b), omega (arith, h k b l, ap (λ (i : ℕ). get_or (get_or t k []) i 0) e))

pub counted_at : (t : List (List ℕ)) (k j : ℕ) (b c : Bool) → j ≡ side b → c ≡ b
    → set t k (set (get_or t k []) j (get_or (get_or t k []) j 0 + 1)) ≡ counted t k c
unfolding counted cell
counted_at t k j b c e f =
    ap (λ (i : ℕ). set t k (set (get_or t k []) i (get_or (get_or t k []) i 0 + 1))) e ∙ ap (λ (d : Bool). counted t k d) (sym f)

pub counted-row : (t : List (List ℕ)) (k : ℕ) (b : Bool) (u v : FrameType) → k ≡ row_of v → u ≡ v → counted t k b ≡ counted t (row_of u) b
counted-row t k b u v e f = ap (λ (i : ℕ). counted t i b) (e ∙ ap row_of (sym f))
