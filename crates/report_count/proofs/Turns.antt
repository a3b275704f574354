-- The loop over a log's frames: each count with what the frames ahead add is the count at the end.
-- Assumes nothing.
use mathlib.Core.Path.{◌≡◌, refl, sym, ap, subst, ◌∙◌}
use mathlib.Core.Bool.{Bool, true, false}
use Rattle.std.specs.Prelude.{Some, None}
use mathlib.Core.List.{List, [], ◌∷◌}
use Prim.Native.Nat.{ℕ, zero, suc, ◌+◌, ◌*◌, ◌≤◌, ◌<◌}
use native.Mathlib.Omega.{arith}
use lib.ListN.{length, get_or}
use lib.Seq.{ext_get_or}
use Rattle.frame.specs.declared.FrameType.{FrameType}
use Rattle.frame.specs.declared.Reader.{Reader}
use Rattle.frame.specs.Block.{blocks}
use Rattle.frame.specs.Reader.{fresh, read_frame, ahead}
use Rattle.frame.specs.Internal.{Arranged}
use Rattle.report_frames.specs.declared.Seen.{Seen}
use Rattle.report_frames.specs.declared.Seen.TheVariants.{Right as right, Wrong as wrong, Unreadable as unreadable, OverLong as over_long}
use Rattle.report_frames.specs.Seen.{seen, frames_ahead, frames_read}
use Rattle.report_frames.specs.Tally.{is_unreadable, is_over_long, data_in, one, times, data_bytes, tally}
use Rattle.report_frames.proofs.Ahead.{left_arranged, fewer, none_ahead, one_ahead}
use Rattle.report_frames.proofs.Claims.{fresh-arranged}
use Rattle.report_count.specs.declared.Others.{Others}
use Rattle.report_count.specs.Sums.{plus}
use Rattle.report_count.specs.Table.{is_of, side, cell, count_seen, count_others, table_of, others_of, numbers_of, Shaped, CellsFit, OthersFit, NumbersFit}
use Rattle.report_count.proofs.Cells.{seen-counted, seen_shaped, table_shaped}
use Rattle.report_count.proofs.Plus.{get_d_plus, length-plus}

-- where a cell stands among the twelve numbers
unfoldable number_at : ℕ → Bool → ℕ
number_at k b = 2 * k + 1 + side b

-- the other counts after a frame
pub unreadable_more : (o : Others) (s : Seen) → (count_others o s).unreadable ≡ o.unreadable + one (is_unreadable s)
unfolding count_others is_unreadable one
unreadable_more o (right u n) = omega arith
unreadable_more o (wrong u) = omega arith
unreadable_more o unreadable = omega arith
unreadable_more o over_long = omega arith

pub over_long_more : (o : Others) (s : Seen) → (count_others o s).over_long ≡ o.over_long + one (is_over_long s)
unfolding count_others is_over_long one
over_long_more o (right u n) = omega arith
over_long_more o (wrong u) = omega arith
over_long_more o unreadable = omega arith
over_long_more o over_long = omega arith

pub data_more : (o : Others) (s : Seen) → (count_others o s).«data» ≡ o.«data» + data_in s
unfolding count_others data_in
data_more o (right u n) = omega arith
data_more o (wrong u) = omega arith
data_more o unreadable = omega arith
data_more o over_long = omega arith

-- a report's numbers ws, and this log: the table t, the other counts o and the reader r on the way
pub record Counting (ws log : List ℕ) (t : List (List ℕ)) (o : Others) (r : Reader) : Type 0 where
  pub arranged : Arranged log r
  pub shaped : Shaped t
  pub cells : (k : ℕ) (b : Bool) → k < 4
      → cell t k b + times (is_of k b) (frames_ahead log r) ≡ cell (table_of ws) k b + times (is_of k b) (frames_read log)
  pub unread : o.unreadable + times is_unreadable (frames_ahead log r) ≡ get_or ws 9 0 + times is_unreadable (frames_read log)
  pub long : o.over_long + times is_over_long (frames_ahead log r) ≡ get_or ws 10 0 + times is_over_long (frames_read log)
  pub bytes : o.«data» + data_bytes (frames_ahead log r) ≡ get_or ws 11 0 + data_bytes (frames_read log)

pub start : (ws log : List ℕ) (t : List (List ℕ)) (o : Others) (r : Reader) → 1 ≤ blocks log → t ≡ table_of ws → o ≡ others_of ws → r ≡ fresh
    → Counting ws log t o r
unfolding frames_read others_of
start ws log t o r h et eo er = cast (record {
  arranged = fresh-arranged log h;
  shaped = table_shaped ws;
  cells = λ k b l. refl;
  unread = refl;
  long = refl;
  bytes = refl;
})
  where
    cast : Counting ws log (table_of ws) (others_of ws) fresh → Counting ws log t o r
    cast w = subst (λ (t : List (List ℕ)). Counting ws log t o r) (sym et)
        (subst (λ (o : Others). Counting ws log (table_of ws) o r) (sym eo)
        (subst (λ (r : Reader). Counting ws log (table_of ws) (others_of ws) r) (sym er) w))

-- a frame more
pub turn : (ws log : List ℕ) (t u : List (List ℕ)) (o p : Others) (r q : Reader) (s : Seen) → Counting ws log t o r → seen log r ≡ Some s
    → u ≡ count_seen t s → p ≡ count_others o s → q ≡ (read_frame log r).reader → Counting ws log u p q
unfolding times data_bytes
turn ws log t u o p r q s w es eu ep eq =
    cast (record {
      arranged = left_arranged log r w.arranged;
      shaped = seen_shaped t s w.shaped;
      cells = λ k b l. omega (arith, w.cells k b l, ap (times (is_of k b)) f, seen-counted t s k b w.shaped l);
      unread = omega (arith, w.unread, ap (times is_unreadable) f, unreadable_more o s);
      long = omega (arith, w.long, ap (times is_over_long) f, over_long_more o s);
      bytes = omega (arith, w.bytes, ap data_bytes f, data_more o s);
    })
  where
    f : frames_ahead log r ≡ s ∷ frames_ahead log (read_frame log r).reader
    f = one_ahead log r w.arranged s es

    cast : Counting ws log (count_seen t s) (count_others o s) (read_frame log r).reader → Counting ws log u p q
    cast v = subst (λ (t : List (List ℕ)). Counting ws log t p q) (sym eu)
        (subst (λ (o : Others). Counting ws log (count_seen t s) o q) (sym ep)
        (subst (λ (r : Reader). Counting ws log (count_seen t s) (count_others o s) r) (sym eq) v))

pub falls : (ws log : List ℕ) (t : List (List ℕ)) (o : Others) (r q : Reader) (s : Seen) → Counting ws log t o r → seen log r ≡ Some s
    → q ≡ (read_frame log r).reader → ahead log q < ahead log r
falls ws log t o r q s w es eq = omega (arith, fewer log r w.arranged s es, ap (ahead log) eq)

-- ---- no number passes its bound on the way

-- a cell at the end is a number of the report after the log
cell_end : (ws : List ℕ) (ss : List Seen) (k : ℕ) (b : Bool) → k < 4
    → cell (table_of ws) k b + times (is_of k b) ss ≡ get_or (plus ws (tally ss)) (number_at k b) 0
unfolding cell table_of tally is_of number_at
cell_end ws ss zero true h = sym (get_d_plus ws (tally ss) 1)
cell_end ws ss zero false h = sym (get_d_plus ws (tally ss) 2)
cell_end ws ss (suc zero) true h = sym (get_d_plus ws (tally ss) 3)
cell_end ws ss (suc zero) false h = sym (get_d_plus ws (tally ss) 4)
cell_end ws ss (suc (suc zero)) true h = sym (get_d_plus ws (tally ss) 5)
cell_end ws ss (suc (suc zero)) false h = sym (get_d_plus ws (tally ss) 6)
cell_end ws ss (suc (suc (suc zero))) true h = sym (get_d_plus ws (tally ss) 7)
cell_end ws ss (suc (suc (suc zero))) false h = sym (get_d_plus ws (tally ss) 8)
cell_end ws ss (suc (suc (suc (suc k)))) b h = absurd (omega arith)

unread_end : (ws : List ℕ) (ss : List Seen) → get_or ws 9 0 + times is_unreadable ss ≡ get_or (plus ws (tally ss)) 9 0
unfolding tally
unread_end ws ss = sym (get_d_plus ws (tally ss) 9)

long_end : (ws : List ℕ) (ss : List Seen) → get_or ws 10 0 + times is_over_long ss ≡ get_or (plus ws (tally ss)) 10 0
unfolding tally
long_end ws ss = sym (get_d_plus ws (tally ss) 10)

bytes_end : (ws : List ℕ) (ss : List Seen) → get_or ws 11 0 + data_bytes ss ≡ get_or (plus ws (tally ss)) 11 0
unfolding tally
bytes_end ws ss = sym (get_d_plus ws (tally ss) 11)

pub cells_fit : (ws log : List ℕ) (t : List (List ℕ)) (o : Others) (r : Reader) → NumbersFit ws log → Counting ws log t o r → CellsFit t
cells_fit ws log t o r n w k b h =
    omega (arith, w.cells k b h, cell_end ws (frames_read log) k b h, n (number_at k b))

pub others_fit : (ws log : List ℕ) (t : List (List ℕ)) (o : Others) (r : Reader) (s : Seen) → NumbersFit ws log → Counting ws log t o r
    → seen log r ≡ Some s → OthersFit o s
unfolding data_bytes
others_fit ws log t o r s n w es = record {
  unreadable = omega (arith, w.unread, unread_end ws (frames_read log), n 9);
  over_long = omega (arith, w.long, long_end ws (frames_read log), n 10);
  bytes = omega (arith, w.bytes, bytes_end ws (frames_read log), n 11, ap data_bytes f);
}
  where
    f : frames_ahead log r ≡ s ∷ frames_ahead log (read_frame log r).reader
    f = one_ahead log r w.arranged s es

pub logs_fit : (ws log : List ℕ) → NumbersFit ws log → get_or ws 0 0 < 18446744073709551615
unfolding tally
logs_fit ws log n = omega (arith, n 0, get_d_plus ws (tally (frames_read log)) 0)

-- ---- the end

pub end : (ws log : List ℕ) (t : List (List ℕ)) (o : Others) (r : Reader) → length ws ≡ 12 → Counting ws log t o r
    → seen log r ≡ None → numbers_of (get_or ws 0 0 + 1) t o ≡ plus ws (tally (frames_read log))
unfolding numbers_of times data_bytes tally number_at
end ws log t o r n w es =
    ext_get_or 0 (numbers_of (get_or ws 0 0 + 1) t o) (plus ws (tally (frames_read log))) (sym (length-plus ws (tally (frames_read log)) n ∙ n)) at
  where
    f : frames_ahead log r ≡ []
    f = none_ahead log r w.arranged es

    of_cell : (k : ℕ) (b : Bool) → k < 4 → cell t k b ≡ get_or (plus ws (tally (frames_read log))) (number_at k b) 0
    of_cell k b h = omega (arith, w.cells k b h, ap (times (is_of k b)) f, cell_end ws (frames_read log) k b h)

    at : (i : ℕ) → i < 12 → get_or (numbers_of (get_or ws 0 0 + 1) t o) i 0 ≡ get_or (plus ws (tally (frames_read log))) i 0
    at zero h = sym (get_d_plus ws (tally (frames_read log)) 0)
    at (suc zero) h = of_cell 0 true (omega arith)
    at (suc (suc zero)) h = of_cell 0 false (omega arith)
    at (suc (suc (suc zero))) h = of_cell 1 true (omega arith)
    at (suc (suc (suc (suc zero)))) h = of_cell 1 false (omega arith)
    at (suc (suc (suc (suc (suc zero))))) h = of_cell 2 true (omega arith)
    at (suc (suc (suc (suc (suc (suc zero)))))) h = of_cell 2 false (omega arith)
    at (suc (suc (suc (suc (suc (suc (suc zero))))))) h = of_cell 3 true (omega arith)
    at (suc (suc (suc (suc (suc (suc (suc (suc zero)))))))) h = of_cell 3 false (omega arith)
    at (suc (suc (suc (suc (suc (suc (suc (suc (suc zero))))))))) h = omega (arith, w.unread, ap (times is_unreadable) f, unread_end ws (frames_read log))
    at (suc (suc (suc (suc (suc (suc (suc (suc (suc (suc zero)))))))))) h = omega (arith, w.long, ap (times is_over_long) f, long_end ws (frames_read log))
    at (suc (suc (suc (suc (suc (suc (suc (suc (suc (suc (suc zero))))))))))) h = omega (arith, w.bytes, ap data_bytes f, bytes_end ws (frames_read log))
    at (suc (suc (suc (suc (suc (suc (suc (suc (suc (suc (suc (suc i)))))))))))) h = absurd (omega arith)

pub data_right : (s : Seen) (u : FrameType) (n : ℕ) → s ≡ right u n → data_in s ≡ n
unfolding data_in
data_right s u n e = ap data_in e
