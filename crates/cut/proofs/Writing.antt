-- Records written one after the other where zeros follow.
-- Assumes nothing.
use mathlib.Core.Path.{◌≡◌, refl, sym, ap, ap₂, subst, ◌∙◌}
use mathlib.Core.Logic.{◌⊎◌, inl, inr}
use mathlib.Core.List.{List, [], ◌∷◌, ◌++◌, append_assoc}
use Prim.Native.Nat.{ℕ, ◌+◌, ◌-◌, ◌≤◌}
use native.Mathlib.Omega.{arith}
use lib.ListN.{length, take, drop, length-append, length-replicate, replicate-append-replicate}
use lib.Seq.{take_at, drop_at, drop-drop}
use Rattle.slices.specs.Bytes.{zeros}
use Rattle.slices.specs.Put.{put}
use Rattle.slices.proofs.Put.{put_none, put_on, put-put, put_here, length_put}
use Rattle.frame.specs.Block.{padding}
use Rattle.frame.proofs.Step.{padding_none, start_fits, drop-zeros}
use Rattle.recordlog.specs.Began.{header_place}
use Rattle.recordlog.proofs.Sited.{given}
use Rattle.recordlog.proofs.SitedRecords.{given_all}
use Rattle.recordlog.specs.Write.{record_bytes, place_after, bytes_of}
use Rattle.recordlog.specs.Laid.{place_all, records_bytes}
use Rattle.recordlog.proofs.Frames.{frames_all, written_frames, length_record, length-written}
use Rattle.recordlog.proofs.Resume.{resumes_same}
use Rattle.cut.specs.Claims.{write_all}

-- one after the other is all at once
pub write_all_lem : (rs : List (List ℕ)) (log : List ℕ) (q : ℕ) → q ≤ length log → place_all q rs ≤ length log → write_all log q rs ≡ put log q (records_bytes q rs)
unfolding write_all records_bytes place_all
write_all_lem [] log q g h = sym (put_none log q)
write_all_lem (ys ∷ rs) log q g h =
    write_all_lem rs (put log q (record_bytes q ys)) (place_after q ys) (omega (arith, same, low)) (omega (arith, same))
    ∙ put_on log (put log q (record_bytes q ys)) (put (put log q (record_bytes q ys)) (place_after q ys) (records_bytes (place_after q ys) rs)) q (place_after q ys) (record_bytes q ys)
    (records_bytes (place_after q ys) rs) refl (sym (length_record q ys)) (omega (arith, length_record q ys, length-written (place_after q ys) rs)) refl
  where
    low : place_after q ys ≤ length log
    low = omega (arith, length-written (place_after q ys) rs)

    same : length (put log q (record_bytes q ys)) ≡ length log
    same = length_put log q (record_bytes q ys) (omega (arith, low, length_record q ys))

-- from after the padding of a place
same_records : (e : ℕ) (ys : List ℕ) (rs : List (List ℕ))
    → (records_bytes e (ys ∷ rs) ≡ zeros (padding e) ++ records_bytes (e + padding e) (ys ∷ rs)) × (place_all (e + padding e) (ys ∷ rs) ≡ place_all e (ys ∷ rs))
unfolding records_bytes place_all
same_records e ys rs = (
  ap₂ (λ (a : List ℕ) (i : ℕ). a ++ records_bytes i rs) (resumes_same e ys).0 (sym (resumes_same e ys).1)
      ∙ append_assoc (zeros (padding e)) (record_bytes (e + padding e) ys) (records_bytes (place_after (e + padding e) ys) rs),
  ap (λ (i : ℕ). place_all i rs) (resumes_same e ys).1,
)

-- the log after: the front, the records from e on, zeros
pub record Written (front : List ℕ) (e k : ℕ) (tail : List ℕ) (rs : List (List ℕ)) (log : List ℕ) : Type 0 where
  pub is : log ≡ front ++ (bytes_of (frames_all e rs) ++ (zeros (e + k - place_all e rs) ++ tail))
  pub inside : place_all e rs ≤ e + k
  pub size : length log ≡ e + k + length tail

module _ (front tail : List ℕ) (e k : ℕ) (len : length front ≡ e) where
  log : List ℕ
  log = front ++ (zeros k ++ tail)

  log_length : length (front ++ (zeros k ++ tail)) ≡ e + k + length tail
  log_length = omega (arith, length-append front (zeros k ++ tail), length-append (zeros k) tail, length-replicate {A = ℕ} k 0)

  put_at : (rs : List (List ℕ)) → place_all e rs ≤ e + k
      → put (front ++ (zeros k ++ tail)) e (records_bytes e rs) ≡ front ++ (bytes_of (frames_all e rs) ++ (zeros (e + k - place_all e rs) ++ tail))
  unfolding put
  put_at rs h =
      ap₂ (λ (a b : List ℕ). a ++ (records_bytes e rs ++ b)) (take_at front (zeros k ++ tail) e len)
      (sym (drop-drop (length (records_bytes e rs)) e (front ++ (zeros k ++ tail)))
      ∙ ap (drop (length (records_bytes e rs))) (drop_at front (zeros k ++ tail) e len)
      ∙ drop-zeros (length (records_bytes e rs)) k (e + k - place_all e rs) tail (omega (arith, length-written e rs)))
      ∙ ap (λ (a : List ℕ). front ++ (a ++ (zeros (e + k - place_all e rs) ++ tail))) (written_frames e rs)

  written-length : (rs : List (List ℕ)) → place_all e rs ≤ e + k → length (front ++ (bytes_of (frames_all e rs) ++ (zeros (e + k - place_all e rs) ++ tail))) ≡ e + k + length tail
  written-length rs h =
      omega (
        arith,
        length-append front (bytes_of (frames_all e rs) ++ (zeros (e + k - place_all e rs) ++ tail)),
        length-append (bytes_of (frames_all e rs)) (zeros (e + k - place_all e rs) ++ tail),
        length-append (zeros (e + k - place_all e rs)) tail,
        length-replicate {A = ℕ} (e + k - place_all e rs) 0,
        length-written e rs,
        ap length (written_frames e rs),
      )

  by_put : (rs : List (List ℕ)) (after : List ℕ) → place_all e rs ≤ e + k → after ≡ put (front ++ (zeros k ++ tail)) e (records_bytes e rs) → Written front e k tail rs after
  by_put rs after h g = record { is = g ∙ put_at rs h; inside = h; size = ap length (g ∙ put_at rs h) ∙ written-length rs h }

  -- at e itself
  written_here : (rs : List (List ℕ)) → place_all e rs ≤ e + k → Written front e k tail rs (write_all (front ++ (zeros k ++ tail)) e rs)
  written_here rs h = by_put rs (write_all (front ++ (zeros k ++ tail)) e rs) h (write_all_lem rs (front ++ (zeros k ++ tail)) e (omega (arith, log_length)) (omega (arith, log_length)))

  -- after its padding
  written_padded : (ys : List ℕ) (rs : List (List ℕ)) → place_all (e + padding e) (ys ∷ rs) ≤ e + k
      → Written front e k tail (ys ∷ rs) (write_all (front ++ (zeros k ++ tail)) (e + padding e) (ys ∷ rs))
  written_padded ys rs h =
      by_put (ys ∷ rs) (write_all (front ++ (zeros k ++ tail)) (e + padding e) (ys ∷ rs)) (omega (arith, (same_records e ys rs).1))
      (write_all_lem (ys ∷ rs) (front ++ (zeros k ++ tail)) (e + padding e) (omega (arith, log_length, low)) (omega (arith, log_length))
      ∙ ap₂ (λ (l : List ℕ) (i : ℕ). put l i (records_bytes (e + padding e) (ys ∷ rs))) (sym here) (ap (λ (i : ℕ). e + i) (sym (length-replicate {A = ℕ} (padding e) 0)))
      ∙ put-put (front ++ (zeros k ++ tail)) e (zeros (padding e)) (records_bytes (e + padding e) (ys ∷ rs))
      (omega (arith, log_length, length-replicate {A = ℕ} (padding e) 0, length-written (e + padding e) (ys ∷ rs)))
      ∙ ap (put (front ++ (zeros k ++ tail)) e) (sym (same_records e ys rs).0))
    where
      low : e + padding e ≤ e + k
      low = omega (arith, length-written (e + padding e) (ys ∷ rs))

      here : put (front ++ (zeros k ++ tail)) e (zeros (padding e)) ≡ front ++ (zeros k ++ tail)
      here =
          ap (put (front ++ (zeros k ++ tail)) e) (sym zero)
          ∙ put_here (front ++ (zeros k ++ tail)) e (padding e) (omega (arith, log_length, low))
        where
          zero : take (padding e) (drop e (front ++ (zeros k ++ tail))) ≡ zeros (padding e)
          zero =
              ap (take (padding e)) (drop_at front (zeros k ++ tail) e len)
              ∙ ap (λ (i : ℕ). take (padding e) (zeros i ++ tail)) (the_rest) ∙ ap (take (padding e)) (parts)
              ∙ take_at (zeros (padding e)) (zeros (k - padding e) ++ tail) (padding e) (length-replicate (padding e) 0)
            where
              the_rest : k ≡ padding e + (k - padding e)
              the_rest = omega (arith, low)

              parts : zeros (padding e + (k - padding e)) ++ tail ≡ zeros (padding e) ++ (zeros (k - padding e) ++ tail)
              parts = ap (λ (s : List ℕ). s ++ tail) (sym (replicate-append-replicate (padding e) (k - padding e) 0)) ∙ append_assoc (zeros (padding e)) (zeros (k - padding e)) tail

  pub written : (rs : List (List ℕ)) (q : ℕ) → (q ≡ e) ⊎ (q ≡ e + padding e) → place_all q rs ≤ e + k → Written front e k tail rs (write_all (front ++ (zeros k ++ tail)) q rs)
  written rs q (inl g) h = subst (λ (i : ℕ). Written front e k tail rs (write_all (front ++ (zeros k ++ tail)) i rs)) (sym g) (written_here rs (omega (arith, ap (λ (i : ℕ). place_all i rs) g)))
  written [] q (inr g) h = unfold write_all in written_here [] (unfold place_all in omega arith)
  written (ys ∷ rs) q (inr g) h =
      subst (λ (i : ℕ). Written front e k tail (ys ∷ rs) (write_all (front ++ (zeros k ++ tail)) i (ys ∷ rs))) (sym g)
      (written_padded ys rs (omega (arith, ap (λ (i : ℕ). place_all i (ys ∷ rs)) g)))

-- their first headers stand where they would from the place itself
header_same : (e : ℕ) → header_place (e + padding e) ≡ header_place e
unfolding header_place
header_same e = omega (arith, padding_none (e + padding e) (start_fits e))

pub given_same : (e q : ℕ) (rs : List (List ℕ)) → (q ≡ e) ⊎ (q ≡ e + padding e) → given_all q rs ≡ given_all e rs
unfolding given_all
given_same e q rs (inl g) = ap (λ (i : ℕ). given_all i rs) g
given_same e q [] (inr g) = refl
given_same e q (ys ∷ rs) (inr g) =
    ap (λ (i : ℕ). given_all i (ys ∷ rs)) g
    ∙ ap₂ (λ (h p : ℕ). given h ys ∷ given_all p rs) (header_same e) (resumes_same e ys).1
