-- What is assumed of the checksum holds by itself where what is missing is short.
-- Assumes nothing.
use mathlib.Core.Path.{◌≡◌, refl, sym, ap, subst, ◌∙◌}
use mathlib.Core.Logic.{◌⊎◌, inl, inr}
use mathlib.Core.Bool.{Bool, false, false≢true}
use mathlib.Core.List.{List, [], ◌∷◌, ◌++◌}
use Prim.Native.Nat.{ℕ, zero, suc, ◌+◌, ◌*◌, ◌-◌, ◌≤◌, ◌<◌}
use native.Mathlib.Omega.{arith}
use lib.ListN.{length, take, drop, get_or, length-take, length-drop, length-append, length-replicate, replicate-append-replicate, take-append-drop, get_or-append}
use lib.Seq.{get_or-append-add, drop-append-add, drop_at}
use Rattle.slices.specs.Bytes.{Bytes, zeros}
use Rattle.crc32.specs.Crc.{crc32, run, step, bits, bits_of, odd}
use Rattle.crc32.specs.Burst.{Within32}
use Rattle.crc32.proofs.Claims.{burst_detected}
use Rattle.crc32.proofs.Parts.{bits-append, length-bits}
use Rattle.frame.specs.Frame.{type_number, header_bytes, header_for, frame_bytes, all_zero}
use Rattle.frame.proofs.Headers.{type_high, length_frame}
use Rattle.frame.proofs.Put.{length_header}
use Rattle.frame.proofs.Tests.{le_or_lt}
use Rattle.recordlog.specs.Write.{Frame}
use Rattle.cut.specs.Cut.{cut_at, stored}
use Rattle.cut.specs.Claims.{Missing32, UnfitShort, UnfitFew, FitsZeros}
use Rattle.cut.proofs.Lists.{cut_none, cut_all, cut_cons, zeros-zero, missing_some}

-- ---- lists that differ within 32 bits

within-behind : (a x y : List Bool) (k : ℕ) → Within32 x y k → Within32 (a ++ x) (a ++ y) (length a + k)
within-behind a x y k w = record {
  same_length = omega (arith, length-append a x, length-append a y, w.same_length);
  before = λ i h. at i (λ j e. w.before j (omega arith));
  after = λ i h. at i (λ j e. w.after j (omega arith));
}
  where
    at : (i : ℕ) → ((j : ℕ) → i ≡ length a + j → get_or x j false ≡ get_or y j false) → get_or (a ++ x) i false ≡ get_or (a ++ y) i false
    at i g = go (le_or_lt (length a) i)
      where
        go : (length a ≤ i) ⊎ (i < length a) → get_or (a ++ x) i false ≡ get_or (a ++ y) i false
        go (inr h) = get_or-append a x false i h ∙ sym (get_or-append a y false i h)
        go (inl h) =
            let e : i ≡ length a + (i - length a) = omega arith in
            ap (λ (m : ℕ). get_or (a ++ x) m false) e ∙ get_or-append-add a x (i - length a) false ∙ g (i - length a) e
            ∙ sym (ap (λ (m : ℕ). get_or (a ++ y) m false) e ∙ get_or-append-add a y (i - length a) false)

-- ---- bytes

bytes_cons : (x : ℕ) (l : List ℕ) → x < 256 → Bytes l → Bytes (x ∷ l)
bytes_cons x l h g zero = h
bytes_cons x l h g (suc i) = g i

bytes_zeros : (n : ℕ) → Bytes (zeros n)
bytes_zeros zero i = omega arith
bytes_zeros (suc n) zero = omega arith
bytes_zeros (suc n) (suc i) = bytes_zeros n i

bytes_cut : (m : ℕ) (w : List ℕ) → Bytes w → Bytes (cut_at m w)
bytes_cut zero w h = subst Bytes (sym (cut_none w)) (bytes_zeros (length w))
bytes_cut (suc m) [] h = subst Bytes (sym (cut_all (suc m) [] (omega arith))) h
bytes_cut (suc m) (x ∷ w) h = subst Bytes (sym (cut_cons m x w)) (bytes_cons x (cut_at m w) (h 0) (bytes_cut m w (λ i. h (suc i))))

-- ---- the frame

module _ (c : ℕ) (f : Frame) (k : ℕ) (bs : Bytes f.content) (near : Missing32 (c - (f.start + 7)) f.content k)
    (n : stored c f ≡ false) (h : f.start + 7 ≤ c) where
  m : ℕ
  m = c - (f.start + 7)

  front : List ℕ
  front = type_number f.kind ∷ take m f.content

  missing : drop (c - f.start) (frame_bytes f.kind f.content) ≡ drop m f.content
  unfolding frame_bytes m
  missing =
      let e : c - f.start ≡ length (header_bytes (header_for f.kind f.content)) + (c - (f.start + 7)) = omega (arith, length_header (header_for f.kind f.content)) in
      ap (λ (i : ℕ). drop i (header_bytes (header_for f.kind f.content) ++ f.content)) e
      ∙ drop-append-add (header_bytes (header_for f.kind f.content)) f.content (c - (f.start + 7))

  inside : m < length f.content
  unfolding m
  inside =
      omega (
        arith,
        missing_some (c - f.start) (frame_bytes f.kind f.content) (unfold stored in n),
        length_frame f.kind f.content,
      )

  -- both messages, in the part that is there and the part that is missing
  whole_parts : type_number f.kind ∷ f.content ≡ front ++ drop m f.content
  unfolding front
  whole_parts = ap (λ (s : List ℕ). type_number f.kind ∷ s) (sym (take-append-drop m f.content))

  cut_parts : type_number f.kind ∷ cut_at m f.content ≡ front ++ zeros (length (drop m f.content))
  unfolding front cut_at
  cut_parts = ap (λ (j : ℕ). type_number f.kind ∷ (take m f.content ++ zeros j)) (sym (length-drop m f.content))

  differ : type_number f.kind ∷ f.content ≡ type_number f.kind ∷ cut_at m f.content → ⊥
  unfolding front stored
  differ e =
      false≢true
      (sym n
      ∙ (ap all_zero (missing ∙ sym (drop_at front (drop m f.content) (suc m) long) ∙ ap (drop (suc m)) (sym whole_parts ∙ e ∙ cut_parts)
      ∙ drop_at front (zeros (length (drop m f.content))) (suc m) long))
      ∙ zeros-zero (length (drop m f.content)))
    where
      long : length (type_number f.kind ∷ take m f.content) ≡ suc m
      long = omega (arith, length-take m f.content, inside)

  pub told : crc32 (type_number f.kind ∷ cut_at (c - (f.start + 7)) f.content) ≡ crc32 (type_number f.kind ∷ f.content) → ⊥
  unfolding m
  told e =
      burst_detected (type_number f.kind ∷ f.content) (type_number f.kind ∷ cut_at m f.content) (length (bits front) + k)
      (bytes_cons (type_number f.kind) f.content (omega (arith, type_high f.kind)) bs)
      (bytes_cons (type_number f.kind) (cut_at m f.content) (omega (arith, type_high f.kind)) (bytes_cut m f.content bs))
      (subst (λ (x : List Bool). Within32 x (bits (type_number f.kind ∷ cut_at m f.content)) (length (bits front) + k)) (sym (ap bits whole_parts ∙ bits-append front (drop m f.content)))
      (subst (λ (y : List Bool). Within32 (bits front ++ bits (drop m f.content)) y (length (bits front) + k))
      (sym (ap bits cut_parts ∙ bits-append front (zeros (length (drop m f.content)))))
      (within-behind (bits front) (bits (drop m f.content)) (bits (zeros (length (drop m f.content)))) k near)))
      differ (sym e)

pub unfit_short : UnfitShort
unfit_short c f k bs near n h e = told c f k bs near n h e

-- ---- at most four bytes

few : (u : List ℕ) (j : ℕ) → length u ≤ 4 → Within32 (bits (u ++ zeros j)) (bits (zeros (length (u ++ zeros j)))) 0
few u j h = record {
  same_length = length-bits (u ++ zeros j) ∙ ap (λ (i : ℕ). 8 * i) (sym (length-replicate (length (u ++ zeros j)) 0)) ∙ sym (length-bits (zeros (length (u ++ zeros j))));
  before = λ i l. absurd (omega arith);
  after = λ i l.
      ap (λ (x : List Bool). get_or x i false) (bits-append u (zeros j))
      ∙ behind (bits u) i (omega (arith, length-bits u))
      ∙ sym
      (ap (λ (x : List Bool). get_or x i false) (ap bits other ∙ bits-append (zeros (length u)) (zeros j))
      ∙ behind (bits (zeros (length u))) i (omega (arith, same))
      ∙ ap (λ (p : ℕ). get_or (bits (zeros j)) (i - p) false) (same ∙ sym (length-bits u)));
}
  where
    other : zeros (length (u ++ zeros j)) ≡ zeros (length u) ++ zeros j
    other = ap zeros (length-append u (zeros j) ∙ ap (λ (i : ℕ). length u + i) (length-replicate j 0)) ∙ sym (replicate-append-replicate (length u) j 0)

    same : length (bits (zeros (length u))) ≡ 8 * length u
    same = length-bits (zeros (length u)) ∙ ap (λ (i : ℕ). 8 * i) (length-replicate (length u) 0)

    behind : (a : List Bool) (i : ℕ) → length a ≤ i → get_or (a ++ bits (zeros j)) i false ≡ get_or (bits (zeros j)) (i - length a) false
    behind a i l =
        let e : i ≡ length a + (i - length a) = omega arith in
        ap (λ (p : ℕ). get_or (a ++ bits (zeros j)) p false) e ∙ get_or-append-add a (bits (zeros j)) (i - length a) false

pub unfit_few : UnfitFew
unfit_few c f u j bs l e =
    unfit_short c f 0 bs (subst (λ (s : List ℕ). Within32 (bits s) (bits (zeros (length s))) 0) (sym e) (few u j l))

pub fits_zeros : FitsZeros
unfolding crc32 run step bits bits_of odd
fits_zeros = refl
