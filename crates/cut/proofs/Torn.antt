-- The bytes that stand for a frame that does not count as stored: its header whole, zeros, or a part of its header.
-- Assumes nothing.
use mathlib.Core.Path.{◌≡◌, refl, sym, ap, ◌∙◌}
use mathlib.Core.Bool.{true, false, false≢true}
use mathlib.Core.List.{List, ◌∷◌, ◌++◌, append_assoc}
use Prim.Native.Nat.{ℕ, ◌+◌, ◌-◌, ◌≤◌, ◌<◌}
use native.Mathlib.Omega.{arith}
use lib.ListN.{length, take, get_or}
use lib.Seq.{take-append-le}
use Rattle.slices.specs.Bytes.{zeros}
use Rattle.fields.specs.Le.{le_bytes}
use Rattle.crc32.specs.Crc.{crc32}
use Rattle.frame.specs.Frame.{type_number, header_bytes, header_for, frame_bytes, all_zero}
use Rattle.frame.proofs.Tests.{and_left}
use Rattle.frame.proofs.Headers.{header, length_frame}
use Rattle.frame.proofs.Put.{length_header}
use Rattle.recordlog.specs.Write.{Frame}
use Rattle.cut.specs.Cut.{cut_at}
use Rattle.cut.proofs.Lists.{cut_none, cut_all, cut_append, cut_absent, cut_behind, length_cut, zero-append}
use Rattle.cut.proofs.Shape.{remains}

module _ (c : ℕ) (f : Frame) where
  -- the header, and its cut
  abbrev pub head : List ℕ
  head = header_bytes (header_for f.kind f.content)

  abbrev pub part : List ℕ
  part = cut_at (c - f.start) head

  -- the data, and their cut
  abbrev pub cut_data : List ℕ
  cut_data = cut_at (c - (f.start + 7)) f.content

  abbrev pub sum_bytes : List ℕ
  sum_bytes = le_bytes 4 (crc32 (type_number f.kind ∷ f.content))

  both : remains c f ≡ part ++ cut_data
  unfolding frame_bytes
  both =
      let q : c - f.start - length head ≡ c - (f.start + 7) = omega (arith, length_header (header_for f.kind f.content)) in
      cut_append (c - f.start) head f.content ∙ ap (λ (m : ℕ). part ++ cut_at m f.content) q

  pub headed_bytes : (rest : List ℕ) → f.start + 7 ≤ c → remains c f ++ rest ≡ header sum_bytes (length cut_data) (type_number f.kind) (cut_data ++ rest)
  headed_bytes rest h =
      ap (λ (s : List ℕ). s ++ rest) (both ∙ ap (λ (s : List ℕ). s ++ cut_data) (cut_all (c - f.start) head (omega (arith, length_header (header_for f.kind f.content)))))
      ∙ append_assoc head cut_data rest
      ∙ regroup
      ∙ ap (λ (m : ℕ). header sum_bytes m (type_number f.kind) (cut_data ++ rest)) (sym (length_cut (c - (f.start + 7)) f.content))
    where
      regroup : head ++ (cut_data ++ rest) ≡ header sum_bytes (length f.content) (type_number f.kind) (cut_data ++ rest)
      regroup = unfold header_bytes le_bytes in refl

  pub nothing_bytes : all_zero (take (c - f.start) (frame_bytes f.kind f.content)) ≡ true → remains c f ≡ zeros (7 + length f.content)
  nothing_bytes z = cut_absent (c - f.start) (frame_bytes f.kind f.content) z ∙ ap zeros (length_frame f.kind f.content)

  pub torn_bytes : c < f.start + 7 → remains c f ≡ part ++ zeros (length f.content)
  torn_bytes h =
      let q : c - (f.start + 7) ≡ 0 = omega arith in
      both ∙ ap (λ (s : List ℕ). part ++ s) (ap (λ (m : ℕ). cut_at m f.content) q ∙ cut_none f.content)

  pub part_length : length part ≡ 7
  part_length = length_cut (c - f.start) head ∙ length_header (header_for f.kind f.content)

  -- it has no type byte
  pub part_type : c < f.start + 7 → get_or part 6 0 ≡ 0
  part_type h = cut_behind (c - f.start) 6 head (omega arith)

  pub part_some : c < f.start + 7 → all_zero (take (c - f.start) (frame_bytes f.kind f.content)) ≡ false → all_zero part ≡ true → ⊥
  unfolding frame_bytes cut_at
  part_some h n z =
      false≢true
      (sym n
      ∙ ap all_zero (take-append-le (c - f.start) head f.content (omega (arith, length_header (header_for f.kind f.content))))
      ∙ and_left (all_zero (take (c - f.start) head)) (all_zero (zeros (length head - (c - f.start))))
      (sym (zero-append (take (c - f.start) head) (zeros (length head - (c - f.start)))) ∙ z))
