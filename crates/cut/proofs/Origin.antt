-- The cut log as a writer leaves it.
-- Assumes nothing.
use mathlib.Core.Path.{◌≡◌, sym, ap, ap₂, ◌∙◌}
use mathlib.Core.List.{List, [], ◌∷◌, ◌++◌, append_assoc}
use Prim.Native.Nat.{ℕ, ◌+◌, ◌*◌, ◌-◌}
use native.Mathlib.Omega.{arith}
use lib.ListN.{length, take, drop, length-append}
use lib.Seq.{take-append-le, drop-drop, drop_at}
use Rattle.slices.specs.Bytes.{zeros}
use Rattle.frame.proofs.Step.{drop-zeros}
use Rattle.recordlog.specs.Laid.{place_all, records_bytes, laid}
use Rattle.recordlog.proofs.Frames.{length-written}
use Rattle.recordlog.proofs.Back.{log_length}
use Rattle.cut.specs.Cut.{cut_at}
use Rattle.cut.specs.Claims.{cut_log, CutOfWriting}
use Rattle.recordlog.proofs.Append.{place-append}

pub cut_of_writing : CutOfWriting
unfolding cut_log cut_at
cut_of_writing n c before xs tail other room low high =
    ap₂ (λ (a b : List ℕ). a ++ b) (take-append-le c (laid n (before ++ (xs ∷ []))) other (omega (arith, size)))
    rest
    ∙ sym (append_assoc (take c (laid n (before ++ (xs ∷ [])))) (zeros (length (laid n (before ++ (xs ∷ []))) - c)) tail)
  where
    p : ℕ
    p = place_all 0 before

    k : ℕ
    k = n * 32768 - place_all 0 before

    c_is : c ≡ p + (c - p)
    c_is = omega arith

    size : length (laid n (before ++ (xs ∷ []))) ≡ n * 32768
    size = unfold place_all in
        omega (
          arith,
          length-append (laid n (before ++ (xs ∷ []))) tail,
          log_length n (before ++ (xs ∷ [])) tail (omega (arith, place-append 0 before (xs ∷ []))),
        )

    log_is : laid n before ++ tail ≡ records_bytes 0 before ++ (zeros k ++ tail)
    log_is = unfold laid in append_assoc (records_bytes 0 before) (zeros k) tail

    rest : drop c (laid n before ++ tail) ≡ zeros (length (laid n (before ++ (xs ∷ []))) - c) ++ tail
    rest =
        ap (drop c) log_is
        ∙ ap (λ (i : ℕ). drop i (records_bytes 0 before ++ (zeros k ++ tail))) c_is
        ∙ sym (drop-drop (c - p) p (records_bytes 0 before ++ (zeros k ++ tail)))
        ∙ ap (drop (c - p)) (drop_at (records_bytes 0 before) (zeros k ++ tail) p (omega (arith, length-written 0 before)))
        ∙ drop-zeros (c - p) k (length (laid n (before ++ (xs ∷ []))) - c) tail (omega (arith, size))
