-- A read into the rest of a buffer, after what was read into its start.
use Rattle.std.proofs.Common.{◌≡◌, ℕ, ◌+◌, ◌≤◌, List, ◌++◌, arith, length, take, sym, ap, ◌∙◌, subst, length-take-le, take-add, take-take, take_at, drop_at}
use Rattle.std.specs.declared.option.Option.{Option}
use Rattle.std.specs.Io.KnownBytes.{Consumes}
use Rattle.std.proofs.KnownBytes.{Consumes-trans}
use Rattle.std.proofs.lemmas.Slice.{take-put_mid}
use borrow.Rule.Slice.PartMut.{put_mid}

-- The first bytes of the buffer, of which n came into its rest.
joined : (i k n : ℕ) (card rest : List ℕ) → i ≤ length card → length rest ≡ k → n ≤ k → take i card ++ take n rest ≡ take (i + n) (put_mid i k card rest)
joined i k n card rest within long few =
    let front = length-take-le i card within in
    sym (sym (take-take (i + n) (i + k) (put_mid i k card rest) (omega arith)) ∙ ap (take (i + n)) (take-put_mid i k card rest (i + k) (omega arith) within)
    ∙ take-add i n (take i card ++ rest) ∙ (λ j. take_at (take i card) rest i front j ++ take n (drop_at (take i card) rest i front j)))

-- What both reads consumed stands at the start of the buffer.
pub read_more : (a b c : Option (List ℕ)) (i k n : ℕ) (card rest : List ℕ) → i ≤ length card → length rest ≡ k → n ≤ k → Consumes a b (take i card)
    → Consumes b c (take n rest) → Consumes a c (take (i + n) (put_mid i k card rest))
read_more a b c i k n card rest within long few first second = subst (Consumes a c) (joined i k n card rest within long few) (Consumes-trans a b c _ _ first second)
