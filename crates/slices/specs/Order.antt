-- Definition (01, "Readout").
-- Byte order of two runs of bytes: the first byte that differs decides; where one run ends first, it is the lower one.
-- Assumes nothing.
use Rattle.std.specs.Prelude.{Bool, true, false, List, [], ◌∷◌, ℕ, ltb}
use Rattle.std.specs.declared.cmp.Ordering.{Ordering}
use Rattle.std.specs.declared.cmp.Ordering.TheVariants.{Less, Equal, Greater}

-- is the first byte less, is it greater, and how the rest compares
unfoldable pub order_by : Bool → Bool → Ordering → Ordering
order_by true _ o = Less
order_by false true o = Greater
order_by false false o = o

unfoldable pub order : List ℕ → List ℕ → Ordering
order [] [] = Equal
order [] (y ∷ ys) = Less
order (x ∷ xs) [] = Greater
order (x ∷ xs) (y ∷ ys) = order_by (ltb x y) (ltb y x) (order xs ys)
