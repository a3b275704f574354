-- `report::mean` meets its contract.
-- Assumes nothing.
use mathlib.Core.Path.{sym, ap, ◌∙◌}
use mathlib.Core.List.{List}
use Prim.Native.Nat.{ℕ}
use lib.ListN.{get_or}
use Rattle.report.specs.Feed.{sound_frames, mean_of}
use Rattle.report.proofs.Left.{mean_refused, mean_given}
use Rattle.report.proofs.Refusing.{arranged_some, arranged_none}
use Rattle.report.proofs.mean.Goals as goal

pub mean_in-requires : goal.mean_in-requires
mean_in-requires c = (arranged_some _ _ (sym c.arranged_numbers.ensures ∙ c.in-Some.is)).arranged

pub returns-in-Some : goal.returns-in-Some
returns-in-Some c =
    let a = arranged_some c.args.report.now c.in-Some.numbers (sym c.arranged_numbers.ensures ∙ c.in-Some.is) in
    mean_given _ _ a.whole (c.mean_in.ensures ∙ ap (λ (l : List ℕ). mean_of (sound_frames l) (get_or l 11 0)) a.numbers)

pub returns-in-None : goal.returns-in-None
returns-in-None c = mean_refused _ (arranged_none _ (sym c.arranged_numbers.ensures ∙ c.in-None.is))
