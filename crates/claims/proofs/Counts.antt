-- What the answer of a call counts, over lent memory.
-- Assumes nothing.
use mathlib.Core.Path.{◌≡◌, sym, ap, subst, ◌∙◌}
use Prim.Native.Nat.{◌+◌, ◌<◌}
use native.Mathlib.Omega.{arith}
use Rattle.frame.specs.Block.{padding}
use Rattle.calls.specs.State.{CallAnswer, bytes_written}
use Rattle.calls.specs.Claims.{CallCounts}
use Rattle.calls.proofs.Counts.{counts-sum}
use Rattle.contracts.specs.Promises.{state_of}
use Rattle.claims.specs.Claims.{CallKeepsCounts}
use Rattle.claims.proofs.Six.{refusal-answered}

pub call_keeps-counts : CallKeepsCounts
unfolding state_of
call_keeps-counts l l' k a w =
    let c : CallCounts (state_of l) k = counts-sum (state_of l) k in
    record {
      moved = w.place_left ∙ c.moves ∙ ap (λ (x : CallAnswer). l.place + bytes_written x) (sym w.answer);
      padded =
          subst (λ (x : CallAnswer). 0 < x.frame_bytes → x.padding_bytes ≡ padding l.place) (sym w.answer) c.padded;
      refused_none =
          subst (λ (x : CallAnswer). 0 < x.refusal → (x.frame_bytes ≡ 0) × (x.padding_bytes ≡ 0)) (sym w.answer)
          (λ h. c.refused_none (omega (arith, h, refusal-answered (state_of l) k)));
    }
