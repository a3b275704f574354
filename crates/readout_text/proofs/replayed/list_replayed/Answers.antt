-- `readout_text::replayed::list_replayed` meets its contract: what replay leaves is what the listing asks, and the marks and the listing behind them are the text.
-- Assumes nothing.
use Rattle.std.proofs.Common.{◌≡◌, true, List, Option, ℕ, length, sym, subst, rules}
use Rattle.queues.specs.Layout.{Memory, arranged, meaning}
use Rattle.lent.specs.Memory.{memory_of}
use Rattle.listing.specs.Claims.{LogFits}
use Rattle.listing.specs.Internal.{ListsFrom}
use Rattle.listing.specs.Listing.{listing}
use Rattle.readout_text.specs.Kept.{CardKept}
use Rattle.readout_text.proofs.Between.{may, refused_kept, replayed_kept, looked_at}
use Rattle.readout_text.proofs.replayed.list_replayed.Goals as goal

-- the buffer as it is left
left_in : {input scratch : List ℕ} {m : Memory} {ks out : List ℕ} {r : Option ℕ} {scratch' : List ℕ} {m' : Memory} {ks' : List ℕ} (u v : List ℕ) → u ≡ v
    → CardKept input scratch m ks out r scratch' m' ks' v → CardKept input scratch m ks out r scratch' m' ks' u
left_in {input} {scratch} {m} {ks} {out} {r} {scratch'} {m'} {ks'} u v e k = subst (λ (x : List ℕ). CardKept input scratch m ks out r scratch' m' ks' x) (sym e) k

-- the listing of the memory looked at
lists_of : (s t : List ℕ) (p b q n : ℕ) {x y : Memory} (r : Option ℕ) → x ≡ y → ListsFrom s p (listing (meaning x) b q n) r t → ListsFrom s p (listing (meaning y) b q n) r t
lists_of s t p b q n r e l = subst (λ (z : Memory). ListsFrom s p (listing (meaning z) b q n) r t) e l

pub list-requires : goal.list-requires
list-requires c =
    let h = c.held-held.ensures in
    subst (λ (x : Memory). (arranged x ≡ true) × LogFits c.in-Ok.replayed.resumed (length c.args.input.now)) (sym (looked_at h.names h.payloads h.entries h.table))
    (may c.args.input.now c.args.scratch.now (memory_of c.args.memory.now) c.args.memory.now.largest.now c.args.out.now c.requires.0 c.requires.1 _ _ _ _ c.replay.ensures.replayed _ c.in-Ok.is)

pub returns-in-Ok-clause-kept : goal.returns-in-Ok-clause-kept
returns-in-Ok-clause-kept c =
    let h = c.held-held.ensures in
    left_in _ _ (search rules)
    (replayed_kept c.args.input.now c.args.scratch.now (memory_of c.args.memory.now) c.args.memory.now.largest.now c.args.out.now c.requires.0 c.requires.1 _ _ _ _ c.replay.ensures.replayed _ _ _ _ c.in-Ok.is
    c.put_shifts.ensures.puts c.put_shifts.ensures.scratch_left (lists_of c.put_shifts.new.text.out.now _ c.put_shifts.new.text.at c.in-Ok.replayed.lost_bytes c.in-Ok.replayed.resumed (length c.args.input.now) c.list.result (looked_at h.names h.payloads h.entries h.table) c.list.ensures.lists))

pub returns-in-Err-clause-kept : goal.returns-in-Err-clause-kept
returns-in-Err-clause-kept c =
    refused_kept c.args.input.now c.args.scratch.now (memory_of c.args.memory.now) c.args.memory.now.largest.now c.args.out.now c.requires.0 c.requires.1 _ _ _ _ c.replay.ensures.replayed _ _ _ _ c.in-Err.is
    c.number.ensures c.refused.ensures
