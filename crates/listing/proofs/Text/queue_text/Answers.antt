-- `listing::Text::queue_text` meets its contract.
-- Assumes nothing.
use Rattle.std.proofs.Common.{ap, ◌∙◌, arith, take}
use lib.Seq.{length-take-le}
use Rattle.listing.specs.Passes.{lines_to}
use Rattle.listing.proofs.Writes.{reads}
use Rattle.listing.proofs.Counting.{lines_first, fit_first, queue_text_on}
use Rattle.listing.proofs.Text.queue_text.Goals as goal

pub record_lines-requires : goal.record_lines-requires
record_lines-requires c = fit_first _ _ _ c.requires.entries

pub returns-clause-puts : goal.returns-clause-puts
returns-clause-puts c =
    let m = c.args.memory in
    let n = c.args.count in
    let l = ap (lines_to c.args.k (take n m.entries.now) m.payloads.now) (length-take-le n m.entries.now c.requires.entries.in_table) in
    let first = l ∙ lines_first m.entries.now n c.args.k m.payloads.now n (omega arith) in
    queue_text_on _ _ _ _ _ _ _ (rw c.held_of-held.ensures at c.row_line-end.ensures.puts) (reads first c.record_lines.ensures.puts)
