-- `listing::rows::refused` meets its contract.
-- Assumes nothing.
use Rattle.std.proofs.Common.{rules, ◌∙◌}
use Rattle.listing.proofs.Steps.{refused_on}
use Rattle.listing.proofs.rows.refused.Goals as goal

pub returns : goal.returns
returns c =
    let w = refused_on c.args.number c.listed.result c.put_number_line.ensures.puts c.listed.ensures in
    (w.0, search rules ∙ w.1)
