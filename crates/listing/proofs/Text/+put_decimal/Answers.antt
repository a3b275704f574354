use Rattle.listing.proofs.Notation.{decimal_on, decimal_end}
use Rattle.listing.proofs.Text.+put_decimal.Goals as goal
use Rattle.listing.proofs.Text.+put_decimal.Goals.{then-n-ge10, else-n-ge10}

pub returns-clause-puts : goal.returns-clause-puts
returns-clause-puts t c =
    elim c.if-n-ge10.branch [
      | then-n-ge10 w ↦ decimal_on c.args.self.now c.put_byte.new.self _ _ w.if-n-ge10.true w.put_decimal.ensures.puts w.self-is c.digit.ensures c.put_byte.ensures.puts
      | else-n-ge10 w ↦ decimal_end c.args.self.now c.put_byte.new.self _ _ w.if-n-ge10.false w.self-is c.digit.ensures c.put_byte.ensures.puts
    ]
