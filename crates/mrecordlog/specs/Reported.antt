-- Definition (02, Ticket 12).
-- The mean of a report as numbers.
-- Assumes nothing.
use Rattle.std.specs.Prelude.{Some, None, Ok, Err, ℕ}
use Rattle.report.specs.Feed.{refusal_number, MeanAnswer}

-- found 1 where there is a mean
pub record MeanTold : Type 0 where
  pub refusal : ℕ
  pub found : ℕ
  pub whole : ℕ
  pub remainder : ℕ
  pub count : ℕ

abbrev pub mean_told : ℕ → ℕ → ℕ → ℕ → ℕ → MeanTold
mean_told r f w m n = record { refusal = r; found = f; whole = w; remainder = m; count = n }

unfoldable pub tell_mean : MeanAnswer → MeanTold
tell_mean (Ok (Some m)) = mean_told 0 1 m.whole m.remainder m.count
tell_mean (Ok None) = mean_told 0 0 0 0 0
tell_mean (Err e) = mean_told (refusal_number e) 0 0 0 0
