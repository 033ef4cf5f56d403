-- The form of certificates by prices: the counts, and the digits that their text allows.
use Rattle.std.specs.Prelude.{◌≡◌, ℕ, ◌≤◌, length}
use Rattle.std.specs.List.{All}
use Rattle.lab_model.specs.Film.{IsWithin, most_rungs, most_segments}
use Rattle.labels.specs.Form.{HasDigits, HasSignedDigits, rung_digits, score_digits}
use Rattle.price_bounds.specs.declared.window.Window.{Window}
use Rattle.price_bounds.specs.Verdict.{PriceParts}
use Rattle.price_bounds.specs.Windows.{most_windows}

-- the digits of a segment of a window
abbrev pub segment_digits : ℕ
segment_digits = 4

-- the digits of a price
abbrev pub price_digits : ℕ
price_digits = 13

-- the most bytes of a text that a program has to take
abbrev pub most_bytes : ℕ
most_bytes = 67108864

-- a window whose numbers have no more digits than its line allows
pub record IsSpelledWindow (w : Window) : Type 0 where
  pub first : HasDigits segment_digits w.first
  pub last : HasDigits segment_digits w.last
  pub price : HasDigits price_digits w.price

-- what stands before the windows of a certificate that has a text
pub record IsPriceHead (c : PriceParts) : Type 0 where
  pub segments : IsWithin 1 most_segments c.segments
  pub rungs : IsWithin 1 most_rungs c.rungs
  pub score : HasSignedDigits score_digits c.score
  pub bound : HasSignedDigits score_digits c.bound
  pub plan : (length c.plan ≡ c.segments) × All (HasDigits rung_digits) c.plan

-- a certificate that has a text
pub record IsPrices (c : PriceParts) : Type 0 where
  pub head : IsPriceHead c
  pub few : length c.windows ≤ most_windows
  pub windows : All IsSpelledWindow c.windows
