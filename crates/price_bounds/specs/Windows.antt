-- Windows: prices of the network's bits, each for some segments in turn.
use Rattle.std.specs.Prelude.{ℕ, ◌≤◌, ◌<◌, ◌&&◌, Bool, List, length, nat_le, ◌==◌, if◌then◌else◌}
use Rattle.std.specs.List.{All, sum_by}
use Rattle.lab_model.specs.Film.{IsWithin}
use Rattle.price_bounds.specs.declared.window.Window.{Window}

-- so many thousandths of a bit cost a price in thousandths of a point
abbrev pub price_unit : ℕ
price_unit = 1000000000

-- the greatest price
abbrev pub most_price : ℕ
most_price = 1000000000000

-- segments of a film of so many, in turn and not the first, and a price within the limits
pub record IsWindow (segments : ℕ) (w : Window) : Type 0 where
  pub begins : 1 ≤ w.first
  pub order : w.first ≤ w.last
  pub inside : w.last < segments
  pub price : IsWithin 1 most_price w.price

-- the most windows of a bound that is reckoned
abbrev pub most_windows : ℕ
most_windows = 4000

-- windows within the limits
abbrev pub AreWindows : ℕ → List Window → Type 0
AreWindows segments ws = All (IsWindow segments) ws

-- the window has the segment
abbrev pub has_segment : Window → ℕ → Bool
has_segment w segment = nat_le w.first segment && nat_le segment w.last

-- the price of a segment: the sum over the windows that have it
abbrev pub price_of : List Window → ℕ → ℕ
price_of ws segment = sum_by (λ w. if has_segment w segment then w.price else 0) ws

-- the prices of the windows that end with a segment
abbrev pub price_ending : List Window → ℕ → ℕ
price_ending ws segment = sum_by (λ w. if w.last == segment then w.price else 0) ws

-- the prices of the windows that begin with a segment
abbrev pub price_beginning : List Window → ℕ → ℕ
price_beginning ws segment = sum_by (λ w. if w.first == segment then w.price else 0) ws

-- so many windows, and prices so small, that all sums fit
pub record AreCheap (ws : List Window) : Type 0 where
  pub few : length ws ≤ most_windows
  pub prices : All (λ w. w.price ≤ most_price) ws

-- windows of which a bound is reckoned: within the limits, and not too many
pub record CanBound (segments : ℕ) (ws : List Window) : Type 0 where
  pub windows : AreWindows segments ws
  pub few : length ws ≤ most_windows
