-- The windows of a throughput rule, and what its rings keep of a history.
use Rattle.std.specs.Prelude.{◌≡◌, ℕ, ◌/◌, List, [], ◌∷◌, ◌++◌, length, map, sum}
use Rattle.std.specs.List.{All}
use Rattle.lab_model.specs.Film.{IsWithin}
use Rattle.lab_model.specs.Rates.{last_of}
use Rattle.lab_model.specs.Rules.{RuleKind, throughput}

-- the most windows of a rule
abbrev pub most_rate_windows : ℕ
most_rate_windows = 4

-- the most samples of a window
abbrev pub widest_window : ℕ
widest_window = 100

-- the greatest rate of a sample, in bits per second
abbrev pub most_rate : ℕ
most_rate = 10000000000

-- 1 to 4 windows, each of 1 to 100 samples
pub record AreWindows (windows : List ℕ) : Type 0 where
  pub count : IsWithin 1 most_rate_windows (length windows)
  pub limits : All (IsWithin 1 widest_window) windows

-- a window of so many samples, and the last rates that fit it
pub record RateWindow : Type 0 where
  pub width : ℕ
  pub rates : List ℕ

-- a window without rates
abbrev pub empty_window : ℕ → RateWindow
empty_window width = record { width = width; rates = [] }

-- the window after one rate more
abbrev pub window_after : ℕ → RateWindow → RateWindow
window_after rate k = record { width = k.width; rates = last_of k.width (k.rates ++ rate ∷ []) }

-- the floor mean of its rates, 0 without rates
abbrev pub mean_of : RateWindow → ℕ
mean_of k = sum k.rates / length k.rates

-- the kind of a rule with these windows
abbrev pub throughput_of : List RateWindow → RuleKind
throughput_of ks = throughput (map (λ k. k.width) ks)

-- each window keeps the last rates of the history
abbrev pub HoldLast : List RateWindow → List ℕ → Type 0
HoldLast ks history = All (λ k. k.rates ≡ last_of k.width history) ks
