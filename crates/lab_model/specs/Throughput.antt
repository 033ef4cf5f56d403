-- The throughput rule: what it chooses by the means of the last samples.
use Rattle.std.specs.Prelude.{ℕ, ◌*◌, ◌/◌, List, [], ◌∷◌, length, map, min, nat_le, sum, unwrap_or}
use Rattle.std.specs.List.{reduce}
use Rattle.lab_model.specs.Film.{Film, rungs_of, bitrate_of}
use Rattle.lab_model.specs.Ladder.{greatest_rung}
use Rattle.lab_model.specs.Rates.{last_of}

-- the floor mean of the samples in a window, 0 without samples
abbrev pub window_mean : List ℕ → ℕ → ℕ
window_mean history w = sum (last_of w history) / length (last_of w history)

-- the least of numbers, 0 where there is none
abbrev pub least : List ℕ → ℕ
least xs = unwrap_or (reduce min xs) 0

-- the least of the means of the windows
abbrev pub least_mean : List ℕ → List ℕ → ℕ
least_mean windows history = least (map (window_mean history) windows)

-- the greatest bitrate within nine tenths of a rate in bits per second, rounded down
abbrev pub rung_within : Film → ℕ → ℕ
rung_within f rate = greatest_rung (λ q. nat_le (1000 * bitrate_of f q) (9 * rate / 10)) (rungs_of f)

-- throughput: the greatest bitrate within nine tenths of the least mean of its windows, 0 without samples
abbrev pub throughput_choice : List ℕ → Film → List ℕ → ℕ
throughput_choice windows f [] = 0
throughput_choice windows f (c ∷ cs) = rung_within f (least_mean windows (c ∷ cs))
