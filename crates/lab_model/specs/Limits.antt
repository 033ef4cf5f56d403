-- The limits of what players and planners are asked for.
use Rattle.std.specs.Prelude.{ℕ}

-- the longest film, in ms
abbrev pub longest_film : ℕ
longest_film = 120000000

-- so much media ahead, in ms, that every film within the limits is there at instant 0
abbrev pub all_ahead : ℕ
all_ahead = longest_film

-- the largest buffer, in ms
abbrev pub most_buffer : ℕ
most_buffer = 10000000

-- the most labels that a budget allows
abbrev pub most_budget : ℕ
most_budget = 1000000

-- the most seeks of a script
abbrev pub most_seeks : ℕ
most_seeks = 16

-- the latest instant of a seek, in ms
abbrev pub latest_seek : ℕ
latest_seek = 1000000000
