-- How much of a film is there at instant 0.
use Rattle.std.specs.Prelude.{ℕ, Option, Some, None}
use Rattle.lab_model.specs.Limits.{all_ahead}

-- the milliseconds of media that are there at instant 0: so many of a live film, and all of a film on demand
abbrev pub ahead_of : Option ℕ → ℕ
ahead_of None = all_ahead
ahead_of (Some ms) = ms
