-- A trace that several takers share.
use Rattle.std.specs.Prelude.{◌≡◌, ℕ, ◌+◌, ◌<◌, List, length, get_or}
use Rattle.lab_model.specs.declared.trace.Period.{Period}
use Rattle.network_clock.specs.Flow.{parted_trace}

-- a trace, and the most takers that share it
pub record Shared : Type 0 where
  pub periods : List Period
  pub most : ℕ

-- a trace with so many takers
abbrev pub shared : List Period → ℕ → Shared
shared periods most = record { periods = periods; most = most }

-- the lanes of two takers, of three, and so on, so many
pub record AreLanes (ps : List Period) (n : ℕ) (lanes : List (List Period)) : Type 0 where
  pub count : length lanes ≡ n
  pub each : (k : ℕ) (d : List Period) → k < n → get_or lanes k d ≡ parted_trace (k + 2) ps
