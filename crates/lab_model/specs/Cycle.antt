-- The recorded network: the periods of a trace, and their limits.
use Rattle.std.specs.Prelude.{ℕ, ◌*◌, ◌≤◌, List, length}
use Rattle.std.specs.List.{All, sum_by}
use Rattle.lab_model.specs.declared.trace.Period.{Period}
use Rattle.lab_model.specs.Film.{IsWithin}

-- the limits of one period; a bandwidth is in thousandths of a kbps
pub record IsPeriod (p : Period) : Type 0 where
  pub duration : IsWithin 1 10000000 p.duration_ms
  pub bandwidth : p.bandwidth ≤ 10000000000
  pub latency : p.latency ≤ 10000

-- the milliseconds of one cycle, after which the first period comes again
abbrev pub cycle_ms : List Period → ℕ
cycle_ms periods = sum_by (λ p. p.duration_ms) periods

-- what a cycle could carry, in thousandths of a bit
abbrev pub cycle_bits : List Period → ℕ
cycle_bits periods = sum_by (λ p. p.duration_ms * p.bandwidth) periods

-- the limits of a trace: on the mean of a cycle it carries at least one bit a millisecond
pub record IsTrace (ps : List Period) : Type 0 where
  pub count : IsWithin 1 100000 (length ps)
  pub periods : All IsPeriod ps
  pub cycle : cycle_ms ps ≤ 100000000
  pub carries : 1000 * cycle_ms ps ≤ cycle_bits ps
