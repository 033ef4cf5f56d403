-- Rounding on a grid, by which a frontier becomes smaller and its labels better.
use Rattle.std.specs.Prelude.{ℕ, suc, ◌*◌, ◌/◌, ℤ, pos, negsuc, neg_ℤ}
use Rattle.std.specs.Int.{div_ceil}
use Rattle.lab_model.specs.declared.label.Label.{Label}
use Rattle.lab_model.specs.Film.{IsWithin}

-- the steps of a grid: of times, in ms, and of values, in thousandths of a point
pub record Rounding : Type 0 where
  pub time : ℕ
  pub value : ℕ

-- the limits of a grid
pub record IsGrid (d : Rounding) : Type 0 where
  pub time : IsWithin 1 10000 d.time
  pub value : IsWithin 1 1000000 d.value

-- the grid on which nothing changes
abbrev pub exact : Rounding
exact = record { time = 1; value = 1 }

-- the greatest multiple that isn't above
abbrev pub multiple_below : ℕ → ℕ → ℕ
multiple_below step n = n / step * step

-- the least multiple that isn't below
abbrev pub multiple_above : ℕ → ℤ → ℤ
multiple_above step (pos n) = pos (div_ceil n step * step)
multiple_above step (negsuc n) = neg_ℤ (pos (multiple_below step (suc n)))

-- the label on the grid: its times down to multiples, its value up to one
abbrev pub rounded : Rounding → Label → Label
rounded d l = record { t = multiple_below d.time l.t; p = multiple_below d.time l.p; v = multiple_above d.value l.v }
