-- From when on a segment may be asked for.
use Rattle.std.specs.Prelude.{ℕ, ◌+◌, ◌-◌, ◌*◌}
use Rattle.lab_model.specs.Film.{Film}

-- the instant from which a segment may be asked for, where so much media is there at instant 0
abbrev pub available_at : Film → ℕ → ℕ → ℕ
available_at f ahead segment = (segment + 1) * f.seg_ms - ahead
