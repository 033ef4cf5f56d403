-- Staircases: labels along which delays and values rise.
use Rattle.std.specs.Prelude.{◌<◌, ◌<ℤ◌, List}
use Rattle.std.specs.List.{AllPairs}
use Rattle.lab_model.specs.declared.label.Label.{Label}

-- the second has a longer delay and a greater value
abbrev pub IsStep : Label → Label → Type 0
IsStep a b = (a.p < b.p) × (a.v <ℤ b.v)

-- each label is a step above all before it
abbrev pub IsRising : List Label → Type 0
IsRising steps = AllPairs IsStep steps
