-- The sums along played segments: the utilities, and how far they change from rung to rung.
use Rattle.std.specs.Prelude.{ℕ, ◌+◌, List, [], ◌∷◌, Option, Some}
use Rattle.lab_model.specs.declared.context.Played.{Played}
use Rattle.lab_model.specs.Weighing.{Weighing, change_of, utility_of}

-- the utilities of played segments, summed
abbrev pub utilities_of : Weighing → List Played → ℕ
utilities_of w [] = 0
utilities_of w (p ∷ ps) = utility_of w p.segment p.rung + utilities_of w ps

-- the changes along played segments, summed, after the rung before, where there is one
abbrev pub changes_of : Weighing → Option ℕ → List Played → ℕ
changes_of w before [] = 0
changes_of w before (p ∷ ps) = change_of w p.segment before p.rung + changes_of w (Some p.rung) ps

-- the rung of the last segment, or the one before them all
abbrev pub last_rung : Option ℕ → List Played → Option ℕ
last_rung before [] = before
last_rung before (p ∷ ps) = last_rung (Some p.rung) ps

-- a list of rungs, played from a segment on
abbrev pub played_from : ℕ → List ℕ → List Played
played_from segment [] = []
played_from segment (r ∷ rs) = (record { segment = segment; rung = r }) ∷ played_from (segment + 1) rs
