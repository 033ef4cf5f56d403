-- The horizon score of RobustMPC (SIGCOMM 2015), in this project's fixed point: what a list of rungs promises from a level on.
use Rattle.std.specs.Prelude.{ℕ, ◌+◌, ◌-◌, ◌*◌, List, [], ◌∷◌, ℤ, pos, ◌-ℤ◌, Option, min}
use Rattle.std.specs.Int.{div_ceil}
use Rattle.lab_model.specs.declared.setup.Setup.{Setup}
use Rattle.lab_model.specs.declared.context.Played.{Played}
use Rattle.lab_model.specs.Film.{Film, size_of}
use Rattle.lab_model.specs.Sums.{changes_of, played_from, utilities_of}

-- the milliseconds in which a segment is foretold to come at a rate in bits per second, which is at least 1
abbrev pub foretold_ms : Film → ℕ → Played → ℕ
foretold_ms f rate p = div_ceil (1000 * size_of f p.segment p.rung) rate

-- the level after a segment that came in so many milliseconds
abbrev pub next_level : Film → ℕ → ℕ → ℕ → ℕ
next_level f buffer level came_ms = min (buffer - f.seg_ms) ((level - came_ms) + f.seg_ms)

-- the stalls foretold along segments from a level on, in ms
abbrev pub stalls_along : Film → ℕ → ℕ → ℕ → List Played → ℕ
stalls_along f buffer rate level [] = 0
stalls_along f buffer rate level (p ∷ ps) =
    (foretold_ms f rate p - level) + stalls_along f buffer rate (next_level f buffer level (foretold_ms f rate p)) ps

-- what segments that are played in turn promise from a level on, after the rung before, where there is one, in thousandths of a point
abbrev pub ahead_score : Film → Setup → ℕ → ℕ → Option ℕ → List Played → ℤ
ahead_score f s rate level before ps =
    pos (1000 * utilities_of s.weights ps) -ℤ pos (s.weights.switch * changes_of s.weights before ps + s.weights.stall * stalls_along f s.buffer_ms rate level ps)

-- the horizon score of a list of rungs, played from a segment on
abbrev pub horizon_score : Film → Setup → ℕ → ℕ → ℕ → Option ℕ → List ℕ → ℤ
horizon_score f s rate segment level before rungs = ahead_score f s rate level before (played_from segment rungs)
