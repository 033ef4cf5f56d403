-- The score of a session (after Yin, Jindal, Sekar and Sinopoli, SIGCOMM 2015), in thousandths of a point.
use Rattle.std.specs.Prelude.{ℕ, ◌+◌, ◌*◌, ◌≤◌, List, length, ℤ, pos, ◌-ℤ◌, None}
use Rattle.std.specs.List.{All}
use Rattle.lab_model.specs.declared.context.Played.{Played}
use Rattle.lab_model.specs.Weighing.{HasUtility, Weighing}
use Rattle.lab_model.specs.Sums.{changes_of, utilities_of}

-- the most milliseconds of stall, and of startup
abbrev pub most_ms : ℕ
most_ms = 1000000000000000

-- the most segments that are scored
abbrev pub most_scored : ℕ
most_scored = 40000

-- the score of played segments, with the milliseconds of stall and of startup
abbrev pub score_of : Weighing → List Played → ℕ → ℕ → ℤ
score_of w ps stall_ms startup_ms =
    pos (1000 * utilities_of w ps) -ℤ pos (w.switch * changes_of w None ps + w.stall * stall_ms + w.startup * startup_ms)

-- the segments can be scored: each has a utility, and there are not too many
pub record CanScore (w : Weighing) (ps : List Played) : Type 0 where
  pub utilities : All (λ p. HasUtility w p.segment p.rung) ps
  pub count : length ps ≤ most_scored
