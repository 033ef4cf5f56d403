use Rattle.std.proofs.Common.{ℕ, ◌+◌, ◌<◌}
use Rattle.lab_model.specs.Seeks.{seek_no}
use Rattle.player_core.proofs.player.rises.Given as goal

abbrev pub invariant-loop-i : goal.invariant-loop-i
invariant-loop-i l = (k : ℕ) → k + 1 < l.i → (seek_no l.seeks k).at_ms < (seek_no l.seeks (k + 1)).at_ms
