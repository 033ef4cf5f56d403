use Rattle.std.proofs.Common.{◌≡◌, ℕ, length}
use Rattle.player_core.specs.Scene.{Task}
use Rattle.completion_bounds.specs.Grid.{kinds_of}
use Rattle.completion_bounds.specs.Table.{AreGainsTo, AreWays, IsGainLayer}
use Rattle.completion_bounds.proofs.layers.take_gains.Given as goal

abbrev pub invariant-loop-rung : goal.invariant-loop-rung
invariant-loop-rung l = record {
  count : length l.gains ≡ length l.initial.gains;
  gains : (g : Task) (left segment steps : ℕ) → l.kinds ≡ kinds_of g → AreWays g l.grid segment steps l.ways → IsGainLayer g l.grid left l.behind
      → AreGainsTo g l.grid left segment steps l.row l.rung l.gains;
}
