use Rattle.std.proofs.Common.{ℕ, ◌≤◌, ◌<◌}
use Rattle.lab_model.specs.Film.{size_of}
use Rattle.player_core.proofs.judged.Judged.holding_rung.Given as goal

abbrev pub invariant-loop-rung : goal.invariant-loop-rung
invariant-loop-rung l = record {
  rung : l.rung ≤ l.self.running.rung;
  holds : (q : ℕ) → l.rung ≤ q → q < l.self.running.rung → l.left ≤ size_of l.self.film.now l.self.running.segment q;
}

abbrev pub decreases-loop-rung : goal.decreases-loop-rung
decreases-loop-rung l = l.rung
