use Rattle.std.proofs.Common.{◌+◌, ◌*◌, ◌<◌, ℕ}
use Rattle.lab_model.specs.Film.{rungs_of}
use Rattle.label_arena.specs.Chains.{StandsIn}
use Rattle.frontier_planner.proofs.read.rung_of.Given as goal

abbrev pub invariant-loop-rung : goal.invariant-loop-rung
invariant-loop-rung l = (q : ℕ) → q < l.rung → StandsIn l.arena (l.segment * rungs_of l.brief.scene.film + q) l.node → ⊥
