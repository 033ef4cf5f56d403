use Rattle.std.proofs.Common.{◌≡◌, map}
use Rattle.lab_model.specs.Ladder.{rungs_below}
use Rattle.labels.specs.Grown.{grown}
use Rattle.labels.specs.Labels.{start_label}
use Rattle.labels.specs.Read.{place_above}
use Rattle.frontier_planner.proofs.names.starts.Given as goal

abbrev pub invariant-loop-rung : goal.invariant-loop-rung
invariant-loop-rung l =
    l.starts.items ≡ map (λ q. place_above (grown l.fn.brief.grid l.brief.scene 0 q) (start_label l.brief.scene q)) (rungs_below l.rung)
