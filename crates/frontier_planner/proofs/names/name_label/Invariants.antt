use Rattle.std.proofs.Common.{◌≡◌, ◌++◌, suc, map}
use Rattle.lab_model.specs.Ladder.{rungs_below}
use Rattle.labels.specs.Grown.{grown}
use Rattle.labels.specs.Labels.{next_label}
use Rattle.labels.specs.Read.{place_above}
use Rattle.frontier_planner.proofs.names.name_label.Given as goal

abbrev pub invariant-loop-rung : goal.invariant-loop-rung
invariant-loop-rung l =
    l.names.items ≡ l.initial.names.items
    ++ map (λ r. place_above (grown l.brief.grid l.brief.scene (suc l.segment) r) (next_label l.brief.scene (suc l.segment) l.reached.0 l.reached.1 r)) (rungs_below l.rung)
