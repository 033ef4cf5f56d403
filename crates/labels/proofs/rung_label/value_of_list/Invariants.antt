use Rattle.std.proofs.Common.{◌≡◌}
use Rattle.labels.specs.Labels.{label_at}
use Rattle.labels.proofs.rung_label.value_of_list.Given as goal

abbrev pub invariant-loop-segment : goal.invariant-loop-segment
invariant-loop-segment l = l.label ≡ label_at l.scene l.rungs l.segment
