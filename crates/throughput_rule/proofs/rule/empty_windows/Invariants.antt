use Rattle.std.proofs.Common.{◌≡◌, map, take}
use Rattle.throughput_rule.specs.Windows.{empty_window}
use Rattle.throughput_rule.proofs.rule.empty_windows.Given as goal

abbrev pub invariant-loop-width : goal.invariant-loop-width
invariant-loop-width l = l.windows.items ≡ map empty_window (take l.width-index l.widths)
