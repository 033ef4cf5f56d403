use Rattle.std.proofs.Common.{◌≡◌, ◌++◌, drop, map, take}
use Rattle.throughput_rule.specs.Windows.{window_after}
use Rattle.throughput_rule.proofs.rule.tell.Given as goal

abbrev pub invariant-loop-window : goal.invariant-loop-window
invariant-loop-window l = l.window-items ≡ map (window_after l.s.rate) (take l.window-index l.fn.windows.items) ++ drop l.window-index l.fn.windows.items
