use Rattle.std.proofs.Common.{◌≡◌, ◌++◌, map, take}
use Rattle.demo_case.specs.Case.{size_drawn}
use Rattle.demo_case.proofs.case.add_sizes.Given as goal

abbrev pub invariant-loop-bitrate : goal.invariant-loop-bitrate
invariant-loop-bitrate l = l.sizes.items ≡ l.fn.sizes.items ++ map (size_drawn l.drawn) (take l.bitrate-index l.bitrate-items)
