use Rattle.mpc_rule.specs.Search.{IsPart}
use Rattle.mpc_rule.proofs.search.Search.constant.Given as goal

abbrev pub invariant-loop-i : goal.invariant-loop-i
invariant-loop-i l = IsPart l.self l.i l.draft
