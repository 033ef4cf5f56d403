use Rattle.mpc_rule.specs.Search.{IsPart}
use Rattle.mpc_rule.proofs.search.Search.leading_list.Given as goal

abbrev pub invariant-loop-count : goal.invariant-loop-count
invariant-loop-count l = IsPart l.self l.count l.draft
