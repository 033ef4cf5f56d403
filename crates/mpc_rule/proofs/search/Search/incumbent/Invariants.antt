use Rattle.mpc_rule.specs.Search.{IsWholeDraft}
use Rattle.mpc_rule.proofs.search.Search.incumbent.Given as goal

abbrev pub invariant-loop-rung : goal.invariant-loop-rung
invariant-loop-rung l = IsWholeDraft l.self l.incumbent
