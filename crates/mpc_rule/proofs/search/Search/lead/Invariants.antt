use Rattle.std.proofs.Common.{◌<◌}
use Rattle.mpc_rule.specs.Lookahead.{ladder_of}
use Rattle.mpc_rule.proofs.search.Search.lead.Given as goal

abbrev pub invariant-loop-rung : goal.invariant-loop-rung
invariant-loop-rung l = l.lead < ladder_of l.self
