use Rattle.std.proofs.Common.{subst, sym}
use Rattle.mpc_rule.specs.Search.{IsWholeDraft}
use Rattle.mpc_rule.proofs.search.Search.incumbent.Goals as goal
use Rattle.mpc_rule.proofs.search.Search.incumbent.Goals.{then-incumbent-list, else-incumbent-list}

pub loop-rung-preserved : goal.loop-rung-preserved
loop-rung-preserved c = elim c.if-incumbent-list.branch [
  | then-incumbent-list w ↦ subst (IsWholeDraft c.args.self.now) (sym w.incumbent-is) c.constant-list.ensures
  | else-incumbent-list w ↦ subst (IsWholeDraft c.args.self.now) (sym w.incumbent-is) c.loop-rung.invariant
]
