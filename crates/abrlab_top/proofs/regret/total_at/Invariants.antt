use Rattle.std.proofs.Common.{map, take}
use Rattle.session_report.specs.Regret.{IsTotalOf}
use Rattle.abrlab_top.specs.Regret.{scores_at}
use Rattle.abrlab_top.proofs.regret.total_at.Given as goal

-- the total of the networks so far
abbrev pub invariant-loop-scored : goal.invariant-loop-scored
invariant-loop-scored l = IsTotalOf (map (scores_at l.fn.rule) (take l.scored-index l.fn.table)) l.total
