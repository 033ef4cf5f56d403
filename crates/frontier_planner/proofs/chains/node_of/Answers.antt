use Rattle.std.proofs.Common.{sym}
use Rattle.frontier_planner.proofs.Adding.{node_past, node_there}
use Rattle.frontier_planner.proofs.chains.node_of.Goals as goal

pub returns-then-place-labels : goal.returns-then-place-labels
returns-then-place-labels c = sym (node_there c.args.labels.now c.args.place c.if-place-labels.true)

pub returns : goal.returns
returns c = sym (node_past c.args.labels.now c.args.place c.if-place-labels.false)
