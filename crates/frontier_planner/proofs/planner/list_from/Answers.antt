use Rattle.std.proofs.Common.{◌≡◌, subst}
use Rattle.labels.specs.Grown.{CanPlan, grown}
use Rattle.frontier_planner.specs.Planned.{ListAnswer}
use Rattle.frontier_planner.specs.Planning.{IsPlanning, Planning}
use Rattle.frontier_planner.proofs.Planned.{exact_list, list_bound}
use Rattle.frontier_planner.proofs.planner.list_from.Goals as goal
use Rattle.frontier_planner.proofs.planner.list_from.Goals.{After-list_of}

-- what is planned is what is given
planning_is : (c : After-list_of) → c.new.result ≡ record { scene = c.args.scene.now; grid = c.args.grid }
planning_is c = c.new.ensures.value

-- a plan can be made of it
can_plan : (c : After-list_of) → CanPlan c.args.grid c.args.scene.now
can_plan c = subst IsPlanning (planning_is c) c.new.ensures.can

pub returns-clause-coarse : goal.returns-clause-coarse
returns-clause-coarse c =
    subst (λ (p : Planning). ListAnswer p.grid p.scene (grown p.grid p.scene) c.args.budget c.list_of.result) (planning_is c) c.list_of.ensures

pub returns-clause-exact : goal.returns-clause-exact
returns-clause-exact c = exact_list c.args.grid c.args.scene.now (can_plan c) c.args.budget c.list_of.result (returns-clause-coarse c)

pub returns-clause-bound : goal.returns-clause-bound
returns-clause-bound c = list_bound c.args.grid c.args.scene.now (can_plan c) c.args.budget c.list_of.result (returns-clause-coarse c)
