-- What the planner answers: a list with its bound, or a plan with all that makes it the best, or the segment at which the budget is spent.
use Rattle.std.specs.Prelude.{◌≡◌, ℕ, ◌≤◌, ℤ, Result, Ok, Err}
use Rattle.frontier_planner.specs.declared.plans.BoundedList.{BoundedList}
use Rattle.frontier_planner.specs.declared.plans.CoarsePlan.{CoarsePlan}
use Rattle.labels.specs.declared.plans.Plan.{Plan}
use Rattle.frontier_planner.specs.declared.plans.PlanErr.{PlanErr}
use Rattle.frontier_planner.specs.declared.plans.PlanErr.TheVariants as fault
use Rattle.player_core.specs.Scene.{Task}
use Rattle.labels.specs.Frontier.{frontier}
use Rattle.labels.specs.Grid.{Rounding, exact}
use Rattle.labels.specs.Grown.{grown}
use Rattle.labels.specs.Parts.{plan_parts}
use Rattle.labels.specs.Form.{HasSignedDigits, IsCertificate, score_digits}
use Rattle.labels.specs.Read.{Chains, SpentAt, bound_of, certificate_from, end_of_plan, labels_in, list_of_plan, list_value}
use Rattle.frontier_planner.specs.Linked.{HoldsAll}
use Rattle.frontier_planner.specs.declared.planner.Ending.{Ending}
use Rattle.frontier_planner.specs.declared.planner.Outline.{Outline}
use Rattle.labels.specs.Valid.{IsValid}
use Rattle.labels.specs.Best.{Settles}

-- the list that is read off these chains of a task on a grid, within a budget, with its score and a bound for all rung lists
pub record IsListOf (d : Rounding) (g : Task) (chains : Chains) (budget : ℕ) (b : BoundedList) : Type 0 where
  -- it is read backwards off the chains, and the score is what its labels end at
  pub rungs : b.rungs.items ≡ list_of_plan d g chains
  pub score : b.score ≡ list_value g (list_of_plan d g chains)
  -- the chains have so many labels, and no more than the budget
  pub labels : b.labels ≡ labels_in g chains
  pub within : b.labels ≤ budget
  -- the bound is the greatest end value
  pub bound : b.bound ≡ bound_of g chains
  -- the list's value is the score, and no list's value is above the bound
  pub settles : Settles g b.rungs.items b.score b.bound

-- what is answered of a list: the one that is read off these chains, or the segment at whose end they spend the budget
abbrev pub ListAnswer : Rounding → Task → Chains → ℕ → Result BoundedList PlanErr → Type 0
ListAnswer d g chains budget (Ok b) = IsListOf d g chains budget b
ListAnswer d g chains budget (Err (fault.BudgetSpent segment)) = SpentAt g chains budget segment
ListAnswer d g chains budget (Err fault.Memory) = Unit {0}

-- the list of a plan, with a bound
abbrev pub list_in : Plan → ℤ → BoundedList
list_in p most = record { rungs = p.rungs; score = p.score; bound = most; labels = p.labels }

-- the plan that is read off these chains of a task on a grid, within a budget, and a bound for all rung lists
pub record IsPlanOf (d : Rounding) (g : Task) (chains : Chains) (budget : ℕ) (p : Plan) (most : ℤ) : Type 0 where
  -- its list is the one that is read off the chains, and its certificate is
  pub list : IsListOf d g chains budget (list_in p most)
  pub parts : plan_parts g.film p ≡ certificate_from d g chains
  -- the certificate proves it
  pub valid : IsValid g (plan_parts g.film p) most
  -- the certificate has a text, and the bound no more digits than one may have
  pub form : IsCertificate (plan_parts g.film p)
  pub short : HasSignedDigits score_digits most

-- what the planner answers for a task: the plan of its frontiers, whose score is the bound, or the segment at whose end they spend the budget
abbrev pub PlanAnswer : Task → ℕ → Result Plan PlanErr → Type 0
PlanAnswer g budget (Ok p) = IsPlanOf exact g (frontier g) budget p p.score
PlanAnswer g budget (Err (fault.BudgetSpent segment)) = SpentAt g (frontier g) budget segment
PlanAnswer g budget (Err fault.Memory) = Unit {0}

-- the same of a coarse plan without its bound
abbrev pub without_bound : Result CoarsePlan PlanErr → Result Plan PlanErr
without_bound (Ok c) = Ok c.plan
without_bound (Err e) = Err e

-- what it answers on a grid: the plan of the coarse frontiers with its bound, or the segment at whose end they spend the budget
abbrev pub CoarseAnswer : Rounding → Task → ℕ → Result CoarsePlan PlanErr → Type 0
CoarseAnswer d g budget (Ok c) = IsPlanOf d g (grown d g) budget c.plan c.bound
CoarseAnswer d g budget (Err (fault.BudgetSpent segment)) = SpentAt g (grown d g) budget segment
CoarseAnswer d g budget (Err fault.Memory) = Unit {0}

-- on the grid 1, 1 the coarse plan is the plan
abbrev pub ExactAnswer : Rounding → Task → ℕ → Result CoarsePlan PlanErr → Type 0
ExactAnswer d g budget r = d ≡ exact → PlanAnswer g budget (without_bound r)

-- what is read off the frontiers: the end and the list
pub record IsEnding (d : Rounding) (g : Task) (e : Ending) : Type 0 where
  pub end : e.end ≡ (end_of_plan g (grown d g)).1
  pub rungs : e.rungs.items ≡ list_of_plan d g (grown d g)

-- the frontiers with the list that is read off them
abbrev pub IsOutline : Rounding → Task → ℕ → Outline → Type 0
IsOutline d g budget o = IsListOf d g (grown d g) budget o.list × HoldsAll d g o.arena

-- the same, or the segment at whose end they spend the budget
abbrev pub OutlineAnswer : Rounding → Task → ℕ → Result Outline PlanErr → Type 0
OutlineAnswer d g budget (Ok o) = IsOutline d g budget o
OutlineAnswer d g budget (Err (fault.BudgetSpent segment)) = SpentAt g (grown d g) budget segment
OutlineAnswer d g budget (Err fault.Memory) = Unit {0}
