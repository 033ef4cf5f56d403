-- What the gap certificate of a coarse plan proves.
use Rattle.std.proofs.Common.{ℕ, Result, Ok, Err}
use Rattle.std.specs.Prelude.{IfOk}
use Rattle.labels.specs.Grid.{Rounding}
use Rattle.player_core.specs.Scene.{Task}
use Rattle.frontier_planner.specs.declared.plans.CoarsePlan.{CoarsePlan}
use Rattle.frontier_planner.specs.declared.plans.PlanErr.{PlanErr}
use Rattle.frontier_planner.specs.Planned.{CoarseAnswer}
use Rattle.gap_plan.specs.Gap.{CertifiesGap}

-- a plan that the planner answers on a grid has a gap certificate that is valid
pub certifies : (d : Rounding) (g : Task) (budget : ℕ) (answer : Result CoarsePlan PlanErr) → CoarseAnswer d g budget answer → IfOk answer (CertifiesGap g)
certifies d g budget (Ok c) h = record { form = record { bound = h.short; inner = h.form }; valid = h.valid; settles = h.list.settles }
certifies d g budget (Err e) h = tt
