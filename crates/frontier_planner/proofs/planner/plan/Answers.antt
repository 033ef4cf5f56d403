use Rattle.std.proofs.Common.{◌≡◌, ℕ, Ok, subst}
use Rattle.std.specs.Prelude.{IfSome}
use Rattle.lab_model.specs.Film.{IsWithin}
use Rattle.lab_model.specs.Limits.{all_ahead, most_budget}
use Rattle.player_core.specs.Scene.{Task, task_of}
use Rattle.frontier_planner.specs.Planned.{PlanAnswer}
use Rattle.frontier_planner.proofs.planner.plan.Goals as goal

pub returns : goal.returns
returns c =
    let made : c.in-Some.budget ≡ c.args.budget = (subst (λ o. IfSome o (λ a. (a ≡ c.args.budget) × IsWithin 1 most_budget c.args.budget)) c.in-Some.is c.new.ensures.some).0 in
    subst (λ (n : ℕ). PlanAnswer (task_of c.args.film.now c.args.clock.now c.args.setup.now all_ahead) n (Ok c.in_ok-plan_from.field-0.plan)) made
    (subst (λ (g : Task). PlanAnswer g c.in-Some.budget (Ok c.in_ok-plan_from.field-0.plan)) c.on_demand-scene.ensures.value
    (c.in_ok-plan_from.ensures.exact c.exact.ensures.value))
