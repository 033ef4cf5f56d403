-- What `plan` answers, from what the planner gave.
use Rattle.std.proofs.Common.{◌≡◌, ◌∙◌, ◌-◌, ◌≤◌, ℕ, suc, Bool, true, false, List, [], Option, Some, None, IfSome, IfOk, Ok, Err, Result, ap, sym, refl, subst, arith}
use Rattle.std.specs.Prelude.{ℤ, nat_lt}
use Rattle.std.specs.List.{slice_get}
use Rattle.std.proofs.lemmas.Bool.{le-ltb, lt-ltb}
use Rattle.lab_model.specs.declared.trace.Period.{Period}
use Rattle.lab_io.specs.Sink.{Text, Seen}
use Rattle.lab_model.specs.Film.{segments_of}
use Rattle.lab_inputs.specs.declared.stop.Stop.{Stop}
use Rattle.lab_inputs.specs.Inputs.{InputValues}
use Rattle.lab_inputs.specs.Settings.{settled}
use Rattle.frontier_planner.specs.declared.plans.BoundedList.{BoundedList}
use Rattle.frontier_planner.specs.declared.plans.CoarsePlan.{CoarsePlan}
use Rattle.frontier_planner.specs.declared.plans.PlanErr.{PlanErr}
use Rattle.frontier_planner.specs.declared.plans.PlanErr.TheVariants as planned
use Rattle.labels.specs.Grid.{Rounding, IsGrid, exact}
use Rattle.player_core.specs.Scene.{Task}
use Rattle.labels.specs.Parts.{CertificateParts, plan_parts}
use Rattle.frontier_planner.specs.Planned.{CoarseAnswer, ExactAnswer, IsListOf, IsPlanOf, ListAnswer}
use Rattle.labels.specs.Frontier.{frontier}
use Rattle.labels.specs.Grown.{grown}
use Rattle.labels.specs.Read.{SpentAt, labels_before, labels_in, list_of_plan}
use Rattle.labels.proofs.Counted.{before_beyond}
use Rattle.labels.proofs.Rounds.{exact_fits}
use Rattle.certificate_text.specs.Form.{IsGapCertificate}
use Rattle.gap_plan.specs.Gap.{plan_gap}
use Rattle.abrlab_top.specs.declared.ending.Ending.TheVariants as ending
use Rattle.abrlab_top.specs.Answer.{printed}
use Rattle.abrlab_top.specs.Ending.{after_plan}
use Rattle.abrlab_top.specs.Plan.{IsListFound, IsPlanned, PlanAsked, bound_on, certificate_lines, certificate_on, chains_on, labels_on, list_lines, parts_text, plan, plan_on, planned_on, spent_on, steps_of, task_on, unless_spent}
use Rattle.abrlab_top.specs.Stages.{Writes, at_the_end}
use Rattle.abrlab_top.proofs.Finds.{found_from, none_from}
use Rattle.abrlab_top.proofs.Whole.{wanting}

-- ---- what is asked for

-- the steps of a grid within its limits, and of none
pub steps_fit : (grid : Option Rounding) → IfSome grid IsGrid → IsGrid (steps_of grid)
steps_fit None h = exact_fits
steps_fit (Some d) h = h

-- what the planner answers on these steps is what was asked for
pub planned_by : (grid : Option Rounding) (g : Task) (budget : ℕ) (r : Result CoarsePlan PlanErr) → CoarseAnswer (steps_of grid) g budget r → ExactAnswer (steps_of grid) g budget r
    → (steps_of grid ≡ exact → IfOk r (λ (c : CoarsePlan). c.bound ≡ c.plan.score)) → IsPlanned grid g budget r
planned_by None g budget (Ok c) coarse exactly own = subst (IsPlanOf exact g (chains_on None g) budget c.plan) (sym (own refl)) (exactly refl)
planned_by None g budget (Err (planned.BudgetSpent s)) coarse exactly own = exactly refl
planned_by None g budget (Err planned.Memory) coarse exactly own = tt
planned_by (Some d) g budget (Ok c) coarse exactly own = coarse
planned_by (Some d) g budget (Err (planned.BudgetSpent s)) coarse exactly own = coarse
planned_by (Some d) g budget (Err planned.Memory) coarse exactly own = tt

-- and of a list
pub listed_by : (grid : Option Rounding) (g : Task) (budget : ℕ) (r : Result BoundedList PlanErr) → ListAnswer (steps_of grid) g (grown (steps_of grid) g) budget r → (steps_of grid ≡ exact → ListAnswer exact g (frontier g) budget r) → IsListFound grid g budget r
listed_by None g budget r coarse exactly = exactly refl
listed_by (Some d) g budget r coarse exactly = coarse

-- ---- the budget

module _ (grid : Option Rounding) (g : Task) (budget : ℕ) where
  before_within : (j s : ℕ) → j ≤ s → labels_before g (chains_on grid g) j ≤ labels_before g (chains_on grid g) s
  before_within j s low =
      subst (λ n. labels_before g (chains_on grid g) j ≤ labels_before g (chains_on grid g) n) (omega (arith, low)) (before_beyond g (chains_on grid g) j (s - j))

  pub spent_at : (s : ℕ) → SpentAt g (chains_on grid g) budget s → spent_on grid g budget ≡ Some s
  unfolding spent_on
  spent_at s h =
      found_from (λ i. nat_lt budget (labels_before g (chains_on grid g) (suc i))) 0 (segments_of g.film) s (omega arith) (let inside = h.inside in omega (arith, inside))
      (λ j low before. let up = before_within (suc j) s (omega (arith, before)) in let most = h.before in le-ltb budget (labels_before g (chains_on grid g) (suc j)) (omega (arith, up, most))) (lt-ltb budget (labels_before g (chains_on grid g) (suc s)) h.above)

  pub never_spent : labels_in g (chains_on grid g) ≤ budget → spent_on grid g budget ≡ None
  unfolding spent_on
  never_spent h =
      none_from (λ i. nat_lt budget (labels_before g (chains_on grid g) (suc i))) 0 (segments_of g.film)
      (λ j low. let up = before_within (suc j) (segments_of g.film) (omega (arith, low)) in le-ltb budget (labels_before g (chains_on grid g) (suc j)) (omega (arith, up, h)))

-- ---- the answer

-- no network is named
pub no_network : (o : PlanAsked) (i : InputValues) → slice_get i.networks 0 ≡ None → plan o i ≡ Ok (printed [])
unfolding plan
no_network o i e = ap (plan_on o i) e

-- a setting does not fit
pub plan_stopped : (o : PlanAsked) (i : InputValues) (n : Text × List Period) (why : Stop) → slice_get i.networks 0 ≡ Some n → settled i ≡ Err why → plan o i ≡ Err (ending.Stopped why)
unfolding plan
plan_stopped o i n why e h = rw (e, h) refl

-- what `plan` answers on the network
one_planned : (o : PlanAsked) (i : InputValues) (n : Text × List Period) → slice_get i.networks 0 ≡ Some n → settled i ≡ Ok i → plan o i ≡ planned_on o (task_on i n.1)
unfolding plan
one_planned o i n e h = rw (e, h) refl

-- and by the clock of the network
pub planned_there : (o : PlanAsked) (i : InputValues) (n : Text × List Period) (clock : List Period) → slice_get i.networks 0 ≡ Some n → settled i ≡ Ok i → clock ≡ n.1 → plan o i ≡ planned_on o (task_on i clock)
planned_there o i n clock e h p = one_planned o i n e h ∙ ap (λ (periods : List Period). planned_on o (task_on i periods)) (sym p)

-- the text of the list of a task
pub list_said : (o : PlanAsked) (g : Task) (b : BoundedList) → o.as_certificate ≡ false → IsListOf (steps_of o.grid) g (chains_on o.grid g) o.budget b → planned_on o g ≡ Ok (printed (list_lines o.grid b.score b.bound b.labels b.rungs.items))
list_said o g b lines of =
    let never = never_spent o.grid g o.budget (let most = of.within in let counted = of.labels in omega (arith, most, counted)) in
    let list = list_of_plan (steps_of o.grid) g (chains_on o.grid g) in
    let text = ap (λ (whole : Bool). parts_text o.grid whole (certificate_on o.grid g) (bound_on o.grid g) (labels_on o.grid g)) lines
    ∙ ap (λ (v : ℤ). list_lines o.grid v (bound_on o.grid g) (labels_on o.grid g) list) (sym of.score)
    ∙ ap (λ (v : ℤ). list_lines o.grid b.score v (labels_on o.grid g) list) (sym of.bound)
    ∙ ap (λ (n : ℕ). list_lines o.grid b.score b.bound n list) (sym of.labels)
    ∙ ap (list_lines o.grid b.score b.bound b.labels) (sym of.rungs) in
    ap (unless_spent o g) never ∙ ap (λ t. Ok (printed t)) text

-- the text of the certificate of a task
pub certificate_said : (o : PlanAsked) (g : Task) (c : CoarsePlan) → o.as_certificate ≡ true → IsPlanOf (steps_of o.grid) g (chains_on o.grid g) o.budget c.plan c.bound
    → planned_on o g ≡ Ok (printed (certificate_lines o.grid (plan_parts g.film c.plan) c.bound))
certificate_said o g c whole of =
    let never = never_spent o.grid g o.budget (let most = of.list.within in let counted = of.list.labels in omega (arith, most, counted)) in
    let text = ap (λ (w : Bool). parts_text o.grid w (certificate_on o.grid g) (bound_on o.grid g) (labels_on o.grid g)) whole
    ∙ ap (λ (q : CertificateParts). certificate_lines o.grid q (bound_on o.grid g)) (sym of.parts)
    ∙ ap (certificate_lines o.grid (plan_parts g.film c.plan)) (sym of.list.bound) in
    ap (unless_spent o g) never ∙ ap (λ t. Ok (printed t)) text

-- the plan of a task has a certificate's text
pub plan_has_form : (o : PlanAsked) (g : Task) (c : CoarsePlan) → IsPlanOf (steps_of o.grid) g (chains_on o.grid g) o.budget c.plan c.bound → IsGapCertificate (plan_gap g.film c)
plan_has_form o g c of = record { bound = of.short; inner = of.form }

-- the chains spend the budget
task_spent : (o : PlanAsked) (g : Task) (s : ℕ) → SpentAt g (chains_on o.grid g) o.budget s → planned_on o g ≡ Err (ending.Spent None s)
task_spent o g s at = ap (unless_spent o g) (spent_at o.grid g o.budget s at)

-- planning failed
pub plan_failed : (o : PlanAsked) (g : Task) (old : Seen) (r : Result CoarsePlan PlanErr) (e : PlanErr) → r ≡ Err e → IsPlanned o.grid g o.budget r → Writes at_the_end (planned_on o g) old (after_plan e) old
plan_failed o g old r (planned.BudgetSpent s) k x = let y : SpentAt g (chains_on o.grid g) o.budget s = rw k at x in (task_spent o g s y, refl)
plan_failed o g old r planned.Memory k x = wanting at_the_end (planned_on o g) old

-- finding the list failed
pub list_failed : (o : PlanAsked) (g : Task) (old : Seen) (r : Result BoundedList PlanErr) (e : PlanErr) → r ≡ Err e → IsListFound o.grid g o.budget r → Writes at_the_end (planned_on o g) old (after_plan e) old
list_failed o g old r (planned.BudgetSpent s) k x = let y : SpentAt g (chains_on o.grid g) o.budget s = rw k at x in (task_spent o g s y, refl)
list_failed o g old r planned.Memory k x = wanting at_the_end (planned_on o g) old

-- planning gave a plan
pub plan_given : (o : PlanAsked) (g : Task) (r : Result CoarsePlan PlanErr) (c : CoarsePlan) → r ≡ Ok c → IsPlanned o.grid g o.budget r → IsPlanOf (steps_of o.grid) g (chains_on o.grid g) o.budget c.plan c.bound
plan_given o g r c e x = rw e at x

-- and a list
pub list_given : (o : PlanAsked) (g : Task) (r : Result BoundedList PlanErr) (b : BoundedList) → r ≡ Ok b → IsListFound o.grid g o.budget r → IsListOf (steps_of o.grid) g (chains_on o.grid g) o.budget b
list_given o g r b e x = rw e at x
