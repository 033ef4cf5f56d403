-- What `plan` answers: the best rung list that a network allowed, or on a grid one with a bound; or its certificate, unless its frontiers
-- spend the budget.
use Rattle.std.specs.Prelude.{ℕ, ℤ, suc, ◌==◌, Bool, List, [], ◌∷◌, ◌++◌, map, Option, Some, None, unwrap_or, Result, Ok, Err, codes, nat_lt, if◌then◌else◌}
use Rattle.std.specs.List.{find, slice_get}
use Rattle.std.specs.Fmt.{decimal, signed_decimal}
use Rattle.lab_io.specs.Piece.{fields_line}
use Rattle.lab_io.specs.Sink.{Text}
use Rattle.lab_model.specs.declared.trace.Period.{Period}
use Rattle.lab_model.specs.Film.{segments_of}
use Rattle.lab_model.specs.Ladder.{rungs_below}
use Rattle.lab_model.specs.Steps.{◌>>=◌}
use Rattle.lab_words.specs.Command.{CommandWords}
use Rattle.lab_inputs.specs.Inputs.{InputValues}
use Rattle.lab_inputs.specs.Settings.{settled}
use Rattle.labels.specs.Frontier.{frontier}
use Rattle.labels.specs.Grid.{Rounding, exact}
use Rattle.labels.specs.Grown.{grown}
use Rattle.player_core.specs.Scene.{Task, task_of}
use Rattle.labels.specs.Parts.{CertificateParts}
use Rattle.labels.specs.Read.{Chains, SpentAt, bound_of, certificate_from, labels_before, labels_in}
use Rattle.frontier_planner.specs.declared.plans.BoundedList.{BoundedList}
use Rattle.frontier_planner.specs.declared.plans.CoarsePlan.{CoarsePlan}
use Rattle.frontier_planner.specs.declared.plans.PlanErr.{PlanErr}
use Rattle.frontier_planner.specs.declared.plans.PlanErr.TheVariants as planned
use Rattle.frontier_planner.specs.Planned.{IsPlanOf, ListAnswer}
use Rattle.certificate_text.specs.Spelling.{gap_spelling, spelling}
use Rattle.abrlab_top.specs.declared.ending.Ending.TheVariants as ending
use Rattle.abrlab_top.specs.Ahead.{ahead_of}
use Rattle.abrlab_top.specs.Answer.{Outcome, printed, unless_stopped}

-- ---- what is asked for

-- what is asked of `plan`: the grid of a coarse plan, the most labels, and whether the certificate is to be written
pub record PlanAsked : Type 0 where
  pub grid : Option Rounding
  pub budget : ℕ
  pub as_certificate : Bool

-- the grid with these steps, none where there are none
abbrev pub grid_in : ℕ → ℕ → Option Rounding
grid_in time value = if time == 0 then None else Some (record { time = time; value = value })

-- what a command asks of `plan`
abbrev pub options_of : CommandWords → PlanAsked
options_of c = record { grid = grid_in c.coarse_time c.coarse_value; budget = c.budget; as_certificate = c.as_certificate }

-- ---- the chains and what is read off them

-- the planner's task on one network, on demand or live
abbrev pub task_on : InputValues → List Period → Task
task_on i periods = task_of i.film periods i.setup (ahead_of i.live)

-- the steps of the planner's grid: without one nothing is rounded
abbrev pub steps_of : Option Rounding → Rounding
steps_of grid = unwrap_or grid exact

-- the chains that a plan is read off: the frontiers, or on a grid the coarse frontiers
abbrev pub chains_on : Option Rounding → Task → Chains
chains_on None g = frontier g
chains_on (Some d) g = grown d g

-- the certificate that is read off the chains of a task
abbrev pub certificate_on : Option Rounding → Task → CertificateParts
certificate_on grid g = certificate_from (steps_of grid) g (chains_on grid g)

-- the greatest end value in them
abbrev pub bound_on : Option Rounding → Task → ℤ
bound_on grid g = bound_of g (chains_on grid g)

-- the number of labels in them
abbrev pub labels_on : Option Rounding → Task → ℕ
labels_on grid g = labels_in g (chains_on grid g)

-- the first segment at whose end the labels so far are more than the budget
unfoldable pub spent_on : Option Rounding → Task → ℕ → Option ℕ
spent_on grid g budget = find (λ i. nat_lt budget (labels_before g (chains_on grid g) (suc i))) (rungs_below (segments_of g.film))

-- what planning answers: the plan that is read off the chains, with its bound, or the segment at whose end they spend the budget
abbrev pub IsPlanned : Option Rounding → Task → ℕ → Result CoarsePlan PlanErr → Type 0
IsPlanned grid g budget (Ok c) = IsPlanOf (steps_of grid) g (chains_on grid g) budget c.plan c.bound
IsPlanned grid g budget (Err (planned.BudgetSpent segment)) = SpentAt g (chains_on grid g) budget segment
IsPlanned grid g budget (Err planned.Memory) = Unit {0}

-- the same of the list alone, without what certifies it
abbrev pub IsListFound : Option Rounding → Task → ℕ → Result BoundedList PlanErr → Type 0
IsListFound grid g budget r = ListAnswer (steps_of grid) g (chains_on grid g) budget r

-- ---- texts

-- the three lines of a plan with this score, so many labels and this rung list
abbrev pub plan_lines : ℤ → ℕ → List ℕ → Text
plan_lines score labels rungs =
    fields_line (codes "score" ∷ signed_decimal score ∷ [])
    ++ (fields_line (codes "labels" ∷ decimal labels ∷ []) ++ fields_line (codes "plan" ∷ map decimal rungs))

-- the line of a bound
abbrev pub bound_line : ℤ → Text
bound_line bound = fields_line (codes "bound" ∷ signed_decimal bound ∷ [])

-- the four lines of a plan on a grid, which tell its bound too
abbrev pub coarse_lines : ℤ → ℤ → ℕ → List ℕ → Text
coarse_lines score bound labels rungs =
    fields_line (codes "score" ∷ signed_decimal score ∷ [])
    ++ (bound_line bound ++ (fields_line (codes "labels" ∷ decimal labels ∷ []) ++ fields_line (codes "plan" ∷ map decimal rungs)))

-- the lines of a list with this score, this bound and so many labels
abbrev pub list_lines : Option Rounding → ℤ → ℤ → ℕ → List ℕ → Text
list_lines None score bound labels rungs = plan_lines score labels rungs
list_lines (Some d) score bound labels rungs = coarse_lines score bound labels rungs

-- the text of a certificate with this bound
abbrev pub certificate_lines : Option Rounding → CertificateParts → ℤ → Text
certificate_lines None p bound = spelling p
certificate_lines (Some d) p bound = gap_spelling (record { bound = bound; inner = p })

-- the text of a certificate, or of the plan in it, with this bound and so many labels
abbrev pub parts_text : Option Rounding → Bool → CertificateParts → ℤ → ℕ → Text
parts_text grid as_certificate p bound labels =
    if as_certificate then certificate_lines grid p bound else list_lines grid p.score bound labels p.plan

-- the text of the plan of a task, or of its certificate
abbrev pub plan_text : PlanAsked → Task → Text
plan_text o g = parts_text o.grid o.as_certificate (certificate_on o.grid g) (bound_on o.grid g) (labels_on o.grid g)

-- ---- the answer

-- the plan of a task, unless its chains spend the budget
abbrev pub unless_spent : PlanAsked → Task → Option ℕ → Outcome
unless_spent o g None = Ok (printed (plan_text o g))
unless_spent o g (Some segment) = Err (ending.Spent None segment)

-- the plan of a task
abbrev pub planned_on : PlanAsked → Task → Outcome
planned_on o g = unless_spent o g (spent_on o.grid g o.budget)

-- the answer on this network; a command line of `plan` names one
abbrev pub plan_on : PlanAsked → InputValues → Option (Text × List Period) → Outcome
plan_on o i (Some network) = do
  ready ← unless_stopped (settled i)
  planned_on o (task_on ready network.1)
plan_on o i None = Ok (printed [])

-- what `plan` answers, by what is asked for and its inputs
unfoldable pub plan : PlanAsked → InputValues → Outcome
plan o i = plan_on o i (slice_get i.networks 0)
