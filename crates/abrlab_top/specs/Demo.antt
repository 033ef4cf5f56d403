-- What `demo` answers: five rules on the made case of a number, its plan, and the verdict on the plan's certificate.
use Rattle.std.specs.Prelude.{ℕ, ℤ, List, [], ◌∷◌, ◌++◌, None, Ok, codes}
use Rattle.lab_model.specs.Limits.{all_ahead}
use Rattle.std.specs.List.{flat_map}
use Rattle.std.specs.Fmt.{decimal, signed_decimal}
use Rattle.lab_io.specs.Piece.{fields_line}
use Rattle.lab_io.specs.Sink.{Text}
use Rattle.lab_model.specs.declared.trace.Period.{Period}
use Rattle.lab_model.specs.Rules.{RuleKind, bola, fixed, mpc, throughput}
use Rattle.labels.specs.Frontier.{frontier}
use Rattle.player_core.specs.Scene.{Task, task_of}
use Rattle.labels.specs.Read.{SpentAt}
use Rattle.demo_case.specs.declared.case.DemoCase.{DemoCase}
use Rattle.demo_case.specs.Case.{demo_film, demo_periods, demo_setup, demo_task}
use Rattle.demo_case.specs.Laws.{demo_budget}
use Rattle.abrlab_top.specs.Answer.{Outcome, printed}
use Rattle.abrlab_top.specs.Plan.{certificate_on, labels_on}
use Rattle.abrlab_top.specs.Rows.{BenchValue, session_row}

-- the rules of the demo with their names
abbrev pub demo_rules : List (Text × RuleKind)
demo_rules = (codes "fixed:0", fixed 0)
    ∷ (codes "fixed:3", fixed 3)
    ∷ (codes "throughput:3,5", throughput (3 ∷ 5 ∷ []))
    ∷ (codes "bola:5", bola 5)
    ∷ (codes "mpc:3", mpc 3)
    ∷ []

-- the rules are put side by side on the made case of a number
abbrev pub demo_bench : ℕ → BenchValue
demo_bench n = record { film = demo_film n; periods = demo_periods n; setup = demo_setup; seeks = [] }

-- the line of a plan with this score and so many labels
abbrev pub demo_plan : ℤ → ℕ → Text
demo_plan score labels =
    fields_line (codes "plan" ∷ codes "score" ∷ signed_decimal score ∷ codes "labels" ∷ decimal labels ∷ [])

-- the line of a number
abbrev pub demo_line : ℕ → Text
demo_line n = fields_line (codes "demo" ∷ decimal n ∷ [])

-- the two lines of a task: its plan, and that the plan's certificate is valid
abbrev pub plan_report : Task → Text
plan_report g = demo_plan (certificate_on None g).score (labels_on None g) ++ fields_line (codes "check" ∷ codes "yes" ∷ [])

-- the text of the demo of a number
unfoldable pub demo_text : ℕ → Text
demo_text n = demo_line n ++ (flat_map (session_row (demo_bench n)) demo_rules ++ plan_report (demo_task n))

-- what `demo` answers, by its number
abbrev pub demo : ℕ → Outcome
demo number = Ok (printed (demo_text number))

-- ---- cases

-- the planner's task of a case on this network
abbrev pub task_in : DemoCase → List Period → Task
task_in c periods = task_of c.manifest periods c.setup all_ahead

-- a plan of the task does not spend the budget of the demo
abbrev pub FitsBudget : Task → Type 0
FitsBudget g = (segment : ℕ) → SpentAt g (frontier g) demo_budget segment → ⊥
