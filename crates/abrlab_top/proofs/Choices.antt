-- No choice changes how words and files end.
use Rattle.std.proofs.Common.{◌≡◌, ℕ, ◌∷◌, [], Bool, true, false, List, Option, Some, None, Result, Ok, Err, ap, refl}
use Rattle.std.specs.Prelude.{ℤ}
use Rattle.std.specs.List.{slice_get}
use Rattle.lab_io.specs.Sink.{Text}
use Rattle.lab_model.specs.declared.trace.Period.{Period}
use Rattle.lab_model.specs.Steps.{◌>>=◌}
use Rattle.lab_words.specs.declared.Verb.{Verb}
use Rattle.lab_words.specs.declared.Verb.TheVariants as verb
use Rattle.lab_words.specs.Command.{CommandWords}
use Rattle.lab_words.specs.Words.{command_of}
use Rattle.lab_inputs.specs.declared.stop.Stop.{Stop}
use Rattle.lab_inputs.specs.Files.{Files}
use Rattle.lab_inputs.specs.Inputs.{InputValues, inputs_of}
use Rattle.lab_inputs.specs.Settings.{settled}
use Rattle.price_bounds.specs.Verdict.{PriceParts}
use Rattle.session_report.specs.declared.regret.Top.TheVariants as top
use Rattle.abrlab_top.specs.Answer.{Outcome, ending_in, printed, unless_stopped}
use Rattle.abrlab_top.specs.Choice.{Choice}
use Rattle.abrlab_top.specs.Ending.{status_of}
use Rattle.abrlab_top.specs.Near.{near_plan, near_plan_on, near_text}
use Rattle.abrlab_top.specs.Outcome.{about, answer_by, comparison, outcome, outcome_by, planning}
use Rattle.abrlab_top.specs.Plan.{PlanAsked, options_of}
use Rattle.abrlab_top.specs.Regret.{near_regret, ranked_text}
use Rattle.abrlab_top.specs.Statuses.{answers_to}

-- both end alike, whatever they print
abbrev pub Alike : Outcome → Outcome → Type 0
Alike (Ok a) (Ok b) = a.ending ≡ b.ending
Alike (Ok a) (Err e) = ⊥
Alike (Err e) (Ok a) = ⊥
Alike (Err e) (Err f) = e ≡ f

alike_same : (o : Outcome) → Alike o o
alike_same (Ok a) = refl
alike_same (Err e) = refl

about_alike : (f g : InputValues → Outcome) (c : CommandWords) (files : Files) → ((i : InputValues) → Alike (f i) (g i)) → Alike (about f c files) (about g c files)
unfolding about
about_alike f g c files h = by_inputs (inputs_of c files)
  where
    by_inputs : (r : Result InputValues Stop) → Alike (unless_stopped r >>= f) (unless_stopped r >>= g)
    by_inputs (Ok i) = h i
    by_inputs (Err why) = refl

printed_alike : (r : Result InputValues Stop) (a b : InputValues → Text) → Alike (unless_stopped r >>= λ ready. Ok (printed (a ready))) (unless_stopped r >>= λ ready. Ok (printed (b ready)))
printed_alike (Ok i) a b = refl
printed_alike (Err why) a b = refl

near_plan_alike : (whole : Bool) (p q : PriceParts) (i : InputValues) → Alike (near_plan whole p i) (near_plan whole q i)
unfolding near_plan
near_plan_alike whole p q i = by_network (slice_get i.networks 0)
  where
    by_network : (o : Option (Text × List Period)) → Alike (near_plan_on whole p i o) (near_plan_on whole q i o)
    by_network None = refl
    by_network (Some n) = printed_alike (settled i) (λ ready. near_text whole p) (λ ready. near_text whole q)

near_regret_alike : (xs ys : List ℤ) (i : InputValues) → Alike (near_regret xs i) (near_regret ys i)
unfolding near_regret
near_regret_alike xs ys i = printed_alike (settled i) (λ ready. ranked_text top.Bound ready xs) (λ ready. ranked_text top.Bound ready ys)

comparison_alike : (a b : Choice) (regrets near : Bool) (budget : ℕ) (i : InputValues) → Alike (comparison a regrets near budget i) (comparison b regrets near budget i)
comparison_alike a b true true budget i = near_regret_alike a.bounds b.bounds i
comparison_alike a b true false budget i = alike_same _
comparison_alike a b false near budget i = alike_same _

planning_alike : (a b : Choice) (near : Bool) (o : PlanAsked) (i : InputValues) → Alike (planning a near o i) (planning b near o i)
planning_alike a b true o i = near_plan_alike o.as_certificate a.certificate b.certificate i
planning_alike a b false o i = alike_same _

answer_alike : (a b : Choice) (v : Verb) (c : CommandWords) (files : Files) → Alike (answer_by a v c files) (answer_by b v c files)
answer_alike a b verb.Simulate c files = alike_same _
answer_alike a b verb.Compare c files = about_alike _ _ c files (λ i. comparison_alike a b c.regret c.near c.budget i)
answer_alike a b verb.Plan c files = about_alike _ _ c files (λ i. planning_alike a b c.near (options_of c) i)
answer_alike a b verb.Check c files = alike_same _
answer_alike a b verb.Demo c files = alike_same (answer_by a verb.Demo c files)

outcome_alike : (a b : Choice) (o : Option CommandWords) (files : Files) → Alike (outcome_by a o files) (outcome_by b o files)
outcome_alike a b None files = refl
outcome_alike a b (Some c) files = answer_alike a b c.verb c files

alike_ending : (o p : Outcome) → Alike o p → ending_in o ≡ ending_in p
alike_ending (Ok a) (Ok b) h = h
alike_ending (Ok a) (Err e) h = absurd h
alike_ending (Err e) (Ok a) h = absurd h
alike_ending (Err e) (Err f) h = h

alike_answers : (o p : Outcome) → Alike o p → answers_to o ≡ answers_to p
alike_answers (Ok a) (Ok b) h = ap (λ e. status_of e ∷ 4 ∷ 5 ∷ 9 ∷ []) h
alike_answers (Ok a) (Err e) h = absurd h
alike_answers (Err e) (Ok a) h = absurd h
alike_answers (Err e) (Err f) h = ap (λ x. status_of x ∷ 4 ∷ 9 ∷ []) h

-- the ending of words and files is the same by every choice
pub same_ending : (a b : Choice) (line : List Text) (files : Files) → ending_in (outcome a line files) ≡ ending_in (outcome b line files)
same_ending a b line files = alike_ending _ _ (outcome_alike a b (command_of line) files)

-- and so are the statuses that a run may answer
pub same_answers : (a b : Choice) (line : List Text) (files : Files) → answers_to (outcome a line files) ≡ answers_to (outcome b line files)
same_answers a b line files = alike_answers _ _ (outcome_alike a b (command_of line) files)
