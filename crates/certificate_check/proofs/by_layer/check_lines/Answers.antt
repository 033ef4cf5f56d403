use Rattle.std.proofs.Common.{◌≡◌, ◌∙◌, ℤ, ap, subst, to_z, of_z, rules}
use Rattle.lab_model.specs.Limits.{all_ahead}
use mir.Val.{SFits}
use Rattle.std.specs.Int.{w128}
use Rattle.std.specs.Result.{IfOk}
use Rattle.std.proofs.lemmas.Int.{to_z-of_z}
use Rattle.lab_model.specs.Reading.{Gives}
use Rattle.player_core.specs.Scene.{Task, task_of}
use Rattle.labels.specs.Best.{Settles}
use Rattle.certificate_check.specs.declared.verdict.Verdict.TheVariants.{Yes}
use Rattle.certificate_check.specs.Verdict.{SaysValid, bounded_verdict}
use Rattle.certificate_check.proofs.ByLayer.{own_verdict}
use Rattle.certificate_check.proofs.by_layer.check_lines.Goals as goal
use Rattle.certificate_check.proofs.by_layer.check_lines.Goals.{After-check_lines_from}

-- the bound that is handed on is the score of the lines
own_bound : (c : After-check_lines_from) → to_z w128 (of_z w128 c.score-score.result) ≡ c.args.lines.head.score
own_bound c =
    let score = c.score-score.result in
    let fits : SFits w128 score = search rules in
    to_z-of_z w128 score fits ∙ c.score-score.ensures

-- the bound that is handed on
abbrev bound_on : After-check_lines_from → ℤ
bound_on c = to_z w128 (of_z w128 c.score-score.result)

pub returns-clause-verdict : goal.returns-clause-verdict
returns-clause-verdict c = λ bytes is.
    let g = task_of c.args.film.now c.args.clock.now c.args.setup.now all_ahead in
    let said = subst (λ (h : Task). Gives (λ v. v) c.check_lines_from.result (bounded_verdict h bytes (bound_on c))) c.on_demand.ensures.value (c.check_lines_from.ensures.verdict bytes is) in
    subst (Gives (λ v. v) c.check_lines_from.result) (ap (bounded_verdict g bytes) (own_bound c) ∙ own_verdict g bytes c.args.lines is) said

pub returns-clause-valid : goal.returns-clause-valid
returns-clause-valid c = λ bytes is.
    let g = task_of c.args.film.now c.args.clock.now c.args.setup.now all_ahead in
    let said = subst (λ (h : Task). IfOk c.check_lines_from.result (SaysValid h bytes (bound_on c))) c.on_demand.ensures.value (c.check_lines_from.ensures.valid bytes is) in
    subst (λ b. IfOk c.check_lines_from.result (SaysValid g bytes b)) (own_bound c) said

pub returns-clause-sound : goal.returns-clause-sound
returns-clause-sound c =
    let g = task_of c.args.film.now c.args.clock.now c.args.setup.now all_ahead in
    let said = subst (λ (h : Task). IfOk c.check_lines_from.result (λ v. v ≡ Yes → Settles h c.args.lines.head.plan c.args.lines.head.score (bound_on c))) c.on_demand.ensures.value c.check_lines_from.ensures.sound in
    subst (λ b. IfOk c.check_lines_from.result (λ v. v ≡ Yes → Settles g c.args.lines.head.plan c.args.lines.head.score b)) (own_bound c) said
