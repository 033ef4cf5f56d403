use Rattle.std.proofs.Common.{◌∙◌, Err, ap, rules, subst, sym}
use Rattle.std.specs.Int.{w128}
use Rattle.std.proofs.lemmas.Int.{to_z-of_z}
use Rattle.lab_inputs.specs.Stages.{network_of}
use Rattle.abrlab_top.specs.Plan.{task_on}
use Rattle.abrlab_top.specs.Stages.{Judges}
use Rattle.abrlab_top.proofs.Judged.{bad_judged, judging_wants, verdict_fails, verdict_judged}
use Rattle.abrlab_top.proofs.check.judge_lines.Goals as goal

pub returns-in_err-clock : goal.returns-in_err-clock
returns-in_err-clock c = judging_wants c.args.gap c.args.inputs.now c.from_residual.result c.from_residual.ensures.1

pub returns-in-Ok : goal.returns-in-Ok
returns-in-Ok c =
    let i = c.args.inputs.now in
    let score = to_z-of_z w128 c.score-score.result (search rules) ∙ c.score-score.ensures in
    let bound = to_z-of_z w128 c.bound-bound.result (search rules) ∙ c.bound-bound.ensures in
    verdict_judged c.args.gap i (network_of c.args.network.now) _ c.args.lines (record { score = _; bound = _; verdict = c.in-Ok.verdict }) c.requires.network c.requires.settled
    (c.scene_on.ensures.value ∙ ap (task_on i) c.in_ok-clock.ensures.clock)
    c.requires.certificate score bound _ bound (c.in-Ok.ensures.verdict i.certificate) (c.in-Ok.ensures.gap i.certificate)

pub returns : goal.returns
returns c =
    let i = c.args.inputs.now in
    subst (λ h. Judges c.args.gap i (Err h)) (sym c.bad_line.ensures)
    (bad_judged c.args.gap i (network_of c.args.network.now) c.in-Err.fault c.requires.network
    (verdict_fails c.args.gap _ i.certificate _ c.args.lines c.in-Err.fault c.requires.certificate (c.in-Err.ensures.verdict i.certificate) (c.in-Err.ensures.gap i.certificate)))
