use Rattle.std.proofs.Common.{ℤ, sym, ap, subst}
use Rattle.std.specs.Int.{w128}
use Rattle.std.proofs.lemmas.Int.{to_z-of_z}
use Rattle.lab_model.specs.Reading.{Gives}
use Rattle.player_core.specs.Scene.{Task}
use Rattle.certificate_text.specs.Walk.{certificate_by}
use Rattle.certificate_text.proofs.WalkLaws.{begun_rest}
use Rattle.certificate_check.specs.Verdict.{verdict_on}
use Rattle.certificate_check.proofs.ByLayer.{gap_said, gap_valid_said, sound_said, valid_said}
use Rattle.certificate_check.proofs.by_layer.check_lines_from.Goals as goal
use Rattle.certificate_check.proofs.by_layer.check_lines_from.Goals.{After-verdict_on}

-- the task of the call
abbrev task : After-verdict_on → Task
task c = c.args.scene.now

-- its answer is the verdict on the certificate that the lines come to
said : (c : After-verdict_on) → Gives (λ v. v) c.verdict_on.result (verdict_on (task c) c.args.bound (certificate_by c.args.lines))
said c =
    subst (λ (b : ℤ). Gives (λ v. v) c.verdict_on.result (verdict_on (task c) b (certificate_by c.args.lines))) (to_z-of_z w128 c.args.bound c.ranges.bound) c.verdict_on.ensures

pub returns-clause-verdict : goal.returns-clause-verdict
returns-clause-verdict c = λ bytes is. subst (Gives (λ v. v) c.verdict_on.result) (ap (verdict_on (task c) c.args.bound) (sym (begun_rest bytes c.args.lines is))) (said c)

pub returns-clause-valid : goal.returns-clause-valid
returns-clause-valid c = λ bytes is. valid_said (task c) c.args.bound c.args.lines c.verdict_on.result c.requires.begun (said c) bytes is

pub returns-clause-gap : goal.returns-clause-gap
returns-clause-gap c = λ bytes is. subst (Gives (λ v. v) c.verdict_on.result) (gap_said (task c) bytes c.args.bound c.args.lines is) (said c)

pub returns-clause-gap_valid : goal.returns-clause-gap_valid
returns-clause-gap_valid c = λ bytes is. gap_valid_said (task c) c.args.bound c.args.lines c.verdict_on.result c.requires.begun (said c) bytes is

pub returns-clause-sound : goal.returns-clause-sound
returns-clause-sound c = sound_said (task c) c.args.bound c.args.lines c.verdict_on.result c.film.ensures.task c.requires.begun (said c)
