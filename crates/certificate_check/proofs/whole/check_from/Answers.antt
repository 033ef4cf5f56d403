use Rattle.std.proofs.Common.{◌≡◌, ◌∙◌, sym, ap}
use Rattle.std.specs.Int.{w128}
use Rattle.std.proofs.lemmas.Int.{to_z-of_z}
use Rattle.certificate_check.specs.Verdict.{verdict_of}
use Rattle.certificate_text.specs.Form.{certificate_parts}
use Rattle.player_core.specs.Scene.{IsTask}
use Rattle.certificate_check.proofs.Sound.{valid_accepted, yes_certifies}
use Rattle.certificate_check.proofs.Verdicts.{yes_valid}
use Rattle.certificate_check.proofs.whole.check_from.Goals as goal

pub returns-clause-verdict : goal.returns-clause-verdict
returns-clause-verdict c =
    let g = c.args.scene.now in
    c.verdict_on.ensures ∙ ap (verdict_of g (certificate_parts c.args.cert.now)) (to_z-of_z w128 c.args.bound c.ranges.bound)

pub returns-clause-valid : goal.returns-clause-valid
returns-clause-valid c =
    let g = c.args.scene.now in
    let parts = certificate_parts c.args.cert.now in
    let said : c.verdict_on.result ≡ verdict_of g parts c.args.bound = returns-clause-verdict c in
    (λ passed. yes_valid g parts c.args.bound (sym said ∙ passed), λ valid. said ∙ valid_accepted g parts c.args.bound c.requires.form valid)

pub returns-clause-sound : goal.returns-clause-sound
returns-clause-sound c =
    let g = c.args.scene.now in
    let parts = certificate_parts c.args.cert.now in
    let said : c.verdict_on.result ≡ verdict_of g parts c.args.bound = returns-clause-verdict c in
    let is : IsTask g = c.film.ensures.task in
    λ passed. yes_certifies g parts c.args.bound is c.requires.form (sym said ∙ passed)
