use Rattle.std.proofs.Common.{◌≡◌}
use Rattle.std.specs.Prelude.{◌↔◌, IfOk}
use Rattle.labels.specs.Best.{Settles}
use Rattle.std.proofs.lemmas.Result.{IfOk-weaker}
use Rattle.price_bounds.specs.Verdict.{IsValid, price_parts, verdict_of}
use Rattle.price_bounds.specs.declared.verdict.PriceVerdict.TheVariants.{Yes}
use Rattle.price_bounds.proofs.Verdicts.{said}
use Rattle.price_bounds.proofs.check.check_prices.Goals as goal

pub returns-clause-valid : goal.returns-clause-valid
returns-clause-valid c =
    let g = c.args.scene.now in
    let parts = price_parts c.args.certificate.now in
    IfOk-weaker c.verdict_on.result (λ v. v ≡ verdict_of g parts) (λ v. (v ≡ Yes) ↔ IsValid g parts)
    (λ v e. (said g parts c.verdict_on.ensures.task c.requires.plan c.requires.windows v e).0) c.verdict_on.ensures.verdict

pub returns-clause-sound : goal.returns-clause-sound
returns-clause-sound c =
    let g = c.args.scene.now in
    let parts = price_parts c.args.certificate.now in
    IfOk-weaker c.verdict_on.result (λ v. v ≡ verdict_of g parts) (λ v. v ≡ Yes → Settles g parts.plan parts.score parts.bound)
    (λ v e. (said g parts c.verdict_on.ensures.task c.requires.plan c.requires.windows v e).1) c.verdict_on.ensures.verdict
