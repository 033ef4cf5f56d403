-- A yes proves what the certificate claims, and a valid certificate gets a yes, whoever made it.
use Rattle.std.proofs.Common.{◌≡◌, ℤ}
use Rattle.player_core.specs.Scene.{IsTask, Task}
use Rattle.labels.specs.Best.{Settles}
use Rattle.labels.specs.Form.{IsCertificate}
use Rattle.labels.specs.Parts.{CertificateParts}
use Rattle.labels.specs.Valid.{IsValid}
use Rattle.certificate_check.specs.declared.verdict.Verdict.TheVariants.{Yes}
use Rattle.labels.proofs.Sound.{sound}
use Rattle.certificate_check.specs.Verdict.{verdict_of}
use Rattle.certificate_check.proofs.Verdicts.{valid_yes, yes_valid}

-- a yes proves what the certificate claims, with the bound for all rung lists
pub yes_certifies : (g : Task) (c : CertificateParts) (bound : ℤ) → IsTask g → IsCertificate c → verdict_of g c bound ≡ Yes → Settles g c.plan c.score bound
yes_certifies g c bound is form said = sound g is c bound (yes_valid g c bound said) form.head.plan.0

-- a valid certificate is accepted
pub valid_accepted : (g : Task) (c : CertificateParts) (bound : ℤ) → IsCertificate c → IsValid g c bound → verdict_of g c bound ≡ Yes
valid_accepted g c bound form valid = valid_yes g c bound form.head.segments.0 valid
