use Rattle.std.proofs.Common.{ap, subst, ◌∙◌}
use Rattle.lab_model.specs.Reading.{Gives}
use Rattle.certificate_text.specs.Form.{certificate_parts}
use Rattle.certificate_text.specs.Reading.{certificate_of}
use Rattle.certificate_text.proofs.HeadLaws.{certificate_again, is_found}
use Rattle.certificate_text.proofs.lines.read_certificate.Goals as goal

pub returns-clause-found : goal.returns-clause-found
returns-clause-found c = is_found c.args.bytes.now c.certificate_behind.result c.certificate_behind.ensures

pub returns-clause-again : goal.returns-clause-again
returns-clause-again c = λ parts form e. subst (λ read. Gives certificate_parts c.certificate_behind.result read) (ap certificate_of e ∙ certificate_again parts form) c.certificate_behind.ensures
