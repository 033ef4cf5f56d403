use Rattle.std.proofs.Common.{ap, subst, ◌∙◌}
use Rattle.lab_model.specs.Reading.{Gives}
use Rattle.certificate_text.specs.Form.{gap_parts}
use Rattle.certificate_text.specs.Reading.{gap_of}
use Rattle.certificate_text.proofs.GapLaws.{gap_again, gap_found}
use Rattle.certificate_text.proofs.lines.read_gap.Goals as goal

pub returns-clause-found : goal.returns-clause-found
returns-clause-found c = gap_found c.args.bytes.now c.gap_of.result c.gap_of.ensures

pub returns-clause-again : goal.returns-clause-again
returns-clause-again c = λ parts form e. subst (λ read. Gives gap_parts c.gap_of.result read) (ap gap_of e ∙ gap_again parts form) c.gap_of.ensures
