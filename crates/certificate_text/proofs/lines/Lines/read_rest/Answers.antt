use Rattle.std.proofs.Common.{sym, subst}
use Rattle.lab_model.specs.Reading.{Gives}
use Rattle.certificate_text.proofs.WalkLaws.{begun_accepted, gap_ends}
use Rattle.certificate_text.proofs.lines.Lines.read_rest.Goals as goal

pub returns-clause-plain : goal.returns-clause-plain
returns-clause-plain c = λ bytes h. subst (Gives (λ done. done) c.pass_rest.result) (sym (begun_accepted bytes c.args.self h)) c.pass_rest.ensures

pub returns-clause-gap : goal.returns-clause-gap
returns-clause-gap c = λ bytes h. subst (Gives (λ done. done) c.pass_rest.result) (sym (gap_ends bytes c.args.self h)) c.pass_rest.ensures
