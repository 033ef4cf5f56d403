use Rattle.std.proofs.Common.{ap, subst, ◌∙◌}
use Rattle.lab_model.specs.Reading.{Gives}
use Rattle.session_reader.specs.Form.{alone, telling_of, tellings}
use Rattle.session_reader.specs.Reading.{sheet_of}
use Rattle.session_reader.proofs.SheetLaws.{alone_has, sheet_again, sheet_found, written_text}
use Rattle.session_reader.proofs.reader.read_sessions.Goals as goal

pub returns-clause-found : goal.returns-clause-found
returns-clause-found c = sheet_found c.args.bytes.now c.sheet_of.result c.sheet_of.ensures

pub returns-clause-again : goal.returns-clause-again
returns-clause-again c = λ s has e. subst (λ read. Gives tellings c.sheet_of.result read) (ap sheet_of e ∙ sheet_again s has) c.sheet_of.ensures

pub returns-clause-written : goal.returns-clause-written
returns-clause-written c = λ s w is e.
    subst (λ read. Gives tellings c.sheet_of.result read) (ap sheet_of (e ∙ written_text s w) ∙ sheet_again (alone (telling_of s w)) (alone_has (telling_of s w) is)) c.sheet_of.ensures
