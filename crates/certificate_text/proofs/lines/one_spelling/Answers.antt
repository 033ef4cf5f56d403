use Rattle.certificate_text.proofs.HeadLaws.{same_spelling}
use Rattle.certificate_text.proofs.lines.one_spelling.Goals as goal

pub returns : goal.returns
returns c = same_spelling
