use Rattle.certificate_text.proofs.GapLaws.{same_gap}
use Rattle.certificate_text.proofs.lines.one_gap_spelling.Goals as goal

pub returns : goal.returns
returns c = same_gap
