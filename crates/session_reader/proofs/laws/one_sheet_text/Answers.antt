use Rattle.session_reader.proofs.SheetLaws.{same_sheet}
use Rattle.session_reader.proofs.laws.one_sheet_text.Goals as goal

pub returns : goal.returns
returns c = same_sheet
