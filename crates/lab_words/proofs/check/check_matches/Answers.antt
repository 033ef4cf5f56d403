use Rattle.lab_words.specs.Check.{check_app}
use Rattle.lab_words.specs.Table.{table_app}
use Rattle.lab_words.proofs.Simple.{check_simple}
use Rattle.lab_words.proofs.check.check_matches.Goals as goal

pub table_matches-requires : goal.table_matches-requires
unfolding check_app table_app
table_matches-requires c = check_simple

pub returns : goal.returns
unfolding check_app table_app
returns c = c.table_matches.ensures
