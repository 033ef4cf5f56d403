use Rattle.lab_words.specs.Compare.{compare_app}
use Rattle.lab_words.specs.Table.{table_app}
use Rattle.lab_words.proofs.Simple.{compare_simple}
use Rattle.lab_words.proofs.compare.compare_matches.Goals as goal

pub table_matches-requires : goal.table_matches-requires
unfolding compare_app table_app
table_matches-requires c = compare_simple

pub returns : goal.returns
unfolding compare_app table_app
returns c = c.table_matches.ensures
