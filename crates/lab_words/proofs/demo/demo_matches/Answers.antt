use Rattle.lab_words.specs.Demo.{demo_app}
use Rattle.lab_words.specs.Table.{table_app}
use Rattle.lab_words.proofs.Simple.{demo_simple}
use Rattle.lab_words.proofs.demo.demo_matches.Goals as goal

pub table_matches-requires : goal.table_matches-requires
unfolding demo_app table_app
table_matches-requires c = demo_simple

pub returns : goal.returns
unfolding demo_app table_app
returns c = c.table_matches.ensures
