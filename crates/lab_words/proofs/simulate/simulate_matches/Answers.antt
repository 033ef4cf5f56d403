use Rattle.lab_words.specs.Simulate.{simulate_app}
use Rattle.lab_words.specs.Table.{table_app}
use Rattle.lab_words.proofs.Simple.{simulate_simple}
use Rattle.lab_words.proofs.simulate.simulate_matches.Goals as goal

pub table_matches-requires : goal.table_matches-requires
unfolding simulate_app table_app
table_matches-requires c = simulate_simple

pub returns : goal.returns
unfolding simulate_app table_app
returns c = c.table_matches.ensures
