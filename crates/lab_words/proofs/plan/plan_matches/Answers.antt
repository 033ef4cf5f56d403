use Rattle.lab_words.specs.Plan.{plan_app}
use Rattle.lab_words.specs.Table.{table_app}
use Rattle.lab_words.proofs.Simple.{plan_simple}
use Rattle.lab_words.proofs.plan.plan_matches.Goals as goal

pub table_matches-requires : goal.table_matches-requires
unfolding plan_app table_app
table_matches-requires c = plan_simple

pub returns : goal.returns
unfolding plan_app table_app
returns c = c.table_matches.ensures
