use Rattle.completion_bounds.proofs.Along.{hopeless_below, table_bounds}
use Rattle.completion_bounds.proofs.Bounded.{completions_bounded}
use Rattle.completion_bounds.proofs.laws.completions_are_bounded.Goals as goal

pub returns : goal.returns
returns c = record { labels = completions_bounded; hopeless = hopeless_below; lists = table_bounds }
