use Rattle.demo_case.proofs.Bound.{budget_unspent, demo_is_small}
use Rattle.demo_case.proofs.laws.demo_fits_budget.Goals as goal

pub returns : goal.returns
returns c = record { labels = demo_is_small; budget = budget_unspent }
