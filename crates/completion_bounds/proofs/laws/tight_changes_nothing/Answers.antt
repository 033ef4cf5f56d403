use Rattle.completion_bounds.proofs.Tight.{same_labels, same_values, tight_fits}
use Rattle.completion_bounds.proofs.laws.tight_changes_nothing.Goals as goal

pub returns : goal.returns
returns c = record { task = tight_fits; labels = same_labels; values = same_values }
