use Rattle.labels.proofs.LabelsAreValues.{labels_are_values}
use Rattle.labels.proofs.values.labels_are_values.Goals as goal

pub returns : goal.returns
returns c = labels_are_values
