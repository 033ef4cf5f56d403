use Rattle.abrlab_top.proofs.Complete.{complete}
use Rattle.abrlab_top.proofs.laws.runs_are_complete.Goals as goal

pub returns : goal.returns
returns c = complete
