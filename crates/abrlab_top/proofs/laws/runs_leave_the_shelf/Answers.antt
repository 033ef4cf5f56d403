use Rattle.abrlab_top.proofs.Complete.{leaves_shelf}
use Rattle.abrlab_top.proofs.laws.runs_leave_the_shelf.Goals as goal

pub returns : goal.returns
returns c = leaves_shelf
