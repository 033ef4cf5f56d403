use Rattle.price_bounds.proofs.Law.{no_list_passes}
use Rattle.price_bounds.proofs.laws.no_list_passes.Goals as goal

pub returns : goal.returns
returns c = λ g is ws windows rungs fits. no_list_passes g is ws windows rungs fits
