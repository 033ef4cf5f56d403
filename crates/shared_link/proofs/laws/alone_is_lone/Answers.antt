use Rattle.shared_link.proofs.Own.{alone_is_lone}
use Rattle.shared_link.proofs.laws.alone_is_lone.Goals as goal

pub returns : goal.returns
returns c = alone_is_lone
