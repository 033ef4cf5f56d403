use Rattle.price_text.proofs.Length.{prices_fit}
use Rattle.price_text.proofs.laws.texts_fit.Goals as goal

pub returns : goal.returns
returns c = prices_fit
