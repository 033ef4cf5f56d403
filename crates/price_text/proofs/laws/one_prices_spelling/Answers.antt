use Rattle.price_text.proofs.PriceLaws.{same_prices}
use Rattle.price_text.proofs.laws.one_prices_spelling.Goals as goal

pub returns : goal.returns
returns c = same_prices
