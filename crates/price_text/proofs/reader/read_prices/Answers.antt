use Rattle.std.proofs.Common.{ap, subst, ◌∙◌}
use Rattle.lab_model.specs.Reading.{Gives}
use Rattle.price_bounds.specs.Verdict.{price_parts}
use Rattle.price_text.specs.Reading.{prices_of}
use Rattle.price_text.proofs.PriceLaws.{prices_again, prices_found}
use Rattle.price_text.proofs.reader.read_prices.Goals as goal

pub returns-clause-found : goal.returns-clause-found
returns-clause-found c = prices_found c.args.bytes.now c.prices_of.result c.prices_of.ensures

pub returns-clause-again : goal.returns-clause-again
returns-clause-again c = λ parts form e. subst (λ read. Gives price_parts c.prices_of.result read) (ap prices_of e ∙ prices_again parts form) c.prices_of.ensures
