use Rattle.std.proofs.Common.{◌∙◌, ap, map}
use Rattle.lab_model.specs.Throughput.{least}
use Rattle.throughput_rule.specs.Windows.{mean_of}
use Rattle.throughput_rule.proofs.Chosen.{chosen}
use Rattle.throughput_rule.proofs.rule.ThroughputRule.choose.Goals as goal

pub returns-clause-choice : goal.returns-clause-choice
returns-clause-choice c = λ history told.
    chosen c.args.self.now c.args.m.now history c.least_mean.result c.greatest_rung.result c.greatest_rung.ensures.film told
    (c.least_mean.ensures.value ∙ ap (λ ks. least (map mean_of ks)) (c.deref.ensures.value ∙ c.self.view_is)) c.greatest_rung.ensures.value
