use Rattle.std.proofs.Common.{◌∙◌, ap}
use Rattle.lab_model.specs.Rules.{throughput}
use Rattle.throughput_rule.specs.Windows.{throughput_of}
use Rattle.throughput_rule.proofs.Histories.{hold_more, widths_same}
use Rattle.throughput_rule.proofs.rule.ThroughputRule.observe.Goals as goal

pub returns-clause-kind : goal.returns-clause-kind
returns-clause-kind c = ap throughput_of c.tell.ensures ∙ ap throughput (widths_same c.args.s.rate c.self.inside.windows.items) ∙ ap throughput_of c.self.view_is

pub returns-clause-told : goal.returns-clause-told
returns-clause-told c = λ history stands.
    rw c.tell.ensures (hold_more c.self.inside.windows.items history c.args.s.rate (rw (← c.self.view_is) at stands))
