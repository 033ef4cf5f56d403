use Rattle.std.proofs.Common.{◌∙◌}
use Rattle.abrlab_top.proofs.Jointly.{rules_done, rules_more, told_more}
use Rattle.abrlab_top.proofs.rule.any_rules.Goals as goal

pub loop-rule-preserved : goal.loop-rule-preserved
loop-rule-preserved c = record {
  kinds = rw c.in_ok-push.ensures.items (rules_more c.loop-rule.played.items c.in_ok-any_rule.field-0 c.args.rules.now c.loop-rule.rule-index c.rule-item.result c.loop-rule-test.true c.rule-item.is c.in_ok-any_rule.ensures.kind ∙ c.loop-rule.invariant.kinds);
  told = rw c.in_ok-push.ensures.items (told_more c.loop-rule.played.items c.in_ok-any_rule.field-0 c.loop-rule.invariant.told c.in_ok-any_rule.ensures.told);
}

pub returns-clause-kinds : goal.returns-clause-kinds
returns-clause-kinds c = rules_done c.loop-rule.played.items c.args.rules.now c.loop-rule.rule-index c.loop-rule-test.false c.loop-rule.invariant.kinds
