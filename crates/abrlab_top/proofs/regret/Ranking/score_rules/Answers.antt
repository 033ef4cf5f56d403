use Rattle.std.proofs.Common.{◌∷◌, ◌++◌, ◌∙◌, [], ap, rules}
use Rattle.std.specs.Int.{w128}
use Rattle.std.proofs.lemmas.Int.{to_z-of_z}
use Rattle.abrlab_top.proofs.Regrets.{rule_asks, rule_within, rules_seen, scores_all, scores_more}
use Rattle.abrlab_top.proofs.regret.Ranking.score_rules.Goals as goal

pub score_rule-requires-clause-within : goal.score_rule-requires-clause-within
score_rule-requires-clause-within c =
    rule_within c.inputs.result.now c.rules-rules.result.now c.loop-rule.rule-index c.rule-item.result c.rules-rules.ensures.value c.rules-rules.ensures.within c.loop-rule-test.true c.rule-item.is

pub score_rule-requires-clause-fits : goal.score_rule-requires-clause-fits
score_rule-requires-clause-fits c =
    rule_asks c.args.self.now.inputs c.rules-rules.result.now c.loop-rule.rule-index c.rule-item.result (rules_seen c.args.self.now.inputs c.inputs.result.now c.rules-rules.result.now c.inputs.ensures.value c.rules-rules.ensures.value)
    c.inputs.ensures.can c.loop-rule-test.true c.rule-item.is

pub loop-rule-preserved : goal.loop-rule-preserved
loop-rule-preserved c =
    scores_more c.args.self.now.inputs c.args.clock.now c.rules-rules.result.now c.loop-rule.rule-index c.rule-item.result c.loop-rule.scores.items _ c.in_ok-played.played c.loop-rule-test.true c.rule-item.is
    (c.in_ok-push.ensures.items ∙ ap (λ z. c.loop-rule.scores.items ++ z ∷ []) (to_z-of_z w128 c.in_ok-played.played (search rules))) c.loop-rule.invariant c.in_ok-played.ensures

pub returns : goal.returns
returns c =
    scores_all c.args.self.now.inputs c.args.clock.now c.rules-rules.result.now c.loop-rule.rule-index c.loop-rule.scores.items
    (rules_seen c.args.self.now.inputs c.inputs.result.now c.rules-rules.result.now c.inputs.ensures.value c.rules-rules.ensures.value) c.loop-rule-test.false c.loop-rule.invariant
