use Rattle.std.proofs.Common.{◌∙◌, ◌∷◌, [], map, ap}
use Rattle.std.proofs.lemmas.List.{map-append}
use Rattle.lab_words.specs.Command.{named}
use Rattle.lab_words.proofs.RuleLemmas.{rules_more}
use Rattle.lab_words.proofs.rules.named_rules.Goals as goal

pub loop-text-preserved : goal.loop-text-preserved
loop-text-preserved c =
    let front = c.loop-text.rules.items in
    let one = c.in_ok-named_rule.field-0 in
    let more = ap (map named) c.in_ok-push.ensures.items ∙ map-append named front (one ∷ []) in
    rw more (rules_more c.args.texts.now c.loop-text.text-index _ (map named front) (named one) c.loop-text-test.true c.in_ok-named_rule.ensures) ∙ c.loop-text.invariant
