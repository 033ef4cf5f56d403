use Rattle.std.proofs.Common.{◌≡◌, map, drop}
use Rattle.lab_words.specs.Command.{named}
use Rattle.lab_words.specs.Rules.{named_rules}
use Rattle.lab_words.proofs.RuleLemmas.{with_rules}
use Rattle.lab_words.proofs.rules.named_rules.Given as goal

abbrev pub invariant-loop-text : goal.invariant-loop-text
invariant-loop-text l = with_rules (map named l.rules.items) (named_rules (map (λ text. text.now) (drop l.text-index l.texts))) ≡ named_rules (map (λ text. text.now) l.texts)
