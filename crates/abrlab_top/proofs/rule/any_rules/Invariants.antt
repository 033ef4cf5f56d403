use Rattle.std.proofs.Common.{◌≡◌, ◌++◌, [], drop, map}
use Rattle.std.specs.List.{All}
use Rattle.lab_words.specs.declared.NamedRule.{NamedRule}
use Rattle.lab_words.specs.Rules.{spoken}
use Rattle.abrlab_top.specs.Rules.{HasSeen, kind_of}
use Rattle.abrlab_top.proofs.rule.any_rules.Given as goal

-- the rules so far, before those that are left, are the rules; each is told nothing yet
abbrev pub invariant-loop-rule : goal.invariant-loop-rule
invariant-loop-rule l = record {
  kinds : map kind_of l.played.items ++ map (λ (r : NamedRule). spoken r.rule) (drop l.rule-index l.rules) ≡ map (λ (r : NamedRule). spoken r.rule) l.rules;
  told : All (λ r. HasSeen r []) l.played.items;
}
