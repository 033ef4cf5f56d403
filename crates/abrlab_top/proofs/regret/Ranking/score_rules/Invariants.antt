use Rattle.std.proofs.Common.{◌≡◌, map, take}
use Rattle.lab_io.specs.Sink.{Text}
use Rattle.lab_model.specs.Rules.{RuleKind}
use Rattle.lab_words.specs.Command.{named}
use Rattle.abrlab_top.specs.Regret.{score_on}
use Rattle.abrlab_top.proofs.regret.Ranking.score_rules.Given as goal

-- the scores of the rules so far
abbrev pub invariant-loop-rule : goal.invariant-loop-rule
invariant-loop-rule l = l.scores.items ≡ map (λ (r : Text × RuleKind). score_on l.fn.self.inputs l.fn.clock r.1) (map named (take l.rule-index l.rules))
