use Rattle.lab_model.specs.Bola.{bola_at_most}
use Rattle.bola_rule.proofs.Leader.{IsLeader}
use Rattle.bola_rule.proofs.Ask.best.Given as goal

abbrev pub invariant-loop-rung : goal.invariant-loop-rung
invariant-loop-rung l = IsLeader (bola_at_most l.self.g l.self.film l.self.setup l.self.context) l.rung l.best
