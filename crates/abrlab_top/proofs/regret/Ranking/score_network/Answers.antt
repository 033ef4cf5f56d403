use Rattle.std.proofs.Common.{rules, subst, sym}
use mir.Val.{of_z, to_z}
use Rattle.std.specs.Int.{w128}
use Rattle.std.proofs.lemmas.Int.{to_z-of_z}
use Rattle.lab_inputs.specs.Stages.{network_of}
use Rattle.abrlab_top.specs.Regret.{IsTop}
use Rattle.abrlab_top.proofs.Regrets.{network_scored, unspent_failed, unspent_wanting}
use Rattle.abrlab_top.proofs.regret.Ranking.score_network.Goals as goal

pub returns-in_err-clock : goal.returns-in_err-clock
returns-in_err-clock c = unspent_wanting _ _ c.from_residual.result c.from_residual.ensures.1

pub returns-in_err-top : goal.returns-in_err-top
returns-in_err-top c =
    unspent_failed _ _ _ c.top.result c.from_residual-in_err-top.result _ c.in_err-top.was c.from_residual-in_err-top.ensures.1 (rw c.in_ok-clock.ensures.clock at c.top.ensures.top)

pub returns-in_err-scores : goal.returns-in_err-scores
returns-in_err-scores c = unspent_wanting _ _ c.from_residual-in_err-scores.result c.from_residual-in_err-scores.ensures.1

pub returns : goal.returns
returns c =
    let top = c.in_ok-top.ensures.top in
    let same = to_z-of_z w128 c.in_ok-top.top (search rules) in
    let all = network_scored c.args.self.now.inputs c.args.self.now.budget (network_of c.args.network.now) c.in_ok-clock.clock
    (record { top = to_z w128 (of_z w128 c.in_ok-top.top); scores = c.in_ok-scores.scores })
    c.in_ok-clock.ensures.clock c.top.ensures.can c.top.ensures.task (subst (IsTop c.args.self.now.inputs c.args.self.now.budget c.in_ok-clock.clock) (sym same) top.1) c.in_ok-scores.ensures
    in
    (rw c.in_ok-clock.ensures.clock at top.0, all)
