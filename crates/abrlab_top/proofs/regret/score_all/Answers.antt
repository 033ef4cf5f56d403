use Rattle.abrlab_top.proofs.Regrets.{ranking_gives}
use Rattle.abrlab_top.proofs.regret.score_all.Goals as goal

pub returns : goal.returns
returns c = ranking_gives c.args.inputs.now c.args.budget c.new.result c.score_networks.result c.new.ensures c.score_networks.ensures
