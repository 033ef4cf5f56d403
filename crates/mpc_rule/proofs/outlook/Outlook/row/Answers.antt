use Rattle.std.proofs.Common.{◌<◌, ◌∙◌, length, length-set, arith}
use Rattle.mpc_rule.specs.Search.{IsForetold}
use Rattle.mpc_rule.proofs.Places.{filled_more}
use Rattle.mpc_rule.proofs.outlook.Outlook.row.Goals as goal

pub loop-rung-preserved : goal.loop-rung-preserved
loop-rung-preserved c =
    let room : c.loop-rung.rung < length c.loop-rung.row = omega arith in
    record {
      places = length-set c.loop-rung.row c.loop-rung.rung c.foretold.result ∙ c.loop-rung.invariant.places;
      filled = filled_more (IsForetold c.args.self.now c.args.seg) c.loop-rung.row c.loop-rung.rung c.foretold.result room c.loop-rung.invariant.filled c.foretold.ensures;
    }
