use Rattle.std.proofs.Common.{arith, rules}
use mir.Val.{SFits, of_z, to_z}
use Rattle.std.specs.Int.{w128}
use Rattle.std.proofs.lemmas.Int.{ints, to_z-of_z}
use Rattle.abrlab_top.proofs.MadeCase.{plan_put}
use Rattle.abrlab_top.proofs.demo.put_plan.Goals as goal

pub returns : goal.returns
returns g c =
    let small : SFits w128 c.args.score = search rules in
    plan_put c.args.score (to_z w128 (of_z w128 c.args.score)) (to_z w128 c.args.labels) c.args.labels _ _ _ (to_z-of_z w128 c.args.score small) (omega (arith, ints)) c.put_fields.ensures
