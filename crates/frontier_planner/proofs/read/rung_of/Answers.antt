use Rattle.std.proofs.Common.{◌*◌, arith}
use Rattle.lab_model.specs.Film.{rungs_of}
use Rattle.frontier_planner.proofs.Reading.{none_more}
use Rattle.frontier_planner.proofs.read.rung_of.Goals as goal

pub loop-rung-preserved : goal.loop-rung-preserved
loop-rung-preserved c =
    none_more c.args.arena.now (c.args.segment * rungs_of c.args.brief.now.scene.film) c.loop-rung.rung c.chain_of.result c.args.node c.holds.result c.loop-rung.invariant c.chain_of.ensures.value c.holds.ensures c.if-holds.false

pub unreachable-requires : goal.unreachable-requires
unreachable-requires c =
    let t = c.requires.there in
    let all = c.rungs-rung-end.ensures.value in
    let end = c.loop-rung-test.false in
    let rung = t.1 in
    c.loop-rung.invariant t.0 (omega (arith, all, end, rung)) t.2
