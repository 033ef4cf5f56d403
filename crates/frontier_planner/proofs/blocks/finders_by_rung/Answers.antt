use Rattle.std.proofs.Common.{arith}
use Rattle.std.proofs.lemmas.List.{length_push}
use Rattle.frontier_planner.proofs.Passed.{finders_more}
use Rattle.frontier_planner.proofs.blocks.finders_by_rung.Goals as goal

pub loop-chain-preserved : goal.loop-chain-preserved
loop-chain-preserved c =
    let finders = c.loop-chain.finders.items in
    let long = length_push finders c.in_ok-finder_of.field-0 in
    rw c.in_ok-push.ensures.items (record {
      count = omega (arith, long, c.loop-chain.invariant.count);
      each = finders_more c.args.chains.now finders c.loop-chain.chain-index c.chain-item.result c.deref.result.now c.in_ok-finder_of.field-0 c.loop-chain-test.true c.loop-chain.invariant.count c.chain-item.is c.deref.ensures.value c.in_ok-finder_of.ensures c.loop-chain.invariant.each;
    })
