use Rattle.std.proofs.Common.{◌∙◌, ◌/◌, sym, subst}
use Rattle.std.proofs.lemmas.Bool.{false≢true}
use Rattle.frontier_planner.specs.declared.staircase.Staircase.{Staircase}
use Rattle.frontier_planner.specs.Staircase.{IsRising}
use Rattle.frontier_planner.specs.Sweep.{HasUnder}
use Rattle.frontier_planner.proofs.Passed.{block_inside, block_passed}
use Rattle.frontier_planner.proofs.blocks.pass_blocks.Goals as goal

pub covers-requires : goal.covers-requires
covers-requires c =
    let level = c.args.level.now in
    let place = c.loop-place.place in
    subst (λ (s : Staircase). IsRising s.steps.items) (sym c.index.ensures)
    (c.requires.level.rising (place / level.size) c.index.result.now (block_inside c.args.chain.now level place c.requires.level c.loop-place-test.true))

pub loop-place-preserved : goal.loop-place-preserved
loop-place-preserved c =
    block_passed c.args.chain.now c.args.level.now c.loop-place.place c.index.result.now c.args.l c.requires.level c.loop-place-test.true c.loop-place.invariant
    (λ under. false≢true (sym c.if-covers.false ∙ c.covers.ensures.1 (subst (λ (s : Staircase). HasUnder s.steps.items c.args.l.p c.args.l.v) (sym c.index.ensures) under)))
