use Rattle.std.proofs.Common.{◌∙◌, ◌++◌, ap, sym}
use Rattle.frontier_planner.specs.Layers.{chains_read}
use Rattle.labels.proofs.Counted.{list_pushed}
use Rattle.frontier_planner.proofs.names.chains.Goals as goal

pub loop-segment-preserved : goal.loop-segment-preserved
loop-segment-preserved c =
    let g = c.args.brief.now.scene in
    c.in_ok-add_named.ensures ∙ ap (λ cs. cs ++ chains_read c.args.brief.now.grid g c.loop-segment.segment) c.loop-segment.invariant ∙ sym (list_pushed (λ i. chains_read c.args.brief.now.grid g i) c.loop-segment.segment)
