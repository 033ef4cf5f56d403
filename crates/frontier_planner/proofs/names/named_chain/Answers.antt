use Rattle.std.proofs.Common.{◌∙◌, ap, arith}
use Rattle.frontier_planner.proofs.Naming.{chain_is, named_no, named_yes, rung_inside}
use Rattle.frontier_planner.proofs.names.named_chain.Goals as goal
use Rattle.frontier_planner.proofs.names.named_chain.Goals.{then-segment-segments+in_ok-names, else-segment-segments}

pub index-requires : goal.index-requires
index-requires c =
    let d = c.args.brief.now.grid in
    let g = c.args.brief.now.scene in
    let h = c.requires.layers in
    let layers = c.args.layers.now in
    rung_inside d g layers h c.args.segment c.args.rung c.index-layers-segment.result c.requires.segment c.requires.rung

pub returns : goal.returns
returns c =
    let d = c.args.brief.now.grid in
    let g = c.args.brief.now.scene in
    let h = c.requires.layers in
    let layers = c.args.layers.now in
    let is = c.in_ok-labels.ensures.items ∙ c.deref.ensures.value ∙ chain_is d g layers h c.args.segment c.args.rung c.index-layers-segment.result c.index.result.now c.requires.segment c.requires.rung c.index.ensures in
    let count = c.segments.ensures.value in
    elim c.if-segment-segments.branch [
      | then-segment-segments+in_ok-names w ↦
          let low = w.if-segment-segments.true in
          named_yes d g c.args.segment c.args.rung c.in_ok-labels.labels.items c.if-segment-segments.names.items (omega (arith, low, count)) is (ap (λ v. v.items) w.names-is ∙ w.in_ok-names.ensures)
      | else-segment-segments w ↦
          let late = w.if-segment-segments.false in
          named_no d g c.args.segment c.args.rung c.in_ok-labels.labels.items c.if-segment-segments.names.items (omega (arith, late, count)) is (ap (λ v. v.items) w.names-is ∙ w.new-names.ensures.items)
    ]
