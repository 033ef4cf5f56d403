use Rattle.std.proofs.Common.{◌∙◌, ◌∷◌, [], ap, map}
use Rattle.std.proofs.lemmas.List.{map-append}
use Rattle.frontier_planner.specs.Layers.{chain_read}
use Rattle.labels.specs.Parts.{chain_parts}
use Rattle.labels.proofs.Counted.{rung_pushed}
use Rattle.frontier_planner.proofs.names.add_named.Goals as goal

pub loop-rung-preserved : goal.loop-rung-preserved
loop-rung-preserved c =
    let g = c.args.brief.now.scene in
    ap (map chain_parts) c.in_ok-push.ensures.items ∙ map-append chain_parts c.loop-rung.chains.items (c.in_ok-chain.chain ∷ [])
    ∙ rung_pushed (map chain_parts c.args.chains.now.items) (map chain_parts c.loop-rung.chains.items) (λ q. chain_read c.args.brief.now.grid g c.args.segment q) c.loop-rung.rung (chain_parts c.in_ok-chain.chain) c.loop-rung.invariant c.in_ok-chain.ensures
