use Rattle.std.proofs.Common.{◌-◌, ◌∙◌, List, Option, Some, sym, ap}
use Rattle.label_arena.specs.Links.{free_after, node_of, nodes_linked}
use Rattle.label_arena.specs.declared.node.Node.{Node}
use Rattle.label_arena.specs.declared.node.NodeId.{NodeId}
use Rattle.label_arena.proofs.Room.{free_more, nodes_more}
use Rattle.label_arena.proofs.links.string.Goals as goal

pub loop-place-preserved : goal.loop-place-preserved
loop-place-preserved c =
    let l = c.loop-place in
    let from = c.args.from in
    let list = c.args.list in
    record {
      nodes = c.set_next.ensures
          ∙ (ap (λ (o : Option NodeId). nodes_linked (Some (node_of l.place)) o l.nodes.items) l.invariant.first
          ∙ (ap (λ (ns : List Node). nodes_linked (Some (node_of l.place)) (free_after from (l.place - from) list) ns) l.invariant.nodes
          ∙ sym (nodes_more c.args.nodes.now.items from l.place list l.auto.place)));
      first = sym (free_more from l.place list l.auto.place);
    }
