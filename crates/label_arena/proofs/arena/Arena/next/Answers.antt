use Rattle.std.proofs.Common.{◌<◌, ◌∙◌, List, Option, length, sym, ap, subst}
use Rattle.label_arena.specs.Chains.{HasNext, Holdings, Stands}
use Rattle.label_arena.specs.Links.{holdings, node_at}
use Rattle.label_arena.specs.declared.node.Node.{Node}
use Rattle.label_arena.specs.declared.node.NodeId.{NodeId}
use Rattle.label_arena.proofs.Kept.{next_read, stands_within}
use Rattle.label_arena.proofs.arena.Arena.next.Goals as goal

pub node_at-requires : goal.node_at-requires
node_at-requires c =
    let s = c.self.inside in
    let k = c.args.node in
    let at = subst (λ (a : Holdings). Stands a k) (sym c.self.view_is) c.requires in
    subst (λ (ns : List Node). k.0 < length ns) (sym c.deref.ensures.value) (stands_within s.nodes.items s.heads.items s.free s.spare c.self.invariant at.0 k at.1)

pub returns : goal.returns
returns c =
    let s = c.self.inside in
    let k = c.args.node in
    let e = ap (λ (y : Node). y.next) (c.node_at.ensures ∙ ap (λ (ns : List Node). node_at ns k) c.deref.ensures.value) in
    subst (λ (a : Holdings). HasNext a k c.node_at.result.next) c.self.view_is
    (subst (λ (x : Option NodeId). HasNext (holdings s.nodes.items s.heads.items s.spare) k x) (sym e) (next_read s.nodes.items s.heads.items s.free s.spare c.self.invariant k))
