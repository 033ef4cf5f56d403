use Rattle.std.proofs.Common.{ℕ, ◌+◌, ◌<◌, ◌∙◌, List, Option, Some, length, refl, sym, ap, subst}
use Rattle.std.specs.Prelude.{IfSome}
use Rattle.label_arena.specs.Chains.{Holdings, IsOpen, StandsAfter, chain_at, label_behind, with_dropped}
use Rattle.label_arena.specs.Links.{heads_linked, link_behind, node_at, nodes_linked}
use Rattle.label_arena.specs.declared.node.Head.{Head}
use Rattle.label_arena.specs.declared.node.Node.{Node}
use Rattle.label_arena.specs.declared.node.NodeId.{NodeId}
use Rattle.label_arena.proofs.Kept.{dropped_label, dropped_within, holds_left, length_nodes, none_dropped, none_label, place_within, same_arena, same_holdings, stands_left}
use Rattle.label_arena.proofs.arena.Arena.drop_node.Goals as goal

pub link_behind-requires-clause-after : goal.link_behind-requires-clause-after
link_behind-requires-clause-after c =
    let s = c.self.inside in
    let place = subst (λ (a : Holdings). StandsAfter a c.args.chain c.args.after) (sym c.self.view_is) c.requires.after in
    subst (λ (ns : List Node). IfSome c.args.after (λ (k : NodeId). k.0 < length ns)) (sym c.deref.ensures.value)
    (place_within s.nodes.items s.heads.items s.free s.spare c.self.invariant c.args.chain c.args.after place)

pub returns-in_err-node-clause-label : goal.returns-in_err-node-clause-label
returns-in_err-node-clause-label c =
    let s = c.self.inside in
    let o = subst (λ (a : Holdings). IsOpen a c.args.chain) (sym c.self.view_is) c.requires.chain in
    let place = subst (λ (a : Holdings). StandsAfter a c.args.chain c.args.after) (sym c.self.view_is) c.requires.after in
    let link = sym (c.link_behind.ensures
    ∙ (ap (λ (ns : List Node). link_behind ns c.deref-2.result.now c.args.chain c.args.after) c.deref.ensures.value
    ∙ ap (λ (hs : List Head). link_behind s.nodes.items hs c.args.chain c.args.after) c.deref-2.ensures.value)) in
    c.from_residual.ensures
    ∙ (sym (none_label s.nodes.items s.heads.items s.free s.spare c.self.invariant c.args.chain o c.args.after place (link ∙ c.in_err-node.was))
    ∙ ap (λ (a : Holdings). label_behind c.args.after (chain_at a c.args.chain).nodes) c.self.view_is)

pub returns-in_err-node-clause-dropped : goal.returns-in_err-node-clause-dropped
returns-in_err-node-clause-dropped c =
    let s = c.self.inside in
    let o = subst (λ (a : Holdings). IsOpen a c.args.chain) (sym c.self.view_is) c.requires.chain in
    let place = subst (λ (a : Holdings). StandsAfter a c.args.chain c.args.after) (sym c.self.view_is) c.requires.after in
    let link = sym (c.link_behind.ensures
    ∙ (ap (λ (ns : List Node). link_behind ns c.deref-2.result.now c.args.chain c.args.after) c.deref.ensures.value
    ∙ ap (λ (hs : List Head). link_behind s.nodes.items hs c.args.chain c.args.after) c.deref-2.ensures.value)) in
    sym c.self.view_is
    ∙ (sym (none_dropped s.nodes.items s.heads.items s.free s.spare c.self.invariant c.args.chain o c.args.after place (link ∙ c.in_err-node.was))
    ∙ ap (with_dropped c.args.chain c.args.after) c.self.view_is)

pub node_at-dropped-requires : goal.node_at-dropped-requires
node_at-dropped-requires c =
    let s = c.self.inside in
    let o = subst (λ (a : Holdings). IsOpen a c.args.chain) (sym c.self.view_is) c.requires.chain in
    let place = subst (λ (a : Holdings). StandsAfter a c.args.chain c.args.after) (sym c.self.view_is) c.requires.after in
    let link = sym (c.link_behind.ensures
    ∙ (ap (λ (ns : List Node). link_behind ns c.deref-2.result.now c.args.chain c.args.after) c.deref.ensures.value
    ∙ ap (λ (hs : List Head). link_behind s.nodes.items hs c.args.chain c.args.after) c.deref-2.ensures.value)) in
    let d = c.in_ok-node.node in
    let found = link ∙ c.in_ok-node.was in
    subst (λ (ns : List Node). d.0 < length ns) (sym c.deref-3.ensures.value)
    (dropped_within s.nodes.items s.heads.items s.free s.spare c.self.invariant c.args.chain o c.args.after place d found)

pub set_next-requires : goal.set_next-requires
set_next-requires c =
    let s = c.self.inside in
    let o = subst (λ (a : Holdings). IsOpen a c.args.chain) (sym c.self.view_is) c.requires.chain in
    let place = subst (λ (a : Holdings). StandsAfter a c.args.chain c.args.after) (sym c.self.view_is) c.requires.after in
    let link = sym (c.link_behind.ensures
    ∙ (ap (λ (ns : List Node). link_behind ns c.deref-2.result.now c.args.chain c.args.after) c.deref.ensures.value
    ∙ ap (λ (hs : List Head). link_behind s.nodes.items hs c.args.chain c.args.after) c.deref-2.ensures.value)) in
    let d = c.in_ok-node.node in
    let found = link ∙ c.in_ok-node.was in
    let within = dropped_within s.nodes.items s.heads.items s.free s.spare c.self.invariant c.args.chain o c.args.after place d found in
    subst (λ (n : ℕ). d.0 < n) (sym (ap (λ (ns : List Node). length ns) c.set_link.ensures.nodes ∙ length_nodes s.nodes.items c.args.after c.node_at-dropped.result.next)) within

pub invariant_of-self : goal.invariant_of-self
invariant_of-self c =
    let s = c.self.inside in
    let o = subst (λ (a : Holdings). IsOpen a c.args.chain) (sym c.self.view_is) c.requires.chain in
    let place = subst (λ (a : Holdings). StandsAfter a c.args.chain c.args.after) (sym c.self.view_is) c.requires.after in
    let link = sym (c.link_behind.ensures
    ∙ (ap (λ (ns : List Node). link_behind ns c.deref-2.result.now c.args.chain c.args.after) c.deref.ensures.value
    ∙ ap (λ (hs : List Head). link_behind s.nodes.items hs c.args.chain c.args.after) c.deref-2.ensures.value)) in
    let d = c.in_ok-node.node in
    let found = link ∙ c.in_ok-node.was in
    let to = ap (λ (y : Node). y.next) (c.node_at-dropped.ensures ∙ ap (λ (ns : List Node). node_at ns d) c.deref-3.ensures.value) in
    let nodes = c.set_next.ensures
    ∙ (ap (λ (ns : List Node). nodes_linked (Some d) s.free ns) c.set_link.ensures.nodes
    ∙ ap (λ (x : Option NodeId). nodes_linked (Some d) s.free (nodes_linked c.args.after x s.nodes.items)) to) in
    let heads = c.set_link.ensures.heads ∙ ap (λ (x : Option NodeId). heads_linked c.args.chain c.args.after x s.heads.items) to in
    same_arena c.set_next.new.nodes.items (nodes_linked (Some d) s.free (nodes_linked c.args.after (node_at s.nodes.items d).next s.nodes.items))
    c.set_link.new.heads.items (heads_linked c.args.chain c.args.after (node_at s.nodes.items d).next s.heads.items) (Some d) (Some d) (s.spare + 1) nodes heads refl
    (stands_left s.nodes.items s.heads.items s.free s.spare c.self.invariant c.args.chain o c.args.after place d found)

pub returns-clause-label : goal.returns-clause-label
returns-clause-label c =
    let s = c.self.inside in
    let o = subst (λ (a : Holdings). IsOpen a c.args.chain) (sym c.self.view_is) c.requires.chain in
    let place = subst (λ (a : Holdings). StandsAfter a c.args.chain c.args.after) (sym c.self.view_is) c.requires.after in
    let link = sym (c.link_behind.ensures
    ∙ (ap (λ (ns : List Node). link_behind ns c.deref-2.result.now c.args.chain c.args.after) c.deref.ensures.value
    ∙ ap (λ (hs : List Head). link_behind s.nodes.items hs c.args.chain c.args.after) c.deref-2.ensures.value)) in
    let d = c.in_ok-node.node in
    let found = link ∙ c.in_ok-node.was in
    let held = c.node_at-dropped.ensures ∙ ap (λ (ns : List Node). node_at ns d) c.deref-3.ensures.value in
    ap (λ (y : Node). Some y.label) held
    ∙ (sym (dropped_label s.nodes.items s.heads.items s.free s.spare c.self.invariant c.args.chain o c.args.after place d found)
    ∙ ap (λ (a : Holdings). label_behind c.args.after (chain_at a c.args.chain).nodes) c.self.view_is)

pub returns-clause-dropped : goal.returns-clause-dropped
returns-clause-dropped c =
    let s = c.self.inside in
    let o = subst (λ (a : Holdings). IsOpen a c.args.chain) (sym c.self.view_is) c.requires.chain in
    let place = subst (λ (a : Holdings). StandsAfter a c.args.chain c.args.after) (sym c.self.view_is) c.requires.after in
    let link = sym (c.link_behind.ensures
    ∙ (ap (λ (ns : List Node). link_behind ns c.deref-2.result.now c.args.chain c.args.after) c.deref.ensures.value
    ∙ ap (λ (hs : List Head). link_behind s.nodes.items hs c.args.chain c.args.after) c.deref-2.ensures.value)) in
    let d = c.in_ok-node.node in
    let found = link ∙ c.in_ok-node.was in
    let to = ap (λ (y : Node). y.next) (c.node_at-dropped.ensures ∙ ap (λ (ns : List Node). node_at ns d) c.deref-3.ensures.value) in
    let nodes = c.set_next.ensures
    ∙ (ap (λ (ns : List Node). nodes_linked (Some d) s.free ns) c.set_link.ensures.nodes
    ∙ ap (λ (x : Option NodeId). nodes_linked (Some d) s.free (nodes_linked c.args.after x s.nodes.items)) to) in
    let heads = c.set_link.ensures.heads ∙ ap (λ (x : Option NodeId). heads_linked c.args.chain c.args.after x s.heads.items) to in
    same_holdings c.set_next.new.nodes.items (nodes_linked (Some d) s.free (nodes_linked c.args.after (node_at s.nodes.items d).next s.nodes.items))
    c.set_link.new.heads.items (heads_linked c.args.chain c.args.after (node_at s.nodes.items d).next s.heads.items) (s.spare + 1) nodes heads
    ∙ (holds_left s.nodes.items s.heads.items s.free s.spare c.self.invariant c.args.chain o c.args.after place d found
    ∙ ap (with_dropped c.args.chain c.args.after) c.self.view_is)
