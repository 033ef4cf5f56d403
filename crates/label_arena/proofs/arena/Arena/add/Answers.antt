use Rattle.std.proofs.Common.{ℕ, ◌-◌, ◌<◌, ◌∙◌, List, Option, Some, length, set, sym, ap, subst, length-set}
use Rattle.std.specs.Prelude.{IfSome}
use Rattle.label_arena.specs.Chains.{HasParent, Holdings, IsOpen, Stands, StandsAfter, standing, with_added}
use Rattle.label_arena.specs.Links.{IsArena, heads_linked, link_behind, node_at, nodes_linked}
use Rattle.label_arena.specs.declared.node.Head.{Head}
use Rattle.label_arena.specs.declared.node.Node.{Node}
use Rattle.label_arena.specs.declared.node.NodeId.{NodeId}
use Rattle.label_arena.proofs.Kept.{holds_then, is_new, place_within, same_arena, same_holdings, stands_then}
use Rattle.label_arena.proofs.arena.Arena.add.Goals as goal

pub link_behind-next-requires-clause-after : goal.link_behind-next-requires-clause-after
link_behind-next-requires-clause-after c =
    let s = c.self.inside in
    let place = subst (λ (a : Holdings). StandsAfter a c.args.chain c.args.after) (sym c.self.view_is) c.requires.after in
    subst (λ (ns : List Node). IfSome c.args.after (λ (k : NodeId). k.0 < length ns)) (sym c.deref.ensures.value)
    (place_within s.nodes.items s.heads.items s.free s.spare c.self.invariant c.args.chain c.args.after place)

pub set_link-requires-clause-after : goal.set_link-requires-clause-after
set_link-requires-clause-after c =
    let s = c.self.inside in
    let place = subst (λ (a : Holdings). StandsAfter a c.args.chain c.args.after) (sym c.self.view_is) c.requires.after in
    let held : Node = record { label = c.args.label; next = c.link_behind-next.result; parent = c.args.parent } in
    subst (λ (n : ℕ). IfSome c.args.after (λ (k : NodeId). k.0 < n)) (sym (length-set s.nodes.items c.in-Some.node.0 held))
    (place_within s.nodes.items s.heads.items s.free s.spare c.self.invariant c.args.chain c.args.after place)

pub invariant_of-self : goal.invariant_of-self
invariant_of-self c =
    let s = c.self.inside in
    let f = c.in-Some.node in
    let o = subst (λ (a : Holdings). IsOpen a c.args.chain) (sym c.self.view_is) c.requires.chain in
    let place = subst (λ (a : Holdings). StandsAfter a c.args.chain c.args.after) (sym c.self.view_is) c.requires.after in
    let fits = subst (λ (a : Holdings). HasParent a c.args.parent) (sym c.self.view_is) c.requires.parent in
    let arena = subst (λ (x : Option NodeId). IsArena s.nodes.items s.heads.items x s.spare) c.in-Some.is c.self.invariant in
    let held : Node = record { label = c.args.label; next = c.link_behind-next.result; parent = c.args.parent } in
    let next = c.link_behind-next.ensures
    ∙ (ap (λ (ns : List Node). link_behind ns c.deref-2.result.now c.args.chain c.args.after) c.deref.ensures.value
    ∙ ap (λ (hs : List Head). link_behind s.nodes.items hs c.args.chain c.args.after) c.deref-2.ensures.value) in
    let rest = ap (λ (y : Node). y.next) (c.node_at.ensures ∙ ap (λ (ns : List Node). node_at ns f) c.deref-3.ensures.value) in
    same_arena c.set_link.new.nodes.items (nodes_linked c.args.after (Some f) (set s.nodes.items f.0 held)) c.set_link.new.heads.items (heads_linked c.args.chain c.args.after (Some f) s.heads.items)
    c.node_at.result.next (node_at s.nodes.items f).next (s.spare - 1) c.set_link.ensures.nodes c.set_link.ensures.heads rest
    (stands_then s.nodes.items s.heads.items f s.spare arena c.args.chain o c.args.after place held next fits)

pub returns-clause-added : goal.returns-clause-added
returns-clause-added c =
    let s = c.self.inside in
    let f = c.in-Some.node in
    let o = subst (λ (a : Holdings). IsOpen a c.args.chain) (sym c.self.view_is) c.requires.chain in
    let place = subst (λ (a : Holdings). StandsAfter a c.args.chain c.args.after) (sym c.self.view_is) c.requires.after in
    let fits = subst (λ (a : Holdings). HasParent a c.args.parent) (sym c.self.view_is) c.requires.parent in
    let arena = subst (λ (x : Option NodeId). IsArena s.nodes.items s.heads.items x s.spare) c.in-Some.is c.self.invariant in
    let held : Node = record { label = c.args.label; next = c.link_behind-next.result; parent = c.args.parent } in
    let next = c.link_behind-next.ensures
    ∙ (ap (λ (ns : List Node). link_behind ns c.deref-2.result.now c.args.chain c.args.after) c.deref.ensures.value
    ∙ ap (λ (hs : List Head). link_behind s.nodes.items hs c.args.chain c.args.after) c.deref-2.ensures.value) in
    same_holdings c.set_link.new.nodes.items (nodes_linked c.args.after (Some f) (set s.nodes.items f.0 held)) c.set_link.new.heads.items (heads_linked c.args.chain c.args.after (Some f) s.heads.items)
    (s.spare - 1) c.set_link.ensures.nodes c.set_link.ensures.heads
    ∙ (holds_then s.nodes.items s.heads.items f s.spare arena c.args.chain o c.args.after place held next fits
    ∙ ap (with_added c.args.chain c.args.after (standing f c.args.label c.args.parent)) c.self.view_is)

pub returns-clause-fresh : goal.returns-clause-fresh
returns-clause-fresh c =
    let s = c.self.inside in
    let f = c.in-Some.node in
    let o = subst (λ (a : Holdings). IsOpen a c.args.chain) (sym c.self.view_is) c.requires.chain in
    let arena = subst (λ (x : Option NodeId). IsArena s.nodes.items s.heads.items x s.spare) c.in-Some.is c.self.invariant in
    λ h. is_new s.nodes.items s.heads.items f s.spare arena c.args.chain o (subst (λ (a : Holdings). Stands a f) (sym c.self.view_is) h)
