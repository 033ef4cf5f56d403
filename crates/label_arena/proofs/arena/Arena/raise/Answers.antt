use Rattle.std.proofs.Common.{◌<◌, ◌∙◌, List, length, sym, ap, subst, arith}
use Rattle.label_arena.specs.Chains.{HasParent, Holdings, IsOpen, StandsIn, standing, with_raised}
use Rattle.label_arena.specs.Links.{node_at}
use Rattle.label_arena.specs.declared.node.Node.{Node}
use Rattle.label_arena.proofs.Kept.{holds_changed, stands_changed, stands_within}
use Rattle.label_arena.proofs.arena.Arena.raise.Goals as goal

pub node_at-held-requires : goal.node_at-held-requires
node_at-held-requires c =
    let s = c.self.inside in
    let k = c.args.node in
    let at = subst (λ (a : Holdings). StandsIn a c.args.chain k) (sym c.self.view_is) c.requires.node in
    subst (λ (ns : List Node). k.0 < length ns) (sym c.deref.ensures.value) (stands_within s.nodes.items s.heads.items s.free s.spare c.self.invariant c.args.chain k at)

pub index_mut-requires : goal.index_mut-requires
index_mut-requires c =
    let s = c.self.inside in
    let k = c.args.node in
    let at = subst (λ (a : Holdings). StandsIn a c.args.chain k) (sym c.self.view_is) c.requires.node in
    let within = stands_within s.nodes.items s.heads.items s.free s.spare c.self.invariant c.args.chain k at in
    omega (arith, within, s.nodes.ok.0)

pub invariant_of-self : goal.invariant_of-self
invariant_of-self c =
    let s = c.self.inside in
    let k = c.args.node in
    let o = subst (λ (a : Holdings). IsOpen a c.args.chain) (sym c.self.view_is) c.requires.chain in
    let at = subst (λ (a : Holdings). StandsIn a c.args.chain k) (sym c.self.view_is) c.requires.node in
    let fits = subst (λ (a : Holdings). HasParent a c.args.parent) (sym c.self.view_is) c.requires.parent in
    let held : Node = record { label = c.args.label; next = c.node_at-held.result.next; parent = c.args.parent } in
    let next = ap (λ (y : Node). y.next) (c.node_at-held.ensures ∙ ap (λ (ns : List Node). node_at ns k) c.deref.ensures.value) in
    stands_changed s.nodes.items s.heads.items s.free s.spare c.self.invariant c.args.chain o k held at next fits

pub returns : goal.returns
returns c =
    let s = c.self.inside in
    let k = c.args.node in
    let o = subst (λ (a : Holdings). IsOpen a c.args.chain) (sym c.self.view_is) c.requires.chain in
    let at = subst (λ (a : Holdings). StandsIn a c.args.chain k) (sym c.self.view_is) c.requires.node in
    let fits = subst (λ (a : Holdings). HasParent a c.args.parent) (sym c.self.view_is) c.requires.parent in
    let held : Node = record { label = c.args.label; next = c.node_at-held.result.next; parent = c.args.parent } in
    let next = ap (λ (y : Node). y.next) (c.node_at-held.ensures ∙ ap (λ (ns : List Node). node_at ns k) c.deref.ensures.value) in
    holds_changed s.nodes.items s.heads.items s.free s.spare c.self.invariant c.args.chain o k held at next fits
    ∙ ap (with_raised c.args.chain (standing k c.args.label c.args.parent)) c.self.view_is
