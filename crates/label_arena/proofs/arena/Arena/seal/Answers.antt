use Rattle.std.proofs.Common.{◌∙◌, refl, sym, ap, subst}
use Rattle.label_arena.specs.Chains.{Holdings, IsOpen, with_seal}
use Rattle.label_arena.specs.Links.{heads_sealed}
use Rattle.label_arena.proofs.Kept.{holds_sealed, same_arena, same_holdings, stands_sealed}
use Rattle.label_arena.proofs.arena.Arena.seal.Goals as goal

pub invariant_of-self : goal.invariant_of-self
invariant_of-self c =
    let s = c.self.inside in
    let o = subst (λ (a : Holdings). IsOpen a c.args.chain) (sym c.self.view_is) c.requires in
    same_arena s.nodes.items s.nodes.items c.seal_head.new.heads.items (heads_sealed c.args.chain s.heads.items) s.free s.free s.spare refl c.seal_head.ensures refl
    (stands_sealed s.nodes.items s.heads.items s.free s.spare c.self.invariant c.args.chain o)

pub returns : goal.returns
returns c =
    let s = c.self.inside in
    let o = subst (λ (a : Holdings). IsOpen a c.args.chain) (sym c.self.view_is) c.requires in
    same_holdings s.nodes.items s.nodes.items c.seal_head.new.heads.items (heads_sealed c.args.chain s.heads.items) s.spare refl c.seal_head.ensures
    ∙ (holds_sealed s.nodes.items s.heads.items s.free s.spare c.self.invariant c.args.chain o ∙ ap (with_seal c.args.chain) c.self.view_is)
