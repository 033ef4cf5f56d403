use Rattle.std.proofs.Common.{◌+◌, ◌-◌, ◌≤◌, ◌∙◌, ◌++◌, length, refl, sym, ap, subst}
use Rattle.std.specs.Prelude.{replicate}
use Rattle.label_arena.specs.Chains.{Holdings, node_count, with_room}
use Rattle.label_arena.specs.Links.{blank, free_after, nodes_strung}
use Rattle.label_arena.proofs.Kept.{same_arena, same_holdings}
use Rattle.label_arena.proofs.Room.{free_built, holds_wide, nodes_built, stands_wide}
use Rattle.label_arena.proofs.arena.Arena.make_room.Goals as goal

pub invariant_of-self-2 : goal.invariant_of-self-2
invariant_of-self-2 c =
    let s = c.self.inside in
    let n = c.args.n in
    let from = c.len-from.ensures ∙ s.nodes.ok.0 in
    let longer = c.in_ok-lengthen.ensures.ok in
    let few = subst (λ (a : Holdings). node_count a + n ≤ 4000000) (sym c.self.view_is) c.requires in
    same_arena c.string-self-inside.new.nodes.items (nodes_strung (length s.nodes.items) (n - s.spare) s.free (s.nodes.items ++ replicate (n - s.spare) blank))
    s.heads.items s.heads.items c.string-self-inside.result (free_after (length s.nodes.items) (n - s.spare) s.free) n
    (c.string-self-inside.ensures.nodes ∙ nodes_built s.nodes.items c.lengthen.new.nodes.items s.free c.len-from.result (n - s.spare) longer from) refl
    (c.string-self-inside.ensures.first ∙ free_built s.nodes.items c.lengthen.new.nodes.items s.free c.len-from.result (n - s.spare) longer from)
    (stands_wide s.nodes.items s.heads.items s.free s.spare c.self.invariant n c.if-n-self.false few)

pub returns-clause-ok : goal.returns-clause-ok
returns-clause-ok c =
    let s = c.self.inside in
    let n = c.args.n in
    let from = c.len-from.ensures ∙ s.nodes.ok.0 in
    let longer = c.in_ok-lengthen.ensures.ok in
    same_holdings c.string-self-inside.new.nodes.items (nodes_strung (length s.nodes.items) (n - s.spare) s.free (s.nodes.items ++ replicate (n - s.spare) blank))
    s.heads.items s.heads.items n
    (c.string-self-inside.ensures.nodes ∙ nodes_built s.nodes.items c.lengthen.new.nodes.items s.free c.len-from.result (n - s.spare) longer from) refl
    ∙ (holds_wide s.nodes.items s.heads.items s.free s.spare c.self.invariant n c.if-n-self.false ∙ ap (with_room n) c.self.view_is)
