use Rattle.std.proofs.Common.{◌≡◌, ◌∙◌, true, false, cond, Some, None, refl, sym, ap, subst, arith}
use Rattle.lab_model.specs.declared.label.Label.{Label}
use Rattle.label_arena.specs.Chains.{Holdings, Stands, StandsSealed, empty_holdings, same_node, standing, with_added, with_raised, with_seal}
use Rattle.label_arena.specs.declared.node.NodeId.{NodeId}
use Rattle.label_arena.proofs.tests.parents_stand_in_sealed_chains.Goals as goal

-- what the arena holds before the second node is raised
abbrev before : NodeId → Label → NodeId → Label → Holdings
before a l b m = with_added 1 None (standing b m None) (with_seal 0 (with_added 0 None (standing a l None) (empty_holdings 2 3)))

-- and then
abbrev after : NodeId → Label → NodeId → Label → Label → Holdings
after a l b m n = with_raised 1 (standing b n (Some a)) (before a l b m)

sealed_there : (a b : NodeId) (l m : Label) → StandsSealed (before a l b m) a
sealed_there a b l m = (0, refl, (0, omega arith, refl))

first_there : (a b : NodeId) (l m n : Label) → Stands (after a l b m n) a
first_there a b l m n = (0, (0, omega arith, refl))

second_there : (a b : NodeId) (l m n : Label) → Stands (after a l b m n) b
second_there a b l m n =
    (1, (0, omega arith, elim (same_node b b) as (λ t. (cond t (standing b n (Some a)) (standing b m None)).node ≡ b) [ true ↦ refl | false ↦ refl ]))

pub raise-requires-clause-parent : goal.raise-requires-clause-parent
raise-requires-clause-parent g c =
    let a = c.add-a.result in
    let b = c.add-b.result in
    let old = c.add-b.ensures.added
    ∙ ap (with_added 1 None (standing b c.label-2.result None)) (c.seal.ensures ∙ ap (with_seal 0) (c.add-a.ensures.added ∙ ap (with_added 0 None (standing a c.label.result None)) c.in_ok-arena.ensures)) in
    subst (λ (x : Holdings). StandsSealed x a) (sym old) (sealed_there a b c.label.result c.label-2.result)

pub label-requires-4 : goal.label-requires-4
label-requires-4 g c =
    let a = c.add-a.result in
    let b = c.add-b.result in
    let old = c.add-b.ensures.added
    ∙ ap (with_added 1 None (standing b c.label-2.result None)) (c.seal.ensures ∙ ap (with_seal 0) (c.add-a.ensures.added ∙ ap (with_added 0 None (standing a c.label.result None)) c.in_ok-arena.ensures)) in
    let now = c.raise.ensures ∙ ap (with_raised 1 (standing b c.label-3.result (Some a))) old in
    subst (λ (x : Holdings). Stands x b) (sym now) (second_there a b c.label.result c.label-2.result c.label-3.result)

pub parent-requires : goal.parent-requires
parent-requires g c =
    let a = c.add-a.result in
    let b = c.add-b.result in
    let old = c.add-b.ensures.added
    ∙ ap (with_added 1 None (standing b c.label-2.result None)) (c.seal.ensures ∙ ap (with_seal 0) (c.add-a.ensures.added ∙ ap (with_added 0 None (standing a c.label.result None)) c.in_ok-arena.ensures)) in
    let now = c.raise.ensures ∙ ap (with_raised 1 (standing b c.label-3.result (Some a))) old in
    subst (λ (x : Holdings). Stands x b) (sym now) (second_there a b c.label.result c.label-2.result c.label-3.result)

pub parent-requires-2 : goal.parent-requires-2
parent-requires-2 g c =
    let a = c.add-a.result in
    let b = c.add-b.result in
    let old = c.add-b.ensures.added
    ∙ ap (with_added 1 None (standing b c.label-2.result None)) (c.seal.ensures ∙ ap (with_seal 0) (c.add-a.ensures.added ∙ ap (with_added 0 None (standing a c.label.result None)) c.in_ok-arena.ensures)) in
    let now = c.raise.ensures ∙ ap (with_raised 1 (standing b c.label-3.result (Some a))) old in
    subst (λ (x : Holdings). Stands x a) (sym now) (first_there a b c.label.result c.label-2.result c.label-3.result)
