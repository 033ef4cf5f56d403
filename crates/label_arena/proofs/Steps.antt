-- Walking along links, step by step.
use Rattle.std.proofs.Common.{◌≡◌, ◌<◌, List, [], ◌∷◌, None, Some, length, map, sym, ◌∙◌, ap, subst, arith}
use Rattle.label_arena.specs.Chains.{steps_of}
use Rattle.label_arena.specs.Links.{IsLinked, Links, ids_from, node_at, standing_at, steps_from}
use Rattle.label_arena.specs.declared.node.Node.{Node}
use Rattle.label_arena.specs.declared.node.NodeId.{NodeId}
use Rattle.label_arena.proofs.Kept.{none_within}
use Rattle.label_arena.proofs.Walks.{first_counted, length_within, linked_within, links_parts, within_is}

-- a walk that leads along nothing
pub no_steps : (nodes : List Node) → steps_from nodes None ≡ []
no_steps nodes = ap (λ (is : List NodeId). steps_of (map (standing_at nodes) is)) (none_within (length nodes) nodes)

-- links that end lead along a node and then along links that end
pub linked_parts : (nodes : List Node) (k : NodeId) → IsLinked nodes (Some k) → (k.0 < length nodes) × (ids_from nodes (Some k) ≡ k ∷ ids_from nodes (node_at nodes k).next) × IsLinked nodes (node_at nodes k).next
linked_parts nodes k p =
    let ids : List NodeId = ids_from nodes (Some k) in
    let parts = links_parts nodes k ids p in
    let most = length_within (length nodes) nodes (Some k) in
    let all = ap (λ (is : List NodeId). length is) parts.1 in
    let same : ids_from nodes (node_at nodes k).next ≡ parts.0 = within_is (length nodes) nodes (node_at nodes k).next parts.0 parts.2 (omega (arith, most, all)) in (
      linked_within nodes (Some k) ids k.0 p (first_counted nodes k ids p),
      parts.1 ∙ ap (λ (is : List NodeId). k ∷ is) (sym same),
      subst (λ (is : List NodeId). Links nodes (node_at nodes k).next is) (sym same) parts.2,
    )

-- a walk gives a node and its label, and then those that the node leads on to
pub steps_on : (nodes : List Node) (k : NodeId) → IsLinked nodes (Some k) → steps_from nodes (Some k) ≡ record { node = k; label = (node_at nodes k).label } ∷ steps_from nodes (node_at nodes k).next
steps_on nodes k p = ap (λ (is : List NodeId). steps_of (map (standing_at nodes) is)) (linked_parts nodes k p).1
