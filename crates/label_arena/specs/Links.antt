-- How an arena holds its chains: nodes linked by index, and the free list.
use Rattle.std.specs.Prelude.{◌≡◌, ℕ, zero, suc, ◌+◌, ◌<◌, ◌≤◌, true, false, pos, List, [], ◌∷◌, Option, None, Some, length, map, slice_index_or, slice_set}
use Rattle.std.specs.List.{sum_by}
use Rattle.label_arena.specs.Chains.{HasParents, Holdings, LinkedChain, Standing, linked_chain, standing, steps_of, times}
use Rattle.label_arena.specs.declared.node.Head.{Head}
use Rattle.label_arena.specs.declared.node.Node.{Node}
use Rattle.label_arena.specs.declared.node.NodeId.{NodeId}
use Rattle.label_arena.specs.declared.walk.Step.{Step}

-- what a node holds that was never in a chain
abbrev pub blank : Node
blank = record { label = record { t = 0; p = 0; v = pos 0 }; next = None; parent = None }

-- the beginning of a chain without nodes
abbrev pub no_head : Head
no_head = record { first = None; sealed = false }

-- what a node holds
abbrev pub node_at : List Node → NodeId → Node
node_at nodes k = slice_index_or nodes k.0 blank

-- a chain's beginning
abbrev pub head_at : List Head → ℕ → Head
head_at heads c = slice_index_or heads c no_head

-- the link at a place of a chain: behind a node, or first
abbrev pub link_behind : List Node → List Head → ℕ → Option NodeId → Option NodeId
link_behind nodes heads c None = (head_at heads c).first
link_behind nodes heads c (Some k) = (node_at nodes k).next

-- the nodes, with a link set behind one
abbrev pub nodes_linked : Option NodeId → Option NodeId → List Node → List Node
nodes_linked None to nodes = nodes
nodes_linked (Some k) to nodes = slice_set nodes k.0 (record (node_at nodes k) { next = to })

-- the beginnings, with the link to the first node of one set
abbrev pub heads_linked : ℕ → Option NodeId → Option NodeId → List Head → List Head
heads_linked c None to heads = slice_set heads c (record (head_at heads c) { first = to })
heads_linked c (Some k) to heads = heads

-- the beginnings, of which one is sealed
abbrev pub heads_sealed : ℕ → List Head → List Head
heads_sealed c heads = slice_set heads c (record (head_at heads c) { sealed = true })

-- the node of a place
abbrev pub node_of : ℕ → NodeId
node_of n = record { 0 = n }

-- where a list begins to which the nodes from a place on, so many, were strung
abbrev pub free_after : ℕ → ℕ → Option NodeId → Option NodeId
free_after from zero list = list
free_after from (suc n) list = Some (node_of (from + n))

-- the nodes, of which those from a place on, so many, were strung to a list
abbrev pub nodes_strung : ℕ → ℕ → Option NodeId → List Node → List Node
nodes_strung from zero list nodes = nodes
nodes_strung from (suc n) list nodes =
    nodes_linked (Some (node_of (from + n))) (free_after from n list) (nodes_strung from n list nodes)

-- the nodes that the links lead along, at most so many
abbrev pub ids_within : ℕ → List Node → Option NodeId → List NodeId
ids_within zero nodes at = []
ids_within (suc n) nodes None = []
ids_within (suc n) nodes (Some k) = k ∷ ids_within n nodes (node_at nodes k).next

-- the nodes that the links lead along
abbrev pub ids_from : List Node → Option NodeId → List NodeId
ids_from nodes at = ids_within (length nodes) nodes at

-- the links lead along just these nodes, and end
abbrev pub Links : List Node → Option NodeId → List NodeId → Type 0
Links nodes None [] = Unit {0}
Links nodes None (i ∷ is) = ⊥
Links nodes (Some k) [] = ⊥
Links nodes (Some k) (i ∷ is) = (k ≡ i) × (k.0 < length nodes) × Links nodes (node_at nodes k).next is

-- the links end
abbrev pub IsLinked : List Node → Option NodeId → Type 0
IsLinked nodes at = Links nodes at (ids_from nodes at)

-- a node with what it holds
abbrev pub standing_at : List Node → NodeId → Standing
standing_at nodes k = standing k (node_at nodes k).label (node_at nodes k).parent

-- the nodes that the links lead along, with what they hold
abbrev pub standings_from : List Node → Option NodeId → List Standing
standings_from nodes at = map (standing_at nodes) (ids_from nodes at)

-- what a walk along the links gives
abbrev pub steps_from : List Node → Option NodeId → List Step
steps_from nodes at = steps_of (standings_from nodes at)

-- a chain by its beginning
abbrev pub chain_from : List Node → Head → LinkedChain
chain_from nodes h = linked_chain (standings_from nodes h.first) h.sealed

-- what these nodes and beginnings hold
abbrev pub holdings : List Node → List Head → ℕ → Holdings
holdings nodes heads spare = record { chains = map (chain_from nodes) heads; spare = spare }

-- a count of the nodes in chains and in the free list, together
abbrev pub tally : (List NodeId → ℕ) → List (List NodeId) → List NodeId → ℕ
tally f chains frees = sum_by f chains + f frees

-- the length of a list of nodes
abbrev pub node_length : List NodeId → ℕ
node_length is = length is

-- these are the nodes of the chains and of the free list: the links end, and each node of the arena is there once
pub record Lists (nodes : List Node) (heads : List Head) (free : Option NodeId) (chains : List (List NodeId)) (frees : List NodeId) : Type 0 where
  pub count : length chains ≡ length heads
  pub linked : (c : ℕ) → c < length heads → Links nodes (head_at heads c).first (slice_index_or chains c [])
  pub unused : Links nodes free frees
  pub once : (k : ℕ) → k < length nodes → tally (times k) chains frees ≡ 1
  pub whole : tally node_length chains frees ≡ length nodes

-- the nodes of each chain
abbrev pub chain_ids : List Node → List Head → List (List NodeId)
chain_ids nodes heads = map (λ (h : Head). ids_from nodes h.first) heads

-- what stands of an arena: chains and free list share no node, cover all nodes and have no cycle; a parent stands in a sealed chain
pub record IsArena (nodes : List Node) (heads : List Head) (free : Option NodeId) (spare : ℕ) : Type 0 where
  pub lists : Lists nodes heads free (chain_ids nodes heads) (ids_from nodes free)
  pub count : spare ≡ length (ids_from nodes free)
  pub few : length nodes ≤ 4000000
  pub parents : HasParents (holdings nodes heads spare)
