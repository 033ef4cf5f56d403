-- What an arena holds: chains of nodes with labels, and so many spare nodes.
use Rattle.std.specs.Prelude.{◌≡◌, ℕ, ◌+◌, ◌-◌, ◌<◌, ◌≤◌, ◌==◌, Bool, true, false, cond, max, List, [], ◌∷◌, Option, None, Some, IfSome, length, map, option_map, slice_index_or, slice_set, replicate}
use Rattle.std.specs.List.{Contains, sum_by}
use Rattle.lab_model.specs.declared.label.Label.{Label}
use Rattle.label_arena.specs.declared.node.NodeId.{NodeId}
use Rattle.label_arena.specs.declared.walk.Step.{Step}

-- a node that stands in a chain, with what it holds
pub record Standing : Type 0 where
  pub node : NodeId
  pub label : Label
  pub parent : Option NodeId

-- the node with this label and parent
abbrev pub standing : NodeId → Label → Option NodeId → Standing
standing node label parent = record { node = node; label = label; parent = parent }

-- a chain: its nodes in order, and whether it is sealed
pub record LinkedChain : Type 0 where
  pub nodes : List Standing
  pub sealed : Bool

-- the chain of these nodes
abbrev pub linked_chain : List Standing → Bool → LinkedChain
linked_chain nodes sealed = record { nodes = nodes; sealed = sealed }

-- all chains, and the number of spare nodes
pub record Holdings : Type 0 where
  pub chains : List LinkedChain
  pub spare : ℕ

-- a chain by its number
abbrev pub chain_at : Holdings → ℕ → LinkedChain
chain_at a c = slice_index_or a.chains c (linked_chain [] false)

-- which nodes these are
abbrev pub ids_of : List Standing → List NodeId
ids_of ns = map (λ s. s.node) ns

-- whether two nodes are the same
abbrev pub same_node : NodeId → NodeId → Bool
same_node a b = a.0 == b.0

-- the node stands in this chain
abbrev pub StandsIn : Holdings → ℕ → NodeId → Type 0
StandsIn a c k = Contains (ids_of (chain_at a c).nodes) k

-- the node stands in some chain
abbrev pub Stands : Holdings → NodeId → Type 0
Stands a k = (c : ℕ) × StandsIn a c k

-- the node stands in a sealed chain
abbrev pub StandsSealed : Holdings → NodeId → Type 0
StandsSealed a k = (c : ℕ) × ((chain_at a c).sealed ≡ true) × StandsIn a c k

-- the node stands in no chain
abbrev pub IsNew : Holdings → NodeId → Type 0
IsNew a k = Stands a k → ⊥

-- there is such a chain, and it is not sealed
abbrev pub IsOpen : Holdings → ℕ → Type 0
IsOpen a c = (c < length a.chains) × ((chain_at a c).sealed ≡ false)

-- a place in a chain: behind a node that stands there, or first
abbrev pub StandsAfter : Holdings → ℕ → Option NodeId → Type 0
StandsAfter a c after = IfSome after (StandsIn a c)

-- a parent stands in a sealed chain
abbrev pub HasParent : Holdings → Option NodeId → Type 0
HasParent a parent = IfSome parent (StandsSealed a)

-- the first node
abbrev pub first_node : List Standing → Option NodeId
first_node [] = None
first_node (n ∷ ns) = Some n.node

-- the first node, with what it holds
abbrev pub first_standing : List Standing → Option Standing
first_standing [] = None
first_standing (n ∷ ns) = Some n

-- the node at a place: behind a node, or first
abbrev pub standing_behind : Option NodeId → List Standing → Option Standing
standing_behind None ns = first_standing ns
standing_behind (Some k) [] = None
standing_behind (Some k) (n ∷ ns) = cond (same_node k n.node) (first_standing ns) (standing_behind (Some k) ns)

-- which node stands at a place
abbrev pub node_behind : Option NodeId → List Standing → Option NodeId
node_behind after ns = option_map (λ s. s.node) (standing_behind after ns)

-- the label of the node at a place
abbrev pub label_behind : Option NodeId → List Standing → Option Label
label_behind after ns = option_map (λ s. s.label) (standing_behind after ns)

-- the nodes with one more at a place
abbrev pub nodes_with : Option NodeId → Standing → List Standing → List Standing
nodes_with None s ns = s ∷ ns
nodes_with (Some k) s [] = []
nodes_with (Some k) s (n ∷ ns) = cond (same_node k n.node) (n ∷ s ∷ ns) (n ∷ nodes_with (Some k) s ns)

-- all but the first node
abbrev pub behind_first : List Standing → List Standing
behind_first [] = []
behind_first (n ∷ ns) = ns

-- the nodes without the one at a place
abbrev pub nodes_without : Option NodeId → List Standing → List Standing
nodes_without None ns = behind_first ns
nodes_without (Some k) [] = []
nodes_without (Some k) (n ∷ ns) = cond (same_node k n.node) (n ∷ behind_first ns) (n ∷ nodes_without (Some k) ns)

-- the nodes, where the one that is this one holds what it holds
abbrev pub nodes_holding : Standing → List Standing → List Standing
nodes_holding s ns = map (λ n. cond (same_node s.node n.node) s n) ns

-- all as it is but for the nodes of an open chain and the number of spare nodes
abbrev pub with_nodes : ℕ → List Standing → ℕ → Holdings → Holdings
with_nodes c ns spare a = record { chains = slice_set a.chains c (linked_chain ns false); spare = spare }

-- with one more node at a place of an open chain
abbrev pub with_added : ℕ → Option NodeId → Standing → Holdings → Holdings
with_added c after s a = with_nodes c (nodes_with after s (chain_at a c).nodes) (a.spare - 1) a

-- with what a node of an open chain holds now
abbrev pub with_raised : ℕ → Standing → Holdings → Holdings
with_raised c s a = with_nodes c (nodes_holding s (chain_at a c).nodes) a.spare a

-- without the node at a place of an open chain, by what stands there
abbrev pub without_found : Option Standing → ℕ → Option NodeId → Holdings → Holdings
without_found None c after a = a
without_found (Some s) c after a = with_nodes c (nodes_without after (chain_at a c).nodes) (a.spare + 1) a

-- without the node at a place of an open chain, where there is one
abbrev pub with_dropped : ℕ → Option NodeId → Holdings → Holdings
with_dropped c after a = without_found (standing_behind after (chain_at a c).nodes) c after a

-- with an open chain sealed
abbrev pub with_seal : ℕ → Holdings → Holdings
with_seal c a = record { chains = slice_set a.chains c (linked_chain (chain_at a c).nodes true); spare = a.spare }

-- with at least so many spare nodes
abbrev pub with_room : ℕ → Holdings → Holdings
with_room n a = record { chains = a.chains; spare = max n a.spare }

-- so many open and empty chains, and so many spare nodes
abbrev pub empty_holdings : ℕ → ℕ → Holdings
empty_holdings chains room = record { chains = replicate chains (linked_chain [] false); spare = room }

-- the number of nodes in chains
abbrev pub node_count : Holdings → ℕ
node_count a = sum_by (λ (c : LinkedChain). length c.nodes) a.chains

-- what a walk along these nodes gives
abbrev pub steps_of : List Standing → List Step
steps_of ns = map (λ s. record { node = s.node; label = s.label }) ns

-- the link behind a node that stands in a chain
abbrev pub HasNext : Holdings → NodeId → Option NodeId → Type 0
HasNext a k next = (c : ℕ) → StandsIn a c k → next ≡ node_behind (Some k) (chain_at a c).nodes

-- the label of a node that stands in a chain
abbrev pub HasLabel : Holdings → NodeId → Label → Type 0
HasLabel a k label = (c : ℕ) (s : Standing) → Contains (chain_at a c).nodes s → s.node ≡ k → label ≡ s.label

-- the parent link of a node that stands in a chain
abbrev pub HasLink : Holdings → NodeId → Option NodeId → Type 0
HasLink a k parent = (c : ℕ) (s : Standing) → Contains (chain_at a c).nodes s → s.node ≡ k → parent ≡ s.parent

-- 1 where it is this node, and 0 elsewhere
abbrev pub one_at : ℕ → NodeId → ℕ
one_at k i = cond (k == i.0) 1 0

-- how often a node is in a list
abbrev pub times : ℕ → List NodeId → ℕ
times k [] = 0
times k (i ∷ is) = one_at k i + times k is

-- each parent stands in a sealed chain
abbrev pub HasParents : Holdings → Type 0
HasParents a = (c : ℕ) (s : Standing) → Contains (chain_at a c).nodes s → HasParent a s.parent

-- no node stands twice in chains; a parent stands in a sealed chain; there are at most 4000000 nodes
pub record IsSound (a : Holdings) : Type 0 where
  pub once : (c : ℕ) (k : NodeId) → times k.0 (ids_of (chain_at a c).nodes) ≤ 1
  pub apart : (c d : ℕ) (k : NodeId) → StandsIn a c k → StandsIn a d k → c ≡ d
  pub parents : HasParents a
  pub few : node_count a + a.spare ≤ 4000000
