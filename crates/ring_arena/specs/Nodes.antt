-- How rings are kept: nodes side by side in a block, each with its number, the places of the nodes after it and before it, and
-- the number of the node after it.
use Rattle.std.specs.Prelude.{◌≡◌, ℕ, ◌-◌, ◌*◌, ◌/◌, ◌<◌, ◌≤◌, List, map, length, slice_get, slice_index, slice_set, Some}
use denote.RawPtr.{Ptr, InBlock, count_of, ◌+ₚ◌}
use Rattle.ring_arena.specs.declared.arena.Node.{Node}
use Rattle.ring_arena.specs.Links.{Links, AreInverse}

-- the most nodes
abbrev pub max_nodes : ℕ
max_nodes = 100000

-- the bytes that a node takes
abbrev pub node_size : ℕ
node_size = 24

-- the place of a node, by its number, where the nodes are from base on
abbrev pub place_of : Ptr → ℕ → Ptr
place_of base k = base +ₚ k * node_size

-- the number of the node at a place
abbrev pub number_at : Ptr → Ptr → ℕ
number_at base place = (count_of place - count_of base) / node_size

-- the numbers of the nodes at the places in the nodes
abbrev pub links_of : Ptr → List Node → Links
links_of base nodes = record { next = map (λ node. number_at base node.next) nodes; prev = map (λ node. number_at base node.prev) nodes }

-- a node has its number and that of the node after it, and its places are those of nodes
pub record IsNode (base : Ptr) (count number : ℕ) (node : Node) : Type 0 where
  pub numbered : node.number ≡ number
  pub followed : node.after ≡ number_at base node.next
  pub next_in : number_at base node.next < count
  pub next_place : node.next ≡ place_of base (number_at base node.next)
  pub prev_in : number_at base node.prev < count
  pub prev_place : node.prev ≡ place_of base (number_at base node.prev)

-- nodes in a block
pub record AreNodes (base : Ptr) (nodes : List Node) : Type 0 where
  pub few : length nodes ≤ max_nodes
  pub in_block : InBlock base
  pub each : (k : ℕ) (node : Node) → slice_get nodes k ≡ Some node → IsNode base (length nodes) k node

-- nodes in a block that form rings
abbrev pub KeepRings : Ptr → List Node → Type 0
KeepRings base nodes = AreNodes base nodes × AreInverse (links_of base nodes)

-- node b was put after node a, and node a before node b
pub record AreRelinked (base : Ptr) (old : List Node) (new_base : Ptr) (new : List Node) (a b : ℕ) : Type 0 where
  pub in_place : new_base ≡ base
  pub count : length new ≡ length old
  pub nodes : AreNodes base new
  pub next : (links_of base new).next ≡ slice_set (links_of base old).next a b
  pub prev : (links_of base new).prev ≡ slice_set (links_of base old).prev b a

-- the nodes after and before node k were exchanged
pub record AreTurned (base : Ptr) (old : List Node) (new_base : Ptr) (new : List Node) (k : ℕ) : Type 0 where
  pub in_place : new_base ≡ base
  pub count : length new ≡ length old
  pub nodes : AreNodes base new
  pub next : (links_of base new).next ≡ slice_set (links_of base old).next k (slice_index (links_of base old).prev k)
  pub prev : (links_of base new).prev ≡ slice_set (links_of base old).prev k (slice_index (links_of base old).next k)

-- a node with its number, and the places of these nodes after it and before it
pub record IsLinked (base : Ptr) (number next prev : ℕ) (node : Node) : Type 0 where
  pub numbered : node.number ≡ number
  pub followed : node.after ≡ next
  pub next_place : node.next ≡ place_of base next
  pub prev_place : node.prev ≡ place_of base prev
