-- Families of rotation systems, one for each skeleton, and the rotation systems that follow them.
use Rattle.std.specs.Prelude.{◌≡◌, ℕ, ◌<◌, true, List, [], length, map, slice_index_or}
use Rattle.permutations.specs.Cyclic.{IsTurn}
use Rattle.permutations.specs.Members.{place_of}
use Rattle.permutations.specs.Runs.{InRuns, group_keys}
use Rattle.multigraph.specs.Graph.{Multigraph}
use Rattle.rotations.specs.Rotation.{order_at, IsRotationSystem, IsCyclicOrder}
use Rattle.pair_split.specs.Tutte.{Node, node_at, node_item, group}
use Rattle.pair_split.specs.declared.components.Kind.{Kind}
use Rattle.pair_split.specs.declared.components.Kind.TheVariants.{S, P, R, B}
use Rattle.pair_split.specs.declared.components.Item.{Item}
use Rattle.skeletons.specs.Items.{node_keys, has_vertex, least_vertex}
use Rattle.faces.specs.Euler.{IsPlaneSystem}

-- the ends of an item, by their places among the vertices
abbrev pub end_places : List ℕ → Item → ℕ × ℕ
end_places vertices item = (place_of vertices item.a, place_of vertices item.b)

-- the skeleton of node k as a graph of its own: its vertices and its items by their places, the lesser end first
abbrev pub skeleton_graph : List Node → ℕ → Multigraph
skeleton_graph nodes k = record { vertex_count = length (node_at nodes k).vertices; ends = map (end_places (node_at nodes k).vertices) (node_at nodes k).items }

-- the rotation system that the family has for node k
abbrev pub system_at : List (List (List ℕ)) → ℕ → List (List ℕ)
system_at family k = slice_index_or family k []

-- a family: for each node a rotation system of its skeleton
pub record AreSkeletonSystems (nodes : List Node) (family : List (List (List ℕ))) : Type 0 where
  pub each : length family ≡ length nodes
  pub systems : (k : ℕ) → k < length nodes → IsRotationSystem (skeleton_graph nodes k) (system_at family k)

-- the keys of these items of node k
abbrev pub keys_of : List Node → ℕ → List ℕ → List ℕ
keys_of nodes k items = map (λ i. (node_item nodes k i).key) items

-- the keys of the items around vertex v of node k, as the family has them
abbrev pub keys_in : List Node → List (List (List ℕ)) → ℕ → ℕ → List ℕ
keys_in nodes family k v = keys_of nodes k (order_at (system_at family k) (place_of (node_at nodes k).vertices v))

-- a cyclic order in runs, the groups of which are in the cyclic order of these keys
pub record StandInOrder (key : ℕ → ℕ) (l keys : List ℕ) : Type 0 where
  pub groups : List (ℕ × List ℕ)
  pub runs : InRuns key l groups
  pub order : IsTurn (group_keys groups) keys

-- r follows the family: at each vertex of each node the groups are in runs, in the family's order
abbrev pub FollowsFamily : List Node → List (List (List ℕ)) → List (List ℕ) → Type 0
FollowsFamily nodes family r = (k v : ℕ) → has_vertex nodes k v ≡ true → StandInOrder (group nodes k) (order_at r v) (keys_in nodes family k v)

-- the keys are those around the least vertex of node k in some plane rotation system of its skeleton
pub record IsPlaneChoice (nodes : List Node) (k : ℕ) (keys : List ℕ) : Type 0 where
  pub system : List (List ℕ)
  pub plane : IsPlaneSystem (skeleton_graph nodes k) system
  pub order : keys_of nodes k (order_at system (place_of (node_at nodes k).vertices (least_vertex nodes k))) ≡ keys

-- the possible choices of a node: of a bond each cyclic order of its keys, of a triconnected node those of its plane rotation
-- systems, of other nodes none but the empty list
abbrev pub IsPossibleFor : Kind → List Node → ℕ → List ℕ → Type 0
IsPossibleFor P nodes k keys = IsCyclicOrder (node_keys nodes k) keys
IsPossibleFor R nodes k keys = IsPlaneChoice nodes k keys
IsPossibleFor S nodes k keys = keys ≡ []
IsPossibleFor B nodes k keys = keys ≡ []

-- the keys are a possible choice of node k
abbrev pub IsPossible : List Node → ℕ → List ℕ → Type 0
IsPossible nodes k keys = IsPossibleFor (node_at nodes k).kind nodes k keys
