-- What is proved also of the skeletons of a block, as statements: they are graphs, and their edges represent paths.
use Rattle.std.specs.Prelude.{◌≡◌, ℕ, ◌<◌, true, List, length}
use Rattle.permutations.specs.Members.{is_member}
use Rattle.multigraph.specs.Graph.{Multigraph, IsGraph}
use Rattle.graph_theory.specs.Path.{walk_vertices, IsPath}
use Rattle.pair_split.specs.Tutte.{Node, node_at, node_item, group}
use Rattle.skeletons.specs.Items.{ends_item, has_vertex, IsBlockTree}
use Rattle.skeletons.specs.Families.{skeleton_graph}

-- the skeleton of each node is a graph
abbrev pub SkeletonIsGraph : Type 0
SkeletonIsGraph = (g : Multigraph) (nodes : List Node) → IsBlockTree g nodes → (k : ℕ) → k < length nodes → IsGraph (skeleton_graph nodes k)

-- a path through the group of item i of node k, from the one end of the item to the other, that reaches no other vertex of the
-- node
pub record PathThrough (g : Multigraph) (nodes : List Node) (k i : ℕ) : Type 0 where
  pub along : List ℕ
  pub path : IsPath g (node_item nodes k i).a along (node_item nodes k i).b
  pub in_group : (e : ℕ) → is_member e along ≡ true → group nodes k e ≡ (node_item nodes k i).key
  pub ends_only : (v : ℕ) → is_member v (walk_vertices g (node_item nodes k i).a along) ≡ true → has_vertex nodes k v ≡ true → ends_item v (node_item nodes k i) ≡ true

-- through the group of each item there is such a path
abbrev pub ItemIsPath : Type 0
ItemIsPath = (g : Multigraph) (nodes : List Node) → IsBlockTree g nodes → (k i : ℕ) → k < length nodes → i < length (node_at nodes k).items → PathThrough g nodes k i
