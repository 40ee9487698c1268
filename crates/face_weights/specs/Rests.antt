-- What a node adds to the weight of one of its items: the rest of the heaviest face that has it.
use Rattle.std.specs.Prelude.{◌≡◌, ◌≢◌, ℕ, ◌+◌, ◌/◌, ◌<◌, ◌≤◌, List, length}
use Rattle.multigraph.specs.Graph.{Multigraph}
use Rattle.faces.specs.Euler.{dart_count}
use Rattle.pair_split.specs.Tutte.{Node, node_at}
use Rattle.pair_split.specs.declared.components.Kind.TheVariants.{P}
use Rattle.skeletons.specs.Families.{skeleton_graph, system_at}
use Rattle.skeleton_faces.specs.Faces.{face_weight}

-- `rest` is the weight of the heaviest face of a rotation system that has item i, without the item
pub record IsFaceRest (g : Multigraph) (r : List (List ℕ)) (weight : ℕ → ℕ) (i rest : ℕ) : Type 0 where
  pub reached : (x : ℕ) × (x < dart_count g) × (x / 2 ≡ i) × (face_weight g r weight x ≡ weight i + rest)
  pub bounds : (x : ℕ) → x < dart_count g → x / 2 ≡ i → face_weight g r weight x ≤ weight i + rest

-- `rest` is the greatest weight of an item other than i among the first n
pub record IsOtherMost (n : ℕ) (weight : ℕ → ℕ) (i rest : ℕ) : Type 0 where
  pub reached : (h : ℕ) × (h < n) × (h ≢ i) × (weight h ≡ rest)
  pub bounds : (h : ℕ) → h < n → h ≢ i → weight h ≤ rest

-- `rest` is what node k adds to its item i: in a bond, each two items of which can be neighbors, the greatest weight of another item
pub record IsRest (nodes : List Node) (family : List (List (List ℕ))) (k : ℕ) (weight : ℕ → ℕ) (i rest : ℕ) : Type 0 where
  pub face : (node_at nodes k).kind ≢ P → IsFaceRest (skeleton_graph nodes k) (system_at family k) weight i rest
  pub other : (node_at nodes k).kind ≡ P → IsOtherMost (length (node_at nodes k).items) weight i rest
