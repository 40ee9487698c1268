-- Faces of rotation systems, by their darts, and the weights of the items along them.
use Rattle.std.specs.Prelude.{◌≡◌, ℕ, ◌+◌, ◌*◌, ◌/◌, ◌%◌, ◌<◌, ◌≤◌, Bool, ◌||◌, cond, List, length}
use Rattle.permutations.specs.Count.{count, sum_below}
use Rattle.multigraph.specs.Graph.{Multigraph, edge_count}
use Rattle.dart_maps.specs.Map.{same_face}
use Rattle.faces.specs.Euler.{dart_count}
use Rattle.faces.specs.Maps.{dart_after}
use Rattle.pair_split.specs.Tutte.{Node, node_item}
use Rattle.pair_split.specs.declared.components.What.TheVariants.{Real, Link}
use Rattle.skeletons.specs.Families.{skeleton_graph, system_at}

-- two darts lie on the same face of a rotation system
abbrev pub on_one_face : Multigraph → List (List ℕ) → ℕ → ℕ → Bool
on_one_face g r = same_face (edge_count g) (dart_after g r)

-- the length of the face of dart d: how many darts it has
abbrev pub face_length : Multigraph → List (List ℕ) → ℕ → ℕ
face_length g r d = count (dart_count g) (on_one_face g r d)

-- the weight of the face of dart d: the sum of the weights of its darts, where each edge has a weight
abbrev pub face_weight : Multigraph → List (List ℕ) → (ℕ → ℕ) → ℕ → ℕ
face_weight g r weight d = sum_below (dart_count g) (λ y. cond (on_one_face g r d y) (weight (y / 2)) 0)

-- the same in the skeleton of node k, with the rotation system that the family has there and a weight for each item
abbrev pub skeleton_weight : List Node → List (List (List ℕ)) → (ℕ → ℕ → ℕ) → ℕ → ℕ → ℕ
skeleton_weight nodes family weight k d = face_weight (skeleton_graph nodes k) (system_at family k) (weight k) d

-- dart d of the skeleton of node k exists
abbrev pub IsSkeletonDart : List Node → ℕ → ℕ → Type 0
IsSkeletonDart nodes k d = (k < length nodes) × (d < dart_count (skeleton_graph nodes k))

-- dart d of node k is of an item that is a link to node j, dart e of node j is of the item that is the link back, and both are
-- at the same end of their items, which have the same ends
pub record AreAcross (nodes : List Node) (k d j e : ℕ) : Type 0 where
  pub first : IsSkeletonDart nodes k d
  pub second : IsSkeletonDart nodes j e
  pub to : (node_item nodes k (d / 2)).what ≡ Link j
  pub from : (node_item nodes j (e / 2)).what ≡ Link k
  pub end : d % 2 ≡ e % 2

-- each item that stands for an edge weighs one
abbrev pub EdgesWeighOne : List Node → (ℕ → ℕ → ℕ) → Type 0
EdgesWeighOne nodes weight = (k i e : ℕ) → (node_item nodes k i).what ≡ Real e → weight k i ≡ 1

-- no face of a dart of a link weighs more than the link and the link back
abbrev pub LinksAreHeavy : List Node → List (List (List ℕ)) → (ℕ → ℕ → ℕ) → Type 0
LinksAreHeavy nodes family weight = (k d j e : ℕ) → AreAcross nodes k d j e → skeleton_weight nodes family weight k d ≤ weight k (d / 2) + weight j (e / 2)

-- no face of a skeleton weighs more than this
abbrev pub NoneIsHeavier : List Node → List (List (List ℕ)) → (ℕ → ℕ → ℕ) → ℕ → Type 0
NoneIsHeavier nodes family weight most = (k d : ℕ) → IsSkeletonDart nodes k d → skeleton_weight nodes family weight k d ≤ most
