-- The plane rotation systems of the skeletons from which the first plane rotation system of a block is made.
use Rattle.std.specs.Prelude.{◌≡◌, ℕ, ◌<◌, false, List, length}
use Rattle.permutations.specs.Cyclic.{from_least}
use Rattle.multigraph.specs.Graph.{Multigraph}
use Rattle.rotations.specs.Rotation.{order_at}
use Rattle.pair_split.specs.Tutte.{Node, node_at, is_before}
use Rattle.skeletons.specs.Items.{least_vertex}
use Rattle.faces.specs.Euler.{IsPlaneSystem}
use Rattle.skeletons.specs.Choices.{choice_of_kind, Precedes}
use Rattle.skeletons.specs.Families.{skeleton_graph, system_at, keys_of, IsPossible}
use Rattle.permutations.specs.Members.{place_of}

-- the choice that a rotation system of its skeleton gives node k
abbrev pub choice_in : List Node → ℕ → List (List ℕ) → List ℕ
choice_in nodes k s = choice_of_kind (node_at nodes k).kind (from_least (keys_of nodes k (order_at s (place_of (node_at nodes k).vertices (least_vertex nodes k)))))

-- a plane rotation system of the skeleton of node k that gives it the least possible choice
pub record IsFirstMember (nodes : List Node) (k : ℕ) (s : List (List ℕ)) : Type 0 where
  pub plane : IsPlaneSystem (skeleton_graph nodes k) s
  pub least : (other : List ℕ) → IsPossible nodes k other → is_before other (choice_in nodes k s) ≡ false

-- such a one for each of the first n nodes
pub record AreFirstMembers (nodes : List Node) (n : ℕ) (family : List (List (List ℕ))) : Type 0 where
  pub each : length family ≡ n
  pub members : (k : ℕ) → k < n → IsFirstMember nodes k (system_at family k)

-- a plane rotation system of the block that no plane rotation system precedes: the first member of the full list
pub record IsFirst (g : Multigraph) (nodes : List Node) (r : List (List ℕ)) : Type 0 where
  pub plane : IsPlaneSystem g r
  pub none_before : (q : List (List ℕ)) → IsPlaneSystem g q → Precedes nodes q r → ⊥
