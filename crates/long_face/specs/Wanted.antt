-- The faces that are wanted of the skeletons, and the choices of the nodes that make them faces.
use Rattle.std.specs.Prelude.{◌≡◌, ◌≢◌, ℕ, ◌+◌, ◌*◌, ◌/◌, ◌<◌, ◌⊎◌, Bool, true, ◌||◌, ◌==◌, cond, List, length}
use Rattle.permutations.specs.Cyclic.{from_least, successor}
use Rattle.multigraph.specs.Graph.{Multigraph}
use Rattle.dart_maps.specs.Map.{twin}
use Rattle.pair_split.specs.Tutte.{Node, node_at, node_item}
use Rattle.pair_split.specs.declared.components.Kind.{Kind}
use Rattle.pair_split.specs.declared.components.Kind.TheVariants.{S, P, R, B}
use Rattle.skeletons.specs.Families.{skeleton_graph, system_at}
use Rattle.skeletons.specs.Choices.{choice}
use Rattle.skel_embed.specs.Exchanges.{exchanged, turned_choice}
use Rattle.skeleton_faces.specs.Faces.{on_one_face, face_weight, IsSkeletonDart, AreAcross}
pub use Rattle.long_face.specs.declared.wants.Want.{Want}

-- whether dart x is on the wanted face, by the present rotation system of the skeleton
abbrev pub on_wanted : Kind → Multigraph → List (List ℕ) → Want → ℕ → Bool
on_wanted S graph r w x = on_one_face graph r w.dart x
on_wanted B graph r w x = on_one_face graph r w.dart x
on_wanted R graph r w x = cond w.turned (on_one_face graph r (twin w.dart) (twin x)) (on_one_face graph r w.dart x)
on_wanted P graph r w x = (x == twin (2 * w.first)) || (x == 2 * w.second)

-- what the wanted face weighs
abbrev pub wanted_weight : Kind → Multigraph → List (List ℕ) → (ℕ → ℕ) → Want → ℕ
wanted_weight S graph r weight w = face_weight graph r weight w.dart
wanted_weight B graph r weight w = face_weight graph r weight w.dart
wanted_weight R graph r weight w = face_weight graph r weight (cond w.turned (twin w.dart) w.dart)
wanted_weight P graph r weight w = weight w.first + weight w.second

-- the choice that makes it a face: a triconnected node is turned, and in a bond the second key is exchanged with the one that
-- follows the first
abbrev pub wanted_choice : Kind → (ℕ → ℕ) → List ℕ → Want → List ℕ
wanted_choice S key keys w = keys
wanted_choice B key keys w = keys
wanted_choice R key keys w = cond w.turned (turned_choice keys) keys
wanted_choice P key keys w = from_least (exchanged (successor keys (key w.first)) (key w.second) keys)

-- the same of node k
abbrev pub is_wanted : List Node → List (List (List ℕ)) → (ℕ → Want) → ℕ → ℕ → Bool
is_wanted nodes family want k x = on_wanted (node_at nodes k).kind (skeleton_graph nodes k) (system_at family k) (want k) x

abbrev pub weight_wanted : List Node → List (List (List ℕ)) → (ℕ → ℕ → ℕ) → (ℕ → Want) → ℕ → ℕ
weight_wanted nodes family weight want k = wanted_weight (node_at nodes k).kind (skeleton_graph nodes k) (system_at family k) (weight k) (want k)

-- the choice of node k, which is the present one where nothing is wanted
abbrev pub choice_wanted : List Node → List (List ℕ) → (ℕ → Bool) → (ℕ → Want) → ℕ → List ℕ
choice_wanted nodes r is_on want k = cond (is_on k) (wanted_choice (node_at nodes k).kind (λ i. (node_item nodes k i).key) (choice nodes r k) (want k)) (choice nodes r k)

-- the dart of a bond is on the face of its two items
pub record IsPair (number : ℕ) (w : Want) : Type 0 where
  pub first_in : w.first < number
  pub second_in : w.second < number
  pub two : w.first ≢ w.second
  pub on : (w.dart ≡ twin (2 * w.first)) ⊎ (w.dart ≡ 2 * w.second)

-- a face is wanted in each of some nodes, one of which is the top, where it weighs `len`. Each other one wants the face of the dart of a
-- link to a node of a lower rank, the opposite dart of which is wanted there, and it weighs as much as the link and the link back.
-- Where another dart of a link is wanted, the opposite one is wanted beyond the link
pub record AreWanted (nodes : List Node) (family : List (List (List ℕ))) (weight : ℕ → ℕ → ℕ) (top len : ℕ) (is_on : ℕ → Bool) (want : ℕ → Want) (rank : ℕ → ℕ) : Type 0 where
  pub top_on : (top < length nodes) × (is_on top ≡ true)
  pub darts : (k : ℕ) → k < length nodes → is_on k ≡ true → IsSkeletonDart nodes k (want k).dart
  pub pairs : (k : ℕ) → k < length nodes → is_on k ≡ true → (node_at nodes k).kind ≡ P → IsPair (length (node_at nodes k).items) (want k)
  pub at_top : weight_wanted nodes family weight want top ≡ len
  pub down : (k x j e : ℕ) → AreAcross nodes k x j e → is_on k ≡ true → is_wanted nodes family want k x ≡ true → (k ≡ top) ⊎ (x / 2 ≢ (want k).dart / 2) → (is_on j ≡ true) × ((want j).dart ≡ twin e) × (j ≢ top)
  pub up : (k : ℕ) → k < length nodes → is_on k ≡ true → k ≢ top → (j : ℕ) × (e : ℕ) × AreAcross nodes k (want k).dart j e × (is_on j ≡ true) × (is_wanted nodes family want j (twin e) ≡ true) × (rank j < rank k)
      × (weight_wanted nodes family weight want k ≡ weight k ((want k).dart / 2) + weight j (e / 2))
