-- Faces of the skeletons that fit together into one face of the block.
use Rattle.std.specs.Prelude.{◌≡◌, ◌≢◌, ℕ, ◌+◌, ◌/◌, ◌<◌, ◌⊎◌, Bool, true, List, length}
use Rattle.dart_maps.specs.Map.{twin}
use Rattle.pair_split.specs.Tutte.{Node}
use Rattle.skeletons.specs.Families.{skeleton_graph, system_at}
use Rattle.skeleton_faces.specs.Faces.{on_one_face, skeleton_weight, IsSkeletonDart, AreAcross}

-- a face is chosen in each of some nodes; `on` tells its darts. Across a link a dart of the one item is chosen where the opposite
-- dart of the other is. One of the nodes is the top, the face of which has the weight `len`; each other one has a link to a node
-- of a lower rank of which a dart is chosen, `up`, and its face weighs as much as this link and the link back. No other link has
-- a chosen dart
pub record AreDemands (nodes : List Node) (family : List (List (List ℕ))) (weight : ℕ → ℕ → ℕ) (top len : ℕ) (is_on : ℕ → Bool) (on : ℕ → ℕ → Bool) (up rank : ℕ → ℕ) : Type 0 where
  pub top_on : (top < length nodes) × (is_on top ≡ true)
  pub some : (k : ℕ) → k < length nodes → is_on k ≡ true → (d : ℕ) × IsSkeletonDart nodes k d × (on k d ≡ true)
  pub node_on : (k d : ℕ) → IsSkeletonDart nodes k d → on k d ≡ true → is_on k ≡ true
  pub faces : (k d e : ℕ) → IsSkeletonDart nodes k d → IsSkeletonDart nodes k e → on k d ≡ true → on k e ≡ on_one_face (skeleton_graph nodes k) (system_at family k) d e
  pub across : (k d j e : ℕ) → AreAcross nodes k d j e → on k d ≡ on j (twin e)
  pub at_top : (d : ℕ) → IsSkeletonDart nodes top d → on top d ≡ true → skeleton_weight nodes family weight top d ≡ len
  pub upward : (k : ℕ) → k < length nodes → is_on k ≡ true → k ≢ top → (j : ℕ) × (e : ℕ) × AreAcross nodes k (up k) j e × (on k (up k) ≡ true) × (rank j < rank k)
      × ((d : ℕ) → IsSkeletonDart nodes k d → on k d ≡ true → skeleton_weight nodes family weight k d ≡ weight k (up k / 2) + weight j (e / 2))
  pub only : (k d j e : ℕ) → AreAcross nodes k d j e → on k d ≡ true → ((k ≢ top) × (up k / 2 ≡ d / 2)) ⊎ ((j ≢ top) × (up j / 2 ≡ e / 2))
