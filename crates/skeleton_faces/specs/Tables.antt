-- Weights of links that bound the faces of every plane rotation system, told by one of them.
use Rattle.std.specs.Prelude.{◌≡◌, ◌≢◌, ℕ, ◌+◌, ◌/◌, ◌<◌, ◌≤◌, List, length}
use Rattle.pair_split.specs.Tutte.{Node, node_at}
use Rattle.pair_split.specs.declared.components.Kind.TheVariants.{P}
use Rattle.skeleton_faces.specs.Faces.{skeleton_weight, IsSkeletonDart, AreAcross}

-- the weights bound the faces: no face of a dart of a link weighs more than the link and the link back, and none weighs more than
-- `most`, in this family. Of bonds, where each two items can be neighbors, this is said of pairs: no other item weighs more than the
-- link back, and no two items more than `most`
pub record IsTable (nodes : List Node) (family : List (List (List ℕ))) (weight : ℕ → ℕ → ℕ) (most : ℕ) : Type 0 where
  pub links : (k d j e : ℕ) → AreAcross nodes k d j e → (node_at nodes k).kind ≢ P → skeleton_weight nodes family weight k d ≤ weight k (d / 2) + weight j (e / 2)
  pub faces : (k d : ℕ) → IsSkeletonDart nodes k d → (node_at nodes k).kind ≢ P → skeleton_weight nodes family weight k d ≤ most
  pub bond_links : (k d j e : ℕ) → AreAcross nodes k d j e → (node_at nodes k).kind ≡ P → (h : ℕ) → h < length (node_at nodes k).items → h ≢ d / 2 → weight k h ≤ weight j (e / 2)
  pub bonds : (k i h : ℕ) → k < length nodes → (node_at nodes k).kind ≡ P → i < length (node_at nodes k).items → h < length (node_at nodes k).items → i ≢ h → weight k i + weight k h ≤ most
