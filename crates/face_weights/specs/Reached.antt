-- Weights that faces of the skeletons reach.
use Rattle.std.specs.Prelude.{◌≡◌, ◌≢◌, ℕ, ◌+◌, ◌/◌, ◌<◌, List, length}
use Rattle.pair_split.specs.Tutte.{Node, node_at}
use Rattle.pair_split.specs.declared.components.Kind.TheVariants.{P}
use Rattle.skeleton_faces.specs.Faces.{skeleton_weight, IsSkeletonDart, AreAcross, EdgesWeighOne}
use Rattle.skeleton_faces.specs.Tables.{IsTable}
use Rattle.skel_decompose.specs.Orders.{IsOrderOf}
use Rattle.face_weights.specs.Passes.{AreLight}
use Rattle.face_weights.specs.Weights.{Weighing, weight_of, IsSized}

-- each link weighs as much as some face of the node at its other end that has the link back, without the link back: of a bond, where
-- each two items can be neighbors, as much as some other item
pub record AreReached (nodes : List Node) (family : List (List (List ℕ))) (weight : ℕ → ℕ → ℕ) : Type 0 where
  pub links : (k d j e : ℕ) → AreAcross nodes k d j e → (node_at nodes j).kind ≢ P
      → (x : ℕ) × IsSkeletonDart nodes j x × (x / 2 ≡ e / 2) × (skeleton_weight nodes family weight j x ≡ weight j (e / 2) + weight k (d / 2))
  pub bond_links : (k d j e : ℕ) → AreAcross nodes k d j e → (node_at nodes j).kind ≡ P
      → (h : ℕ) × (h < length (node_at nodes j).items) × (h ≢ e / 2) × (weight j h ≡ weight k (d / 2))

-- a face of node `top` weighs `most`; of a bond, two of its items together
pub record IsTop (nodes : List Node) (family : List (List (List ℕ))) (weight : ℕ → ℕ → ℕ) (most top : ℕ) : Type 0 where
  pub node : top < length nodes
  pub face : (node_at nodes top).kind ≢ P → (d : ℕ) × IsSkeletonDart nodes top d × (skeleton_weight nodes family weight top d ≡ most)
  pub pair : (node_at nodes top).kind ≡ P → (i : ℕ) × (h : ℕ) × (i < length (node_at nodes top).items) × (h < length (node_at nodes top).items) × (i ≢ h) × (weight top i + weight top h ≡ most)

-- the weights bound the faces, and each is reached; the nodes are in order
pub record AreWeights (nodes : List Node) (family : List (List (List ℕ))) (w : Weighing) : Type 0 where
  pub sized : IsSized nodes w
  pub ordered : IsOrderOf nodes w.parents w.order
  pub light : AreLight nodes w.parents w.below w.above
  pub edges : EdgesWeighOne nodes (weight_of nodes w)
  pub table : IsTable nodes family (weight_of nodes w) w.most
  pub reached : AreReached nodes family (weight_of nodes w)
  pub top : IsTop nodes family (weight_of nodes w) w.most w.top
