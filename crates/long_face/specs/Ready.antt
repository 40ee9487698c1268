-- What is known of each node before anything is wanted.
use Rattle.std.specs.Prelude.{◌≡◌, ◌≢◌, ℕ, ◌+◌, ◌*◌, ◌/◌, ◌<◌, List, length}
use Rattle.multigraph.specs.Graph.{Multigraph, IsWithinLimits}
use Rattle.faces.specs.Euler.{dart_count, IsPlane}
use Rattle.pair_split.specs.Tutte.{Node, node_at}
use Rattle.pair_split.specs.declared.components.Kind.TheVariants.{P, R}
use Rattle.skeletons.specs.Items.{IsBlockTree}
use Rattle.skeletons.specs.Families.{skeleton_graph, system_at, AreSkeletonSystems}
use Rattle.skeleton_faces.specs.Faces.{skeleton_weight, IsSkeletonDart, AreAcross}
use Rattle.skeleton_faces.specs.Tables.{IsTable}
use Rattle.face_weights.specs.Numbers.{KnowFaces}
use Rattle.face_weights.specs.Reached.{AreWeights}
use Rattle.face_weights.specs.Weights.{Weighing}
use Rattle.long_face.specs.Heaviest.{number_in}

-- the weights of the items of a node, and those of the faces of its darts
pub record NodeRows : Type 0 where
  pub weights : List ℕ
  pub sums : List ℕ

-- they are those of node k
pub record AreRowsOf (nodes : List Node) (family : List (List (List ℕ))) (weight : ℕ → ℕ → ℕ) (k : ℕ) (rows : NodeRows) : Type 0 where
  pub items : length rows.weights ≡ length (node_at nodes k).items
  pub weights : (i : ℕ) → i < length (node_at nodes k).items → number_in rows.weights i ≡ weight k i
  pub darts : length rows.sums ≡ 2 * length rows.weights
  pub sums : (d : ℕ) → d < dart_count (skeleton_graph nodes k) → number_in rows.sums d ≡ skeleton_weight nodes family weight k d

-- of a bond the weights are, and of a triconnected node both
pub record AreNeeded (nodes : List Node) (family : List (List (List ℕ))) (weight : ℕ → ℕ → ℕ) (k : ℕ) (rows : NodeRows) : Type 0 where
  pub bond : (node_at nodes k).kind ≡ P → (length rows.weights ≡ length (node_at nodes k).items) × ((i : ℕ) → i < length (node_at nodes k).items → number_in rows.weights i ≡ weight k i)
  pub sides : (node_at nodes k).kind ≡ R → AreRowsOf nodes family weight k rows

-- the faces of the skeletons of a block's tree by their numbers, and weights that bound them
pub record AreKnown (g : Multigraph) (nodes : List Node) (family : List (List (List ℕ))) (faces : List (List ℕ)) (w : Weighing) : Type 0 where
  pub block : IsBlockTree g nodes
  pub limits : IsWithinLimits g
  pub numbers : KnowFaces nodes family faces
  pub weighed : AreWeights nodes family w

-- so they are, for some graph and family
abbrev pub AreSomeKnown : List Node → List (List ℕ) → Weighing → Type 0
AreSomeKnown nodes faces w = (g : Multigraph) × (family : List (List (List ℕ))) × AreKnown g nodes family faces w

-- a block with its tree, and weights that bound the faces of the skeletons and are reached: of each link by a face at the other end of
-- the link, and the greatest at the top
pub record IsReady (g : Multigraph) (nodes : List Node) (family : List (List (List ℕ))) (weight : ℕ → ℕ → ℕ) (top most : ℕ) : Type 0 where
  pub block : IsBlockTree g nodes
  pub limits : IsWithinLimits g
  pub systems : AreSkeletonSystems nodes family
  pub plane : (k : ℕ) → k < length nodes → IsPlane (skeleton_graph nodes k) (system_at family k)
  pub table : IsTable nodes family weight most
  pub links : (k d j e : ℕ) → AreAcross nodes k d j e → (node_at nodes j).kind ≢ P → (x : ℕ) × IsSkeletonDart nodes j x × (x / 2 ≡ e / 2) × (skeleton_weight nodes family weight j x ≡ weight j (e / 2) + weight k (d / 2))
  pub bond_links : (k d j e : ℕ) → AreAcross nodes k d j e → (node_at nodes j).kind ≡ P → (h : ℕ) × (h < length (node_at nodes j).items) × (h ≢ e / 2) × (weight j h ≡ weight k (d / 2))
  pub top_in : top < length nodes
  pub face : (node_at nodes top).kind ≢ P → (d : ℕ) × IsSkeletonDart nodes top d × (skeleton_weight nodes family weight top d ≡ most)
  pub pair : (node_at nodes top).kind ≡ P → (i : ℕ) × (h : ℕ) × (i < length (node_at nodes top).items) × (h < length (node_at nodes top).items) × (i ≢ h) × (weight top i + weight top h ≡ most)
