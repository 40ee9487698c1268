-- What is proved of the faces of a block in terms of those of its skeletons, as statements.
use Rattle.std.specs.Prelude.{◌≡◌, ℕ, ◌<◌, ◌≤◌, Bool, List, length}
use Rattle.multigraph.specs.Graph.{Multigraph}
use Rattle.rotations.specs.Rotation.{IsRotationSystem}
use Rattle.faces.specs.Euler.{dart_count, IsPlane, IsPlaneSystem}
use Rattle.pair_split.specs.Tutte.{Node}
use Rattle.skeletons.specs.Items.{IsBlockTree}
use Rattle.skeletons.specs.Families.{skeleton_graph, system_at, AreSkeletonSystems, FollowsFamily}
use Rattle.skeleton_faces.specs.Faces.{face_length, EdgesWeighOne, LinksAreHeavy, NoneIsHeavier}
use Rattle.skeleton_faces.specs.Demands.{AreDemands}
use Rattle.skeleton_faces.specs.Tables.{IsTable}

-- weights of items, one for an edge, so great for links that no face of a dart of a link weighs more than the link and the link
-- back: then no face of the block is longer than the heaviest face of the skeletons
abbrev pub FacesAreNoLonger : Type 0
FacesAreNoLonger = (g : Multigraph) (nodes : List Node) (family : List (List (List ℕ))) (r : List (List ℕ)) (weight : ℕ → ℕ → ℕ) (most : ℕ) → IsBlockTree g nodes → AreSkeletonSystems nodes family → IsRotationSystem g r
    → FollowsFamily nodes family r → ((k : ℕ) → k < length nodes → IsPlane (skeleton_graph nodes k) (system_at family k)) → EdgesWeighOne nodes weight → LinksAreHeavy nodes family weight
    → NoneIsHeavier nodes family weight most → (d : ℕ) → d < dart_count g → face_length g r d ≤ most

-- and so in every plane rotation system of the block, where the weights bound the faces in one family of plane rotation systems
abbrev pub NoSystemHasLonger : Type 0
NoSystemHasLonger = (g : Multigraph) (nodes : List Node) (family : List (List (List ℕ))) (weight : ℕ → ℕ → ℕ) (most : ℕ) → IsBlockTree g nodes → AreSkeletonSystems nodes family
    → ((k : ℕ) → k < length nodes → IsPlane (skeleton_graph nodes k) (system_at family k)) → EdgesWeighOne nodes weight → IsTable nodes family weight most
    → (q : List (List ℕ)) → IsPlaneSystem g q → (d : ℕ) → d < dart_count g → face_length g q d ≤ most

-- faces of the skeletons that fit together are one face of the block, as long at least as the face at the top weighs
abbrev pub FacesFitTogether : Type 0
FacesFitTogether = (g : Multigraph) (nodes : List Node) (family : List (List (List ℕ))) (r : List (List ℕ)) (weight : ℕ → ℕ → ℕ) (top len : ℕ) (is_on : ℕ → Bool) (on : ℕ → ℕ → Bool) (up rank : ℕ → ℕ)
    → IsBlockTree g nodes → AreSkeletonSystems nodes family → IsRotationSystem g r → FollowsFamily nodes family r → ((k : ℕ) → k < length nodes → IsPlane (skeleton_graph nodes k) (system_at family k))
    → EdgesWeighOne nodes weight → LinksAreHeavy nodes family weight → AreDemands nodes family weight top len is_on on up rank → (d : ℕ) × (d < dart_count g) × (len ≤ face_length g r d)
