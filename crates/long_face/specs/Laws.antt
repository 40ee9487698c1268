-- What is proved of the longest face in terms of the skeletons, as statements.
use Rattle.std.specs.Prelude.{◌≡◌, ℕ, ◌<◌, Bool, true, List, length, Option}
use Rattle.permutations.specs.Members.{is_distinct}
use Rattle.multigraph.specs.Graph.{Multigraph}
use Rattle.faces.specs.Euler.{IsPlane, IsPlaneSystem}
use Rattle.pair_split.specs.Tutte.{Node, components}
use Rattle.skeletons.specs.Items.{IsBlockTree}
use Rattle.skeletons.specs.Choices.{choice}
use Rattle.skeletons.specs.Families.{skeleton_graph, system_at, AreSkeletonSystems, FollowsFamily}
use Rattle.skeleton_faces.specs.Faces.{EdgesWeighOne}
use Rattle.skeleton_faces.specs.Tables.{IsTable}
use Rattle.long_face.specs.Longest.{HasFace, NoneLonger, IsLongest}
use Rattle.spqr_tree.specs.Keys.{AreOrdered}
use Rattle.long_face.specs.Wanted.{Want, AreWanted, choice_wanted}
use Rattle.long_face.specs.Moves.{moves_towards}
use Rattle.long_face.specs.Ready.{IsReady}
use Rattle.long_face.specs.Settled.{has_want, want_or, want_at, AreSettled}

-- where the weights bound the faces of the skeletons, they bound those of every plane rotation system of the block
abbrev pub TableBoundsFaces : Type 0
TableBoundsFaces = (g : Multigraph) (nodes : List Node) (family : List (List (List ℕ))) (weight : ℕ → ℕ → ℕ) (most : ℕ) → IsBlockTree g nodes → AreSkeletonSystems nodes family
    → ((k : ℕ) → k < length nodes → IsPlane (skeleton_graph nodes k) (system_at family k)) → EdgesWeighOne nodes weight → IsTable nodes family weight most → NoneLonger g most

-- and where faces are wanted of the skeletons, the top's as heavy as any, some plane rotation system of the block has the choices that
-- make them faces, and a face that is as long
abbrev pub WantedIsReached : Type 0
WantedIsReached = (g : Multigraph) (nodes : List Node) (r : List (List ℕ)) (family : List (List (List ℕ))) (weight : ℕ → ℕ → ℕ) (top most : ℕ) (is_on : ℕ → Bool) (want : ℕ → Want) (rank : ℕ → ℕ) → IsBlockTree g nodes → IsPlaneSystem g r
    → AreSkeletonSystems nodes family → FollowsFamily nodes family r → EdgesWeighOne nodes weight → IsTable nodes family weight most → AreWanted nodes family weight top most is_on want rank
    → (q : List (List ℕ)) × IsPlaneSystem g q × HasFace g q most × ((k : ℕ) → k < length nodes → choice nodes q k ≡ choice_wanted nodes r is_on want k)

-- where each node wants the heaviest face of the dart that its parent asks for, from the top on, the moves towards the wanted choices
-- lead from r, which has no face of this length, to a longest face
abbrev pub WalkLeadsToLongest : Type 0
WalkLeadsToLongest = (g : Multigraph) (nodes : List Node) (r : List (List ℕ)) (family : List (List (List ℕ))) (weight : ℕ → ℕ → ℕ) (top most : ℕ) (parents order : List ℕ) (wants : List (Option Want))
    → IsReady g nodes family weight top most → IsPlaneSystem g r → FollowsFamily nodes family r → EdgesWeighOne nodes weight → AreOrdered (components nodes) top parents order → is_distinct order ≡ true
    → AreSettled nodes family weight top most parents wants → (HasFace g r most → ⊥)
    → IsLongest g nodes r most (moves_towards nodes r (choice_wanted nodes r (λ k. has_want (want_at wants k)) (λ k. want_or (want_at wants k))) (length nodes))
