-- What is proved of skeletons, or is to be proved in the crates above, as statements.
use Rattle.std.specs.Prelude.{◌≡◌, ℕ, ◌+◌, ◌<◌, ◌↔◌, Bool, true, false, List, [], length, reverse, slice_index_or, IsPermutation, All}
use Rattle.permutations.specs.Cyclic.{from_least}
use Rattle.permutations.specs.Runs.{group_keys, InRuns}
use Rattle.multigraph.specs.Graph.{Multigraph, IsGraph}
use Rattle.graph_theory.specs.Triconnected.{IsTriconnected}
use Rattle.rotations.specs.Rotation.{IsRotationSystem}
use Rattle.faces.specs.Euler.{IsPlane, IsPlaneSystem}
use Rattle.rotations.specs.Runs.{mirror_image}
use Rattle.pair_split.specs.Tutte.{Node, IsTutte}
use Rattle.pair_split.specs.declared.components.Kind.TheVariants.{P, R}
use Rattle.skeletons.specs.Items.{keys_at, has_vertex, node_keys, IsBlockTree}
use Rattle.skeletons.specs.Round.{keys_met, keys_round, IsContiguous}
use Rattle.skeletons.specs.Choices.{choice, Precedes, precedes}
use Rattle.skeletons.specs.Moves.{IsNodeOfKind, FlipLeads, PermuteLeads, Move, moved_node, MoveLeads, Lead, moves_between}
use Rattle.skeletons.specs.Lists.{IsFullList, IsKept, IsKeptList, IsReached, IsReachedList, list_count}
use Rattle.skeletons.specs.Families.{skeleton_graph, system_at, AreSkeletonSystems, FollowsFamily, IsPossible}

-- the keys reached on the way around a list in runs are the keys of the runs, from the least on
abbrev pub KeysMetAreOfRuns : Type 0
KeysMetAreOfRuns = (key : ℕ → ℕ) (l : List ℕ) (gs : List (ℕ × List ℕ)) → InRuns key l gs → keys_met key l ≡ from_least (group_keys gs)

-- around a vertex of a node they are the keys of the items there
abbrev pub KeysRoundAreOfItems : Type 0
KeysRoundAreOfItems = (g : Multigraph) (nodes : List Node) (r : List (List ℕ)) → IsBlockTree g nodes → IsRotationSystem g r → IsContiguous nodes r → (k v : ℕ) → has_vertex nodes k v ≡ true
    → IsPermutation (keys_at nodes k v) (keys_round nodes r k v)

-- in every plane rotation system of a block the groups are in runs, at each vertex of each node
abbrev pub PlaneIsContiguous : Type 0
PlaneIsContiguous = (g : Multigraph) (nodes : List Node) (r : List (List ℕ)) → IsBlockTree g nodes → IsPlaneSystem g r → IsContiguous nodes r

-- each family of rotation systems of the skeletons is followed by a rotation system of the block
abbrev pub FamilyIsFollowed : Type 0
FamilyIsFollowed = (g : Multigraph) (nodes : List Node) (family : List (List (List ℕ))) → IsBlockTree g nodes → AreSkeletonSystems nodes family
    → (r : List (List ℕ)) × IsRotationSystem g r × FollowsFamily nodes family r

-- by one only
abbrev pub FollowerIsUnique : Type 0
FollowerIsUnique = (g : Multigraph) (nodes : List Node) (family : List (List (List ℕ))) (r q : List (List ℕ)) → IsTutte g nodes → AreSkeletonSystems nodes family
    → IsRotationSystem g r → IsRotationSystem g q → FollowsFamily nodes family r → FollowsFamily nodes family q → r ≡ q

-- each rotation system of the block with all groups in runs follows a family
abbrev pub ContiguousFollows : Type 0
ContiguousFollows = (g : Multigraph) (nodes : List Node) (r : List (List ℕ)) → IsBlockTree g nodes → IsRotationSystem g r → IsContiguous nodes r
    → (family : List (List (List ℕ))) × AreSkeletonSystems nodes family × FollowsFamily nodes family r

-- one only
abbrev pub FamilyIsUnique : Type 0
FamilyIsUnique = (g : Multigraph) (nodes : List Node) (family other : List (List (List ℕ))) (r : List (List ℕ)) → IsTutte g nodes → AreSkeletonSystems nodes family → AreSkeletonSystems nodes other
    → IsRotationSystem g r → FollowsFamily nodes family r → FollowsFamily nodes other r → family ≡ other

-- a rotation system that follows a family is plane exactly where each member of the family is
abbrev pub PlaneWhereMembersAre : Type 0
PlaneWhereMembersAre = (g : Multigraph) (nodes : List Node) (family : List (List (List ℕ))) (r : List (List ℕ)) → IsBlockTree g nodes → AreSkeletonSystems nodes family
    → IsRotationSystem g r → FollowsFamily nodes family r
    → (IsPlane g r ↔ ((k : ℕ) → k < length nodes → IsPlane (skeleton_graph nodes k) (system_at family k)))

-- the skeletons of triconnected nodes are triconnected graphs
abbrev pub SkeletonIsTriconnected : Type 0
SkeletonIsTriconnected = (g : Multigraph) (nodes : List Node) → IsBlockTree g nodes → (k : ℕ) → IsNodeOfKind nodes k R
    → IsGraph (skeleton_graph nodes k) × IsTriconnected (skeleton_graph nodes k)

-- a block has a plane rotation system exactly where each triconnected skeleton has one
abbrev pub PlanarWhereSkeletonsAre : Type 0
PlanarWhereSkeletonsAre = (g : Multigraph) (nodes : List Node) → IsBlockTree g nodes
    → (((r : List (List ℕ)) × IsPlaneSystem g r) ↔ ((k : ℕ) → IsNodeOfKind nodes k R → (s : List (List ℕ)) × IsPlaneSystem (skeleton_graph nodes k) s))

-- the choices determine a plane rotation system
abbrev pub ChoicesTell : Type 0
ChoicesTell = (g : Multigraph) (nodes : List Node) (r q : List (List ℕ)) → IsBlockTree g nodes → IsPlaneSystem g r → IsPlaneSystem g q
    → ((k : ℕ) → k < length nodes → choice nodes r k ≡ choice nodes q k) → r ≡ q

-- and are possible choices
abbrev pub ChoiceIsPossible : Type 0
ChoiceIsPossible = (g : Multigraph) (nodes : List Node) (r : List (List ℕ)) → IsBlockTree g nodes → IsPlaneSystem g r → (k : ℕ) → k < length nodes → IsPossible nodes k (choice nodes r k)

-- every selection of possible choices is that of a plane rotation system
abbrev pub SelectionExists : Type 0
SelectionExists = (g : Multigraph) (nodes : List Node) (selected : ℕ → List ℕ) → IsBlockTree g nodes → ((k : ℕ) → k < length nodes → IsPossible nodes k (selected k))
    → (r : List (List ℕ)) × IsPlaneSystem g r × ((k : ℕ) → k < length nodes → choice nodes r k ≡ selected k)

-- from a rotation system with all groups in runs each triconnected node can be flipped
abbrev pub FlipExists : Type 0
FlipExists = (g : Multigraph) (nodes : List Node) (r : List (List ℕ)) → IsBlockTree g nodes → IsRotationSystem g r → IsContiguous nodes r → (k : ℕ) → IsNodeOfKind nodes k R
    → (q : List (List ℕ)) × FlipLeads g nodes k r q

-- and each bond permuted to each arrangement of its keys
abbrev pub PermuteExists : Type 0
PermuteExists = (g : Multigraph) (nodes : List Node) (r : List (List ℕ)) → IsBlockTree g nodes → IsRotationSystem g r → IsContiguous nodes r → (k : ℕ) → IsNodeOfKind nodes k P
    → (keys : List ℕ) → IsPermutation (node_keys nodes k) keys → (q : List (List ℕ)) × PermuteLeads g nodes k keys r q

-- a move leads to one rotation system
abbrev pub MoveIsUnique : Type 0
MoveIsUnique = (g : Multigraph) (nodes : List Node) (move : Move) (r q s : List (List ℕ)) → IsBlockTree g nodes → IsRotationSystem g r → MoveLeads g nodes move r q → MoveLeads g nodes move r s → q ≡ s

-- from a rotation system with all groups in runs it leads to such a one
abbrev pub MoveKeepsContiguous : Type 0
MoveKeepsContiguous = (g : Multigraph) (nodes : List Node) (move : Move) (r q : List (List ℕ)) → IsBlockTree g nodes → IsRotationSystem g r → IsContiguous nodes r → MoveLeads g nodes move r q → IsContiguous nodes q

-- with the same choices at all other nodes
abbrev pub MoveKeepsOthers : Type 0
MoveKeepsOthers = (g : Multigraph) (nodes : List Node) (move : Move) (r q : List (List ℕ)) → IsBlockTree g nodes → IsRotationSystem g r → IsContiguous nodes r → MoveLeads g nodes move r q
    → (j : ℕ) → j < length nodes → (j ≡ moved_node move → ⊥) → choice nodes q j ≡ choice nodes r j

-- a flip reverses the choice of its node
abbrev pub FlipTurnsChoice : Type 0
FlipTurnsChoice = (g : Multigraph) (nodes : List Node) (k : ℕ) (r q : List (List ℕ)) → IsBlockTree g nodes → IsRotationSystem g r → IsContiguous nodes r → IsNodeOfKind nodes k R → FlipLeads g nodes k r q
    → choice nodes q k ≡ from_least (reverse (choice nodes r k))

-- a permute makes the choice of its node the keys, from the least on
abbrev pub PermuteSetsChoice : Type 0
PermuteSetsChoice = (g : Multigraph) (nodes : List Node) (k : ℕ) (keys : List ℕ) (r q : List (List ℕ)) → IsBlockTree g nodes → IsRotationSystem g r → IsContiguous nodes r → IsNodeOfKind nodes k P → PermuteLeads g nodes k keys r q
    → choice nodes q k ≡ from_least keys

-- the mirror image reverses every choice
abbrev pub MirrorTurnsChoices : Type 0
MirrorTurnsChoices = (g : Multigraph) (nodes : List Node) (r : List (List ℕ)) → IsBlockTree g nodes → IsRotationSystem g r → IsContiguous nodes r → (k : ℕ) → k < length nodes
    → choice nodes (mirror_image r) k ≡ from_least (reverse (choice nodes r k))

-- from a plane rotation system a move leads to a plane one
abbrev pub MoveKeepsPlane : Type 0
MoveKeepsPlane = (g : Multigraph) (nodes : List Node) (move : Move) (r q : List (List ℕ)) → IsBlockTree g nodes → IsPlaneSystem g r → MoveLeads g nodes move r q → IsPlaneSystem g q

-- moves of nodes that are not locked reach just the plane rotation systems that keep the choices of the locked ones
abbrev pub ReachedIsKept : Type 0
ReachedIsKept = (g : Multigraph) (nodes : List Node) (locked : ℕ → Bool) (r q : List (List ℕ)) → IsBlockTree g nodes → IsPlaneSystem g r
    → (IsReached g nodes locked r q ↔ IsKept g nodes locked r q)

-- so the reachable list and the list with locked nodes are one
abbrev pub ReachedListIsKeptList : Type 0
ReachedListIsKeptList = (g : Multigraph) (nodes : List Node) (locked : ℕ → Bool) (r : List (List ℕ)) (l : List (List (List ℕ))) → IsBlockTree g nodes → IsPlaneSystem g r
    → (IsReachedList g nodes locked r l ↔ IsKeptList g nodes locked r l)

-- with no node locked it is the full list
abbrev pub UnlockedListIsFull : Type 0
UnlockedListIsFull = (g : Multigraph) (nodes : List Node) (r : List (List ℕ)) (l : List (List (List ℕ)))
    → (IsKeptList g nodes (λ k. false) r l ↔ IsFullList g nodes l)

-- the moves from r to q lead from r to q, through plane rotation systems
abbrev pub MovesLead : Type 0
MovesLead = (g : Multigraph) (nodes : List Node) (r q : List (List ℕ)) → IsBlockTree g nodes → IsPlaneSystem g r → IsPlaneSystem g q
    → Lead g nodes (IsPlaneSystem g) (moves_between nodes r q) r q

-- each of them names a node at which the choices differ
abbrev pub MovesNameDifferent : Type 0
MovesNameDifferent = (nodes : List Node) (r q : List (List ℕ)) → All (λ move. (moved_node move < length nodes) × (choice nodes r (moved_node move) ≡ choice nodes q (moved_node move) → ⊥)) (moves_between nodes r q)

-- the test for "before" agrees with the definition
abbrev pub PrecedesIsTested : Type 0
PrecedesIsTested = (nodes : List Node) (r q : List (List ℕ)) → (Precedes nodes r q ↔ (precedes nodes r q ≡ true))

-- there is only one list with locked nodes
abbrev pub KeptListIsUnique : Type 0
KeptListIsUnique = (g : Multigraph) (nodes : List Node) (locked : ℕ → Bool) (r : List (List ℕ)) (l m : List (List (List ℕ))) → IsKeptList g nodes locked r l → IsKeptList g nodes locked r m → l ≡ m

-- there is one, of as many members as the product of (n - 1)! over the unlocked bonds with n items, and 2 over the unlocked
-- triconnected nodes
abbrev pub KeptListExists : Type 0
KeptListExists = (g : Multigraph) (nodes : List Node) (locked : ℕ → Bool) (r : List (List ℕ)) → IsBlockTree g nodes → IsPlaneSystem g r
    → (l : List (List (List ℕ))) × IsKeptList g nodes locked r l × (length l ≡ list_count nodes locked)

-- the last member of the full list is the mirror image of the first
abbrev pub LastIsMirrorOfFirst : Type 0
LastIsMirrorOfFirst = (g : Multigraph) (nodes : List Node) (l : List (List (List ℕ))) → IsBlockTree g nodes → IsFullList g nodes l
    → (n : ℕ) → length l ≡ n + 1 → slice_index_or l n [] ≡ mirror_image (slice_index_or l 0 [])
