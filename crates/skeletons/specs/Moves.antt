-- Moves on rotation systems (Di Battista and Tamassia 1996): a triconnected node flipped, a bond permuted.
use Rattle.std.specs.Prelude.{◌≡◌, ℕ, zero, suc, ◌<◌, Bool, true, false, not, ◌&&◌, cond, List, [], ◌∷◌, ◌++◌, length, reverse, IsPermutation}
use Rattle.permutations.specs.Runs.{InRuns, group_keys}
use Rattle.multigraph.specs.Graph.{Multigraph}
use Rattle.rotations.specs.Rotation.{order_at, IsRotationSystem}
use Rattle.pair_split.specs.Tutte.{Node, node_at, group, is_before}
use Rattle.pair_split.specs.declared.components.Kind.{Kind}
use Rattle.pair_split.specs.declared.components.Kind.TheVariants.{S, P, R, B}
use Rattle.skeletons.specs.Items.{node_keys, has_vertex, least_vertex, greatest_vertex}
use Rattle.skeletons.specs.Choices.{choice}

-- the same groups in the reverse cyclic order, the order inside each group as it was
pub record AreReversed (key : ℕ → ℕ) (l m : List ℕ) : Type 0 where
  pub groups : List (ℕ × List ℕ)
  pub before : InRuns key l groups
  pub after : InRuns key m (reverse groups)

-- the same groups in the cyclic order of these keys, the order inside each group as it was
pub record AreRegrouped (key : ℕ → ℕ) (l keys m : List ℕ) : Type 0 where
  pub before : List (ℕ × List ℕ)
  pub after : List (ℕ × List ℕ)
  pub runs_before : InRuns key l before
  pub runs_after : InRuns key m after
  pub same_groups : IsPermutation before after
  pub order : group_keys after ≡ keys

-- all vertices but those of node k stay as they were
abbrev pub OthersStay : List Node → ℕ → List (List ℕ) → List (List ℕ) → Type 0
OthersStay nodes k r q = (v : ℕ) → has_vertex nodes k v ≡ false → order_at q v ≡ order_at r v

-- a flip of node k leads from r to q: at each of its vertices the cyclic order of the groups is reversed
pub record FlipLeads (g : Multigraph) (nodes : List Node) (k : ℕ) (r q : List (List ℕ)) : Type 0 where
  pub system : IsRotationSystem g q
  pub turned : (v : ℕ) → has_vertex nodes k v ≡ true → AreReversed (group nodes k) (order_at r v) (order_at q v)
  pub stays : OthersStay nodes k r q

-- a permute of node k to these keys leads from r to q: at the lesser pole the groups are in the cyclic order of the keys, at
-- the other in the reverse
pub record PermuteLeads (g : Multigraph) (nodes : List Node) (k : ℕ) (keys : List ℕ) (r q : List (List ℕ)) : Type 0 where
  pub system : IsRotationSystem g q
  pub arrangement : IsPermutation (node_keys nodes k) keys
  pub lesser : AreRegrouped (group nodes k) (order_at r (least_vertex nodes k)) keys (order_at q (least_vertex nodes k))
  pub greater : AreRegrouped (group nodes k) (order_at r (greatest_vertex nodes k)) (reverse keys) (order_at q (greatest_vertex nodes k))
  pub stays : OthersStay nodes k r q

-- a flip of a node, or a permute of a node to these keys
pub data Move : Type 0 where
  flip : (k : ℕ) → Move
  permute : (k : ℕ) (keys : List ℕ) → Move

-- the node that is moved
abbrev pub moved_node : Move → ℕ
moved_node (flip k) = k
moved_node (permute k keys) = k

-- a node of this kind
abbrev pub IsNodeOfKind : List Node → ℕ → Kind → Type 0
IsNodeOfKind nodes k kind = (k < length nodes) × ((node_at nodes k).kind ≡ kind)

-- the move leads from r to q: triconnected nodes are flipped, and bonds are permuted
abbrev pub MoveLeads : Multigraph → List Node → Move → List (List ℕ) → List (List ℕ) → Type 0
MoveLeads g nodes (flip k) r q = IsNodeOfKind nodes k R × FlipLeads g nodes k r q
MoveLeads g nodes (permute k keys) r q = IsNodeOfKind nodes k P × PermuteLeads g nodes k keys r q

-- the moves, one after the other, lead from r to q, and each rotation system on the way after r satisfies the condition
abbrev pub Lead : Multigraph → List Node → (List (List ℕ) → Type 0) → List Move → List (List ℕ) → List (List ℕ) → Type 0
Lead g nodes Through [] r q = r ≡ q
Lead g nodes Through (move ∷ moves) r q = (s : List (List ℕ)) × MoveLeads g nodes move r s × Through s × Lead g nodes Through moves s q

-- whether neither list comes before the other: they are the same
abbrev pub is_same : List ℕ → List ℕ → Bool
is_same c d = not (is_before c d) && not (is_before d c)

-- the move of node k that makes its choice this one, by its kind
abbrev pub move_of_kind : Kind → ℕ → List ℕ → List Move
move_of_kind R k keys = flip k ∷ []
move_of_kind P k keys = permute k keys ∷ []
move_of_kind S k keys = []
move_of_kind B k keys = []

-- the move of node k from r towards q: none where the choices agree
abbrev pub move_at : List Node → List (List ℕ) → List (List ℕ) → ℕ → List Move
move_at nodes r q k = cond (is_same (choice nodes r k) (choice nodes q k)) [] (move_of_kind (node_at nodes k).kind k (choice nodes q k))

-- those of the nodes below n, in order of the nodes
abbrev pub moves_below : List Node → List (List ℕ) → List (List ℕ) → ℕ → List Move
moves_below nodes r q zero = []
moves_below nodes r q (suc n) = moves_below nodes r q n ++ move_at nodes r q n

-- the moves from r to q
abbrev pub moves_between : List Node → List (List ℕ) → List (List ℕ) → List Move
moves_between nodes r q = moves_below nodes r q (length nodes)
