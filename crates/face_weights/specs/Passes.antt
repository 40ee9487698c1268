-- State of the loops: what the passes over the nodes have done, in an order in which each is after its parent.
use Rattle.std.specs.Prelude.{◌≡◌, ◌≢◌, ℕ, ◌+◌, ◌*◌, ◌<◌, ◌≤◌, List, length, slice_index_or}
use Rattle.permutations.specs.Count.{count}
use Rattle.multigraph.specs.Graph.{Multigraph, edge_count}
use Rattle.pair_split.specs.Tutte.{Node, components, node_at, node_item, has_in_group}
use Rattle.pair_split.specs.declared.components.What.TheVariants.{Link}
use Rattle.pair_split.specs.declared.components.Item.{Item}
use Rattle.skeletons.specs.Items.{nth_item, IsBlockTree}
use Rattle.spqr_tree.specs.Keys.{parent_at}
use Rattle.face_weights.specs.Weights.{weight_by}
use Rattle.face_weights.specs.Rests.{IsRest}

-- the weights of the items of node k
abbrev pub weights_at : List Node → List ℕ → List ℕ → ℕ → ℕ → ℕ → ℕ
weights_at nodes parents below above k i = weight_by (parent_at parents k) (λ j. slice_index_or below j 0) above (node_item nodes k i).what

-- how many edges the group of item i of node k has
abbrev pub group_size : Multigraph → List Node → ℕ → ℕ → ℕ
group_size g nodes k i = count (edge_count g) (λ e. has_in_group (components nodes) k e (node_item nodes k i).what)

-- no item weighs more than twice the number of edges of its group
abbrev pub AreLight : List Node → List ℕ → List ℕ → List ℕ → Type 0
AreLight nodes parents below above =
    (g : Multigraph) → IsBlockTree g nodes → (k i : ℕ) → k < length nodes → i < length (node_at nodes k).items → weights_at nodes parents below (slice_index_or above k 0) k i ≤ 2 * group_size g nodes k i

-- no two items are links to one node
abbrev pub LinkOnce : List Item → Type 0
LinkOnce items = (i h j : ℕ) → i < length items → h < length items → (nth_item items i).what ≡ Link j → (nth_item items h).what ≡ Link j → i ≡ h

-- the rests at the first n items that are links to children are noted for the children
pub record AreHandedDown (items : List Item) (parent : ℕ) (rests : List ℕ) (n : ℕ) (old new : List ℕ) : Type 0 where
  pub number : length new ≡ length old
  pub each : (i j : ℕ) → i < n → (nth_item items i).what ≡ Link j → j ≢ parent → slice_index_or new j 0 ≡ slice_index_or rests i 0
  pub others : (x : ℕ) → ((i : ℕ) → i < n → (nth_item items i).what ≡ Link x → x ≡ parent) → slice_index_or new x 0 ≡ slice_index_or old x 0

-- the weight of the link to a node is what the node adds to its link to the parent, from place p of the order on
abbrev pub AreBelow : List Node → List (List (List ℕ)) → List ℕ → List ℕ → ℕ → List ℕ → Type 0
AreBelow nodes family parents order p below = (q h k : ℕ) → p ≤ q → q < length order → h < length (node_at nodes (slice_index_or order q 0)).items
    → (node_item nodes (slice_index_or order q 0) h).what ≡ Link k → k ≡ parent_at parents (slice_index_or order q 0)
    → IsRest nodes family (slice_index_or order q 0) (weights_at nodes parents below 0 (slice_index_or order q 0)) h (slice_index_or below (slice_index_or order q 0) 0)

-- item i of node k with what the node adds to it: no more than `most` together, and of a link to a child as much as the weight of the
-- child's link to the parent
pub record IsDone (nodes : List Node) (family : List (List (List ℕ))) (parents below above : List ℕ) (most k i : ℕ) : Type 0 where
  pub rest : ℕ
  pub is_rest : IsRest nodes family k (weights_at nodes parents below (slice_index_or above k 0) k) i rest
  pub within : weights_at nodes parents below (slice_index_or above k 0) k i + rest ≤ most
  pub child : (j : ℕ) → (node_item nodes k i).what ≡ Link j → j ≢ parent_at parents k → slice_index_or above j 0 ≡ rest

-- item i of node `top` reaches `most`
pub record IsMost (nodes : List Node) (family : List (List (List ℕ))) (parents below above : List ℕ) (most top : ℕ) : Type 0 where
  pub node : top < length nodes
  pub item : ℕ
  pub item_in : item < length (node_at nodes top).items
  pub rest : ℕ
  pub is_rest : IsRest nodes family top (weights_at nodes parents below (slice_index_or above top 0) top) item rest
  pub reached : weights_at nodes parents below (slice_index_or above top 0) top item + rest ≡ most

-- all items of the nodes before place p of the order are done, and one reaches `most`
pub record AreDone (nodes : List Node) (family : List (List (List ℕ))) (parents order below above : List ℕ) (p most top : ℕ) : Type 0 where
  pub each : (q i : ℕ) → q < p → q < length order → i < length (node_at nodes (slice_index_or order q 0)).items → IsDone nodes family parents below above most (slice_index_or order q 0) i
  pub reached : 0 < p → (q : ℕ) × (q < p) × (q < length order) × (slice_index_or order q 0 ≡ top) × IsMost nodes family parents below above most top
