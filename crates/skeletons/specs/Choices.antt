-- The choice of a node, and the order of rotation systems by their choices.
use Rattle.std.specs.Prelude.{◌≡◌, ℕ, zero, suc, ◌<◌, Bool, true, false, not, ◌&&◌, ◌||◌, List, [], length}
use Rattle.pair_split.specs.Tutte.{Node, node_at, is_before}
use Rattle.pair_split.specs.declared.components.Kind.{Kind}
use Rattle.pair_split.specs.declared.components.Kind.TheVariants.{S, P, R, B}
use Rattle.skeletons.specs.Items.{least_vertex}
use Rattle.skeletons.specs.Round.{keys_round}

-- bonds and triconnected nodes have a choice, polygons and nodes of one or two edges have none
abbrev pub choice_of_kind : Kind → List ℕ → List ℕ
choice_of_kind P keys = keys
choice_of_kind R keys = keys
choice_of_kind S keys = []
choice_of_kind B keys = []

-- the choice of node k: the keys of its items around its least vertex, from the least on
abbrev pub choice : List Node → List (List ℕ) → ℕ → List ℕ
choice nodes r k = choice_of_kind (node_at nodes k).kind (keys_round nodes r k (least_vertex nodes k))

-- r comes before q: at the least node with different choices that of r is the smaller
pub record Precedes (nodes : List Node) (r q : List (List ℕ)) : Type 0 where
  pub node : ℕ
  pub is_node : node < length nodes
  pub same : (j : ℕ) → j < node → choice nodes r j ≡ choice nodes q j
  pub smaller : is_before (choice nodes r node) (choice nodes q node) ≡ true

-- whether it does so by a node below n
abbrev pub precedes_below : List Node → List (List ℕ) → List (List ℕ) → ℕ → Bool
precedes_below nodes r q zero = false
precedes_below nodes r q (suc n) = precedes_below nodes r q n || (not (precedes_below nodes q r n) && is_before (choice nodes r n) (choice nodes q n))

-- whether r comes before q
abbrev pub precedes : List Node → List (List ℕ) → List (List ℕ) → Bool
precedes nodes r q = precedes_below nodes r q (length nodes)
