-- Lists of rotation systems: all plane ones, those that keep the choices of locked nodes, those that moves reach; ranks; how
-- many they are.
use Rattle.std.specs.Prelude.{◌≡◌, ℕ, zero, suc, ◌+◌, ◌*◌, ◌<◌, ◌↔◌, Bool, true, false, cond, List, [], length, slice_index_or, All, AllPairs, Contains}
use Rattle.multigraph.specs.Graph.{Multigraph}
use Rattle.pair_split.specs.Tutte.{Node, node_at}
use Rattle.pair_split.specs.declared.components.Kind.{Kind}
use Rattle.pair_split.specs.declared.components.Kind.TheVariants.{S, P, R, B}
use Rattle.faces.specs.Euler.{IsPlaneSystem}
use Rattle.skeletons.specs.Choices.{choice, Precedes}
use Rattle.skeletons.specs.Moves.{Move, moved_node, Lead}

-- the members of l are the rotation systems with the property M, each before all later ones
pub record IsListOf (nodes : List Node) (M : List (List ℕ) → Type 0) (l : List (List (List ℕ))) : Type 0 where
  pub rising : AllPairs (Precedes nodes) l
  pub members : (r : List (List ℕ)) → Contains l r ↔ M r

-- the full list: all plane rotation systems
abbrev pub IsFullList : Multigraph → List Node → List (List (List ℕ)) → Type 0
IsFullList g nodes l = IsListOf nodes (IsPlaneSystem g) l

-- q has the choices of r at the locked nodes
abbrev pub KeepsChoices : List Node → (ℕ → Bool) → List (List ℕ) → List (List ℕ) → Type 0
KeepsChoices nodes locked r q = (k : ℕ) → k < length nodes → locked k ≡ true → choice nodes q k ≡ choice nodes r k

-- q is plane and has the choices of r at the locked nodes
pub record IsKept (g : Multigraph) (nodes : List Node) (locked : ℕ → Bool) (r q : List (List ℕ)) : Type 0 where
  pub plane : IsPlaneSystem g q
  pub keeps : KeepsChoices nodes locked r q

-- the list with locked nodes: the plane rotation systems that have the choices of r there
abbrev pub IsKeptList : Multigraph → List Node → (ℕ → Bool) → List (List ℕ) → List (List (List ℕ)) → Type 0
IsKeptList g nodes locked r l = IsListOf nodes (IsKept g nodes locked r) l

-- some moves of nodes that are not locked lead from r to q
pub record IsReached (g : Multigraph) (nodes : List Node) (locked : ℕ → Bool) (r q : List (List ℕ)) : Type 0 where
  pub moves : List Move
  pub unlocked : All (λ move. locked (moved_node move) ≡ false) moves
  pub lead : Lead g nodes (λ s. Unit {0}) moves r q

-- the reachable list: what moves of nodes that are not locked lead to from r
abbrev pub IsReachedList : Multigraph → List Node → (ℕ → Bool) → List (List ℕ) → List (List (List ℕ)) → Type 0
IsReachedList g nodes locked r l = IsListOf nodes (IsReached g nodes locked r) l

-- the rank of r in a list is its place, from 0
pub record IsRank (l : List (List (List ℕ))) (r : List (List ℕ)) (rank : ℕ) : Type 0 where
  pub within : rank < length l
  pub is_there : slice_index_or l rank [] ≡ r

-- 1 for no item, and (n - 1)! for n items
abbrev pub cyclic_orders : ℕ → ℕ
cyclic_orders zero = 1
cyclic_orders (suc zero) = 1
cyclic_orders (suc (suc n)) = (n + 1) * cyclic_orders (suc n)

-- how many choices a node of this kind with this many items has in a planar block
abbrev pub choice_count : Kind → ℕ → ℕ
choice_count P n = cyclic_orders n
choice_count R n = 2
choice_count S n = 1
choice_count B n = 1

-- the product over the nodes below n that are not locked
abbrev pub count_below : List Node → (ℕ → Bool) → ℕ → ℕ
count_below nodes locked zero = 1
count_below nodes locked (suc n) = count_below nodes locked n * cond (locked n) 1 (choice_count (node_at nodes n).kind (length (node_at nodes n).items))

-- the product over all nodes that are not locked
abbrev pub list_count : List Node → (ℕ → Bool) → ℕ
list_count nodes locked = count_below nodes locked (length nodes)
