-- The way around a vertex, by the groups of a node of the tree: groups in runs, and the keys reached.
use Rattle.std.specs.Prelude.{◌≡◌, ℕ, true, cond, List, [], ◌∷◌, map}
use Rattle.permutations.specs.Cyclic.{from_least}
use Rattle.permutations.specs.Members.{is_member}
use Rattle.permutations.specs.Runs.{InRuns}
use Rattle.rotations.specs.Rotation.{order_at}
use Rattle.pair_split.specs.Tutte.{Node, group}
use Rattle.skeletons.specs.Items.{has_vertex}

-- each member of the list once, at its last place
abbrev pub each_once : List ℕ → List ℕ
each_once [] = []
each_once (x ∷ xs) = cond (is_member x xs) (each_once xs) (x ∷ each_once xs)

-- the keys reached on the way around the list, each once, written from the least on
abbrev pub keys_met : (ℕ → ℕ) → List ℕ → List ℕ
keys_met key l = from_least (each_once (map key l))

-- the keys of the items of node k that are reached on the way around v
abbrev pub keys_round : List Node → List (List ℕ) → ℕ → ℕ → List ℕ
keys_round nodes r k v = keys_met (group nodes k) (order_at r v)

-- around v the edges of each group of node k are in one run: the cyclic order is cut into these groups
abbrev pub StandInRuns : List Node → List (List ℕ) → ℕ → ℕ → Type 0
StandInRuns nodes r k v = (gs : List (ℕ × List ℕ)) × InRuns (group nodes k) (order_at r v) gs

-- they do so at each vertex of each node
abbrev pub IsContiguous : List Node → List (List ℕ) → Type 0
IsContiguous nodes r = (k v : ℕ) → has_vertex nodes k v ≡ true → StandInRuns nodes r k v
