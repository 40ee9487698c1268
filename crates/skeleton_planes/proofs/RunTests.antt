-- The darts of the skeletons, the edges of the block that they stand for, and where these begin and end round a vertex.
use Rattle.std.specs.Prelude.{ℕ, ◌/◌, ◌%◌, Bool, not, ◌&&◌, ◌||◌, ◌==◌, nat_lt, cond, List, length}
use Rattle.permutations.specs.Members.{is_member}
use Rattle.permutations.specs.Cyclic.{successor}
use Rattle.rotations.specs.Rotation.{order_at}
use Rattle.pair_split.specs.Tutte.{Node, components, node_at, node_item, has_in_group}

-- c is a member that passes the test, and the next one doesn't, or is c again
abbrev pub ends_run : List ℕ → (ℕ → Bool) → ℕ → Bool
ends_run l passes c = is_member c l && (passes c && (not (passes (successor l c)) || (successor l c == c)))

-- what follows the member c passes the test, and c doesn't, or is the same
abbrev pub begins_run : List ℕ → (ℕ → Bool) → ℕ → Bool
begins_run l passes c = is_member c l && (passes (successor l c) && (not (passes c) || (successor l c == c)))

-- the vertex of the block that dart z of the skeleton of node k leaves
abbrev pub end_of : List Node → ℕ → ℕ → ℕ
end_of nodes k z = cond (z % 2 == 0) (node_item nodes k (z / 2)).a (node_item nodes k (z / 2)).b

-- whether edge e of the block is in the group of the item of this dart
abbrev pub holds : List Node → ℕ → ℕ → ℕ → Bool
holds nodes k z e = has_in_group (components nodes) k e (node_item nodes k (z / 2)).what

-- whether node k has an item with this dart
abbrev pub is_dart : List Node → ℕ → ℕ → Bool
is_dart nodes k z = nat_lt (z / 2) (length (node_at nodes k).items)

-- whether the edges for which the dart stands end with c, on the way round the vertex that it leaves
abbrev pub ends_with : List Node → List (List ℕ) → ℕ → ℕ → ℕ → Bool
ends_with nodes r k z c = is_dart nodes k z && ends_run (order_at r (end_of nodes k z)) (holds nodes k z) c

-- whether they begin behind c
abbrev pub begins_behind : List Node → List (List ℕ) → ℕ → ℕ → ℕ → Bool
begins_behind nodes r k z c = is_dart nodes k z && begins_run (order_at r (end_of nodes k z)) (holds nodes k z) c
