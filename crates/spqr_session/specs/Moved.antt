-- What moves make of a rotation system: flips and permutes as functions; and moves that lead back.
use Rattle.std.specs.Prelude.{◌≡◌, ℕ, ◌==◌, true, not, cond, List, [], ◌∷◌, length, map, filter, reverse, All}
use Rattle.std.specs.List.{concat}
use Rattle.permutations.specs.Cyclic.{first_or, turned, from_least}
use Rattle.permutations.specs.Members.{is_distinct}
use Rattle.multigraph.specs.Graph.{numbers_below}
use Rattle.rotations.specs.Rotation.{order_at}
use Rattle.pair_split.specs.Tutte.{Node, group}
use Rattle.skeletons.specs.Items.{has_vertex, least_vertex}
use Rattle.skeletons.specs.Round.{keys_met}
use Rattle.skeletons.specs.Choices.{choice}
use Rattle.skeletons.specs.Moves.{Move, flip, permute, moved_node}
use Rattle.embed_moves.specs.Made.{Fits}

-- the group with the key k, in the order in which it is visited on the way around from a member with another key
abbrev pub group_round : (ℕ → ℕ) → List ℕ → ℕ → List ℕ
group_round key l k = filter (λ x. key x == k) (turned l (first_or 0 (filter (λ x. not (key x == k)) l)))

-- the groups with these keys, one after the other
abbrev pub in_groups : (ℕ → ℕ) → List ℕ → List ℕ → List ℕ
in_groups key l keys = concat (map (group_round key l) keys)

-- the keys in whose order a move of a node puts the groups at its vertex v: a flip those found there in reverse order, a
-- permute those given at the lesser pole, and at the other pole the reverse
abbrev pub keys_moved : List Node → Move → ℕ → List ℕ → List ℕ
keys_moved nodes (flip k) v l = reverse (keys_met (group nodes k) l)
keys_moved nodes (permute k keys) v l = cond (v == least_vertex nodes k) keys (reverse keys)

-- the cyclic order around v after a move: at the vertices of the node its groups in the order of these keys, from the least edge
-- on; other vertices stay
abbrev pub order_moved : List Node → Move → ℕ → List ℕ → List ℕ
order_moved nodes move v l = cond (has_vertex nodes (moved_node move) v) (from_least (in_groups (group nodes (moved_node move)) l (keys_moved nodes move v l))) l

-- what a move makes of a rotation system
unfoldable pub moved : List Node → Move → List (List ℕ) → List (List ℕ)
moved nodes move r = map (λ v. order_moved nodes move v (order_at r v)) (numbers_below (length r))

-- what moves make of it, one after the other
abbrev pub all_moved : List Node → List Move → List (List ℕ) → List (List ℕ)
all_moved nodes [] r = r
all_moved nodes (move ∷ moves) r = all_moved nodes moves (moved nodes move r)

-- moves of the tree, no two of one node
pub record AreOfNodes (nodes : List Node) (moves : List Move) : Type 0 where
  pub fit : All (Fits nodes) moves
  pub apart : is_distinct (map moved_node moves) ≡ true

-- the move that leads back to r from where a move leads: the same flip, or a permute to the choice that r has
abbrev pub way_back : List Node → List (List ℕ) → Move → Move
way_back nodes r (flip k) = flip k
way_back nodes r (permute k keys) = permute k (choice nodes r k)

-- moves of the tree lead back to r from where others lead
pub record LeadBack (nodes : List Node) (r : List (List ℕ)) (forth back : List Move) : Type 0 where
  pub fit : All (Fits nodes) back
  pub returns : all_moved nodes back (all_moved nodes forth r) ≡ r
