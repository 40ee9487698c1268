-- The moves towards given choices.
use Rattle.std.specs.Prelude.{ℕ, zero, suc, cond, List, [], ◌++◌}
use Rattle.pair_split.specs.Tutte.{Node, node_at}
use Rattle.skeletons.specs.Choices.{choice}
use Rattle.skeletons.specs.Moves.{Move, is_same, move_of_kind}

-- the move of node k that makes its choice these keys: none where it is this one
abbrev pub move_towards : List Node → List (List ℕ) → ℕ → List ℕ → List Move
move_towards nodes r k keys = cond (is_same (choice nodes r k) keys) [] (move_of_kind (node_at nodes k).kind k keys)

-- those of the nodes below n, in order of the nodes
abbrev pub moves_towards : List Node → List (List ℕ) → (ℕ → List ℕ) → ℕ → List Move
moves_towards nodes r keys zero = []
moves_towards nodes r keys (suc n) = moves_towards nodes r keys n ++ move_towards nodes r n (keys n)
