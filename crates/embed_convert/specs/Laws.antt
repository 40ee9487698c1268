-- What is proved of moves and locks, as a statement.
use Rattle.std.specs.Prelude.{◌≡◌, ℕ, Bool, false, List, All}
use Rattle.pair_split.specs.Tutte.{Node}
use Rattle.skeletons.specs.Lists.{KeepsChoices}
use Rattle.skeletons.specs.Moves.{moved_node, moves_between}

-- where the choices of the locked nodes agree, no move names a locked node
abbrev pub MovesKeepLocks : Type 0
MovesKeepLocks = (nodes : List Node) (locked : ℕ → Bool) (r q : List (List ℕ)) → KeepsChoices nodes locked r q → All (λ move. locked (moved_node move) ≡ false) (moves_between nodes r q)
