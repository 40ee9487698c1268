use Rattle.std.proofs.Common.{◌≡◌, ◌++◌, map, take, drop}
use Rattle.spqr_tree.specs.Merging.{group_of}
use Rattle.spqr_tree.specs.Ranking.{value_at, placed}
use Rattle.spqr_tree.proofs.naming.place_pieces.Given as goal

abbrev pub invariant-loop-piece : goal.invariant-loop-piece
invariant-loop-piece l = l.pieces ≡ map (placed (λ x. value_at l.places (group_of l.lead x))) (take l.piece-index l.initial.pieces) ++ drop l.piece-index l.initial.pieces
