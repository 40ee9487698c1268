use Rattle.std.proofs.Common.{◌≡◌, ◌+◌, ◌++◌, map, take, drop, slice_set, slice_index_or, ℕ, sym, subst, arith}
use Rattle.std.proofs.lemmas.List.{get_or_default}
use Rattle.std.proofs.lemmas.List.Edits.{map_over_more}
use Rattle.pair_split.specs.declared.components.Piece.{Piece}
use Rattle.pair_split.proofs.Links.{no_piece}
use Rattle.spqr_tree.specs.Merging.{group_of}
use Rattle.spqr_tree.specs.Ranking.{value_at, placed}
use Rattle.spqr_tree.proofs.naming.place_pieces.Goals as goal

-- one piece more
pub loop-piece-preserved : goal.loop-piece-preserved
loop-piece-preserved c =
    let i = c.loop-piece.piece-index in
    let turn = λ (x : ℕ). value_at c.args.places.now (group_of c.args.lead.now x) in
    subst (λ (p : Piece). slice_set c.loop-piece.pieces i p ≡ map (placed turn) (take (i + 1) c.args.pieces.now) ++ drop (i + 1) c.args.pieces.now) (sym c.place_piece.ensures)
    (map_over_more (placed turn) c.args.pieces.now c.loop-piece.pieces i (slice_index_or c.loop-piece.pieces i no_piece) c.loop-piece-test.true c.loop-piece.invariant
    (get_or_default c.loop-piece.pieces i no_piece (slice_index_or c.loop-piece.pieces i no_piece) (omega (arith, c.loop-piece-test.true, c.loop-piece.auto.pieces))))
