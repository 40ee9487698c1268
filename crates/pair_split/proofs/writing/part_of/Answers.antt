use Rattle.std.proofs.Common.{◌∷◌, [], List, Contains, sym, subst}
use Rattle.pair_split.specs.Bridges.{entry_of, family_of}
use Rattle.pair_split.specs.State.{AreWritten}
use Rattle.pair_split.specs.declared.components.Piece.{Piece}
use Rattle.pair_split.specs.declared.family.NamedEdge.{NamedEdge}
use Rattle.pair_split.proofs.Elements.{contains-here, contains-later}
use Rattle.pair_split.proofs.writing.part_of.Goals as goal

pub returns-clause-written : goal.returns-clause-written
returns-clause-written g c = λ state h. subst (λ (pieces : List Piece). AreWritten c.args.m state c.args.k (entry_of c.args.finished.now.own ∷ family_of c.args.finished.now.edges) pieces) (sym c.of.ensures)
    (subst (λ (edges : List NamedEdge). AreWritten c.args.m state c.args.k (entry_of c.args.finished.now.own ∷ family_of edges) c.push_pieces.new.pieces.items) c.as_slice.ensures
    (c.in_ok-push_pieces.ensures.written state
    (λ entry w. h entry (contains-later entry (entry_of c.args.finished.now.own) (family_of c.args.finished.now.edges) (subst (λ (edges : List NamedEdge). Contains (family_of edges) entry) c.as_slice.ensures w)))
    (entry_of c.args.finished.now.own ∷ [])
    (c.in_ok-push_piece.ensures state (h (entry_of c.args.finished.now.own) (contains-here (entry_of c.args.finished.now.own) (family_of c.args.finished.now.edges))) []
    (subst (λ (pieces : List Piece). AreWritten c.args.m state c.args.k [] pieces) (sym c.new-pieces.ensures.items) tt))))
