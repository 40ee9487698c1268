use Rattle.std.proofs.Common.{[], List, sym, subst}
use Rattle.pair_split.specs.Bridges.{family_of}
use Rattle.pair_split.specs.State.{AreWritten}
use Rattle.pair_split.specs.declared.components.Piece.{Piece}
use Rattle.pair_split.proofs.writing.last_of.Goals as goal

pub returns-clause-written : goal.returns-clause-written
returns-clause-written g c = λ state h. subst (λ (pieces : List Piece). AreWritten c.args.m state c.args.k (family_of c.args.current.now) pieces) (sym c.of.ensures)
    (c.in_ok-push_pieces.ensures.written state h [] (subst (λ (pieces : List Piece). AreWritten c.args.m state c.args.k [] pieces) (sym c.new-pieces.ensures.items) tt))
