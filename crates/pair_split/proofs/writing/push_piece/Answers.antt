use Rattle.std.proofs.Common.{◌++◌, ◌∷◌, [], List, refl, sym, subst}
use Rattle.pair_split.specs.Bridges.{entry_of}
use Rattle.pair_split.specs.State.{AreWritten}
use Rattle.pair_split.specs.declared.components.Piece.{Piece}
use Rattle.pair_split.proofs.WritingSteps.{written-push}
use Rattle.pair_split.proofs.writing.push_piece.Goals as goal

pub returns : goal.returns
returns c = λ state h entries w. subst (λ (pieces : List Piece). AreWritten c.args.m state c.args.k (entries ++ entry_of c.args.edge ∷ []) pieces) (sym c.in_ok-push.ensures.items)
    (written-push c.args.m state c.args.k entries c.args.pieces.now.items (entry_of c.args.edge) (record { a = c.args.edge.first; b = c.args.edge.second; what = c.what_of.result }) w refl (c.what_of.ensures state h))
