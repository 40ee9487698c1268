use Rattle.std.proofs.Common.{◌++◌, ◌∷◌, [], List, take, slice_index_or, sym, ap, ◌∙◌, subst, append_assoc, arith}
use Rattle.std.proofs.lemmas.List.Elements.{Contains-get_or}
use Rattle.pair_split.specs.Family.{Entry}
use Rattle.pair_split.specs.Bridges.{entry_of, family_of}
use Rattle.pair_split.specs.State.{AreWritten}
use Rattle.pair_split.proofs.Elements.{contains-map}
use Rattle.pair_split.proofs.Marking.{nothing, family-more}
use Rattle.pair_split.proofs.writing.push_pieces.Goals as goal

pub loop-edge-preserved : goal.loop-edge-preserved
loop-edge-preserved g c = (
  λ state h entries w.
      subst (λ (es : List Entry). AreWritten c.args.m state c.args.k es c.push_piece.new.pieces.items)
      (append_assoc entries (family_of (take c.loop-edge.edge-index c.args.edges.now)) (entry_of (slice_index_or c.args.edges.now c.loop-edge.edge-index nothing) ∷ []) ∙ ap (λ (es : List Entry). entries ++ es) (sym (family-more c.args.edges.now c.loop-edge.edge-index nothing c.loop-edge-test.true)))
      (c.in_ok-push_piece.ensures state
      (h (entry_of (slice_index_or c.args.edges.now c.loop-edge.edge-index nothing)) (contains-map entry_of (slice_index_or c.args.edges.now c.loop-edge.edge-index nothing) c.args.edges.now (Contains-get_or c.args.edges.now c.loop-edge.edge-index nothing c.loop-edge-test.true)))
      (entries ++ family_of (take c.loop-edge.edge-index c.args.edges.now))
      (c.loop-edge.invariant.0 state h entries w)),
  omega (arith, c.tick.ensures, c.loop-edge.invariant.1),
)
