-- After a path was drawn what is drawn is no edge and no cycle; else it is as before.
use Rattle.std.proofs.Common.{◌∙◌, List, ℕ, slice_index, sym, subst, arith}
use Rattle.std.proofs.lemmas.Bool.{false≢true}
use Rattle.multigraph.specs.Graph.{edge_count}
use Rattle.path_rotation.specs.Forced.{IsInvolution}
use Rattle.path_rotation.specs.Fitting.{IsMoreDrawn}
use Rattle.multigraph.proofs.DartEnds.{dart_from-below}
use Rattle.path_rotation.proofs.DartsAt.{incident-below}
use Rattle.path_rotation.proofs.BoardSteps.{more-least, more-then, drawn-passed}
use Rattle.path_rotation.proofs.rounds.try_bridges.Goals as goal
use Rattle.path_rotation.proofs.rounds.try_bridges.Goals.{then-is_waiting+in_ok-attempt+in-Drawn+in_ok-enlist_path-in-Drawn, then-is_waiting+in_ok-attempt+in-Passed, else-is_waiting}

pub dart_from-t-requires : goal.dart_from-t-requires
dart_from-t-requires c = incident-below c.args.g.now c.args.v c.incident-edge-items.result.now c.incident-edge-items.ensures.value c.loop-edge.edge-index c.loop-edge-test.true

pub is_waiting-requires-clause-dart : goal.is_waiting-requires-clause-dart
is_waiting-requires-clause-dart c =
    let below = incident-below c.args.g.now c.args.v c.incident-edge-items.result.now c.incident-edge-items.ensures.value c.loop-edge.edge-index c.loop-edge-test.true in
    rw c.dart_from-t.ensures (dart_from-below c.args.g.now c.args.v (slice_index c.incident-edge-items.result.now c.loop-edge.edge-index) below)

pub loop-edge-preserved : goal.loop-edge-preserved
loop-edge-preserved c = elim c.if-is_waiting.branch [
  | then-is_waiting+in_ok-attempt+in-Drawn+in_ok-enlist_path-in-Drawn w ↦
      rw (w.board-is, w.fits-is, w.first-is, w.outcome-is)
      (record {
        board = w.in_ok-attempt.ensures.board;
        room = w.in_ok-attempt.ensures.room;
        turns = λ h. absurd (false≢true h);
        passed = λ h. absurd (drawn-passed h);
        tried = tt;
        more = omega (arith, more-least c.args.g.now c.args.board.now.drawn.items c.loop-edge.board.drawn.items c.loop-edge.outcome c.loop-edge.invariant.more, subst (IsMoreDrawn c.args.g.now c.loop-edge.board.drawn.items w.attempt.new.board.drawn.items) w.in-Drawn.is w.in_ok-attempt.ensures.more);
      })
  | then-is_waiting+in_ok-attempt+in-Passed w ↦
      rw (w.board-is, w.fits-is, w.first-is, w.outcome-is)
      (record {
        board = w.in_ok-attempt.ensures.board;
        room = w.in_ok-attempt.ensures.room;
        turns = λ h. subst (λ (l : List ℕ). IsInvolution (edge_count c.args.g.now) l) (sym (w.in_ok-attempt.ensures.passed w.in-Passed.is)) (c.loop-edge.invariant.turns h);
        passed = λ h. w.in_ok-attempt.ensures.passed w.in-Passed.is ∙ c.loop-edge.invariant.passed h;
        tried = c.loop-edge.invariant.tried;
        more = more-then c.args.g.now c.args.board.now.drawn.items c.loop-edge.board.drawn.items w.attempt.new.board.drawn.items c.loop-edge.outcome c.loop-edge.invariant.more (more-least c.args.g.now c.loop-edge.board.drawn.items w.attempt.new.board.drawn.items _ w.in_ok-attempt.ensures.more);
      })
  | else-is_waiting w ↦ rw (w.board-is, w.fits-is, w.first-is, w.outcome-is) c.loop-edge.invariant
]

pub returns-in-NotPlanar-clause-more : goal.returns-in-NotPlanar-clause-more
returns-in-NotPlanar-clause-more c =
    let before = more-least c.args.g.now c.args.board.now.drawn.items c.loop-edge.board.drawn.items c.loop-edge.outcome c.loop-edge.invariant.more in
    let after = more-least c.args.g.now c.loop-edge.board.drawn.items c.attempt.new.board.drawn.items _ c.in_ok-attempt.ensures.more in
    omega (arith, before, after)
