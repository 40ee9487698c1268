-- After a path was drawn what is drawn is no edge and no cycle; else it is as before.
use Rattle.std.proofs.Common.{List, ℕ, sym, subst, arith}
use Rattle.std.proofs.lemmas.Bool.{false≢true}
use Rattle.multigraph.specs.Graph.{edge_count}
use Rattle.path_rotation.specs.Forced.{IsInvolution}
use Rattle.path_rotation.specs.Fitting.{IsMoreDrawn}
use Rattle.path_rotation.proofs.BoardSteps.{more-least, more-then}
use Rattle.path_rotation.proofs.rounds.round.Goals as goal
use Rattle.path_rotation.proofs.rounds.round.Goals.{then-v-vertex_count+in_ok-try_bridges+in-Drawn, then-v-vertex_count+in_ok-try_bridges+in-Passed, else-v-vertex_count}

pub loop-turn-preserved : goal.loop-turn-preserved
loop-turn-preserved c = elim c.if-v-vertex_count.branch [
  | then-v-vertex_count+in_ok-try_bridges+in-Drawn w ↦
      rw (w.board-is, w.fits-is, w.first-is, w.outcome-is)
      (record {
        board = w.in_ok-try_bridges.ensures.board;
        room = w.in_ok-try_bridges.ensures.room;
        turns = λ h. absurd (false≢true h);
        tried = tt;
        more = omega (arith, more-least c.args.g.now c.args.board.now.drawn.items c.loop-turn.board.drawn.items c.loop-turn.outcome c.loop-turn.invariant.more, subst (IsMoreDrawn c.args.g.now c.loop-turn.board.drawn.items w.try_bridges.new.board.drawn.items) w.in-Drawn.is w.in_ok-try_bridges.ensures.more);
      })
  | then-v-vertex_count+in_ok-try_bridges+in-Passed w ↦
      rw (w.board-is, w.fits-is, w.first-is, w.outcome-is)
      (record {
        board = w.in_ok-try_bridges.ensures.board;
        room = w.in_ok-try_bridges.ensures.room;
        turns = λ h. subst (λ (l : List ℕ). IsInvolution (edge_count c.args.g.now) l) (sym (w.in_ok-try_bridges.ensures.passed w.in-Passed.is)) (c.loop-turn.invariant.turns h);
        tried = c.loop-turn.invariant.tried;
        more = more-then c.args.g.now c.args.board.now.drawn.items c.loop-turn.board.drawn.items w.try_bridges.new.board.drawn.items c.loop-turn.outcome c.loop-turn.invariant.more (more-least c.args.g.now c.loop-turn.board.drawn.items w.try_bridges.new.board.drawn.items _ w.in_ok-try_bridges.ensures.more);
      })
  | else-v-vertex_count w ↦ rw (w.board-is, w.fits-is, w.first-is, w.outcome-is) c.loop-turn.invariant
]

pub returns-in-NotPlanar-clause-more : goal.returns-in-NotPlanar-clause-more
returns-in-NotPlanar-clause-more c =
    let before = more-least c.args.g.now c.args.board.now.drawn.items c.loop-turn.board.drawn.items c.loop-turn.outcome c.loop-turn.invariant.more in
    let after = more-least c.args.g.now c.loop-turn.board.drawn.items c.try_bridges.new.board.drawn.items _ c.in_ok-try_bridges.ensures.more in
    omega (arith, before, after)
