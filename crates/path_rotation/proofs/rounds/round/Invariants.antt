-- What is drawn is right after each vertex.
use Rattle.std.proofs.Common.{◌≡◌, true}
use Rattle.multigraph.specs.Graph.{edge_count}
use Rattle.path_rotation.specs.Forced.{IsInvolution}
use Rattle.path_rotation.specs.Fitting.{HaveRoom, IsBoard, IsTried, IsMoreDrawn}
use Rattle.path_rotation.proofs.rounds.round.Given as goal

abbrev pub invariant-loop-turn : goal.invariant-loop-turn
invariant-loop-turn l = record {
  board : IsBoard l.fn.g l.board.drawn.items l.board.on.items l.board.next.items l.board.label.items;
  room : HaveRoom l.fn.g l.fits.notes.items l.fits.depth.items l.fits.passed.items;
  turns : l.first ≡ true → IsInvolution (edge_count l.fn.g) l.board.next.items;
  tried : IsTried l.fn.g l.outcome;
  more : IsMoreDrawn l.fn.g l.initial.board.drawn.items l.board.drawn.items l.outcome;
}
