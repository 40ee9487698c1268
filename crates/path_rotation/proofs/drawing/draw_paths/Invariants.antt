-- What is drawn is right after each round.
use Rattle.std.proofs.Common.{◌<◌}
use Rattle.path_rotation.specs.Fitting.{HaveRoom, IsBoard, drawn_count}
use Rattle.path_rotation.proofs.drawing.draw_paths.Given as goal

abbrev pub invariant-loop : goal.invariant-loop
invariant-loop l = record {
  board : IsBoard l.fn.g l.board.drawn.items l.board.on.items l.board.next.items l.board.label.items;
  more : l.counter < drawn_count l.fn.g l.board.drawn.items;
  room : HaveRoom l.fn.g l.fits.notes.items l.fits.depth.items l.fits.passed.items;
}
