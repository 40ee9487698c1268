-- The corners are left that fit the attachments so far.
use Rattle.path_rotation.specs.Fitting.{AreFitting, HaveRoom}
use Rattle.path_rotation.proofs.fitting.exclude_more.Given as goal

abbrev pub invariant-loop-z : goal.invariant-loop-z
invariant-loop-z l = record {
  room : HaveRoom l.fn.g l.fits.notes.items l.fits.depth.items l.fits.passed.items;
  fitting : AreFitting l.fn.g l.fn.board.drawn.items l.fn.board.on.items l.fn.board.label.items l.fn.t l.fits.corners.items;
}
