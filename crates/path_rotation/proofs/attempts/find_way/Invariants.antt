use Rattle.path_rotation.specs.Fitting.{HaveRoom}
use Rattle.path_rotation.proofs.attempts.find_way.Given as goal

abbrev pub invariant-loop-z : goal.invariant-loop-z
invariant-loop-z l = HaveRoom l.fn.g l.fits.notes.items l.fits.depth.items l.fits.passed.items
