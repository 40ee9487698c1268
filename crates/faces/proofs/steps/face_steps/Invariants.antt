-- The steps of the darts of the edges so far.
use Rattle.std.proofs.Common.{◌*◌}
use Rattle.faces.specs.Steps.{AreStepsBelow}
use Rattle.faces.proofs.steps.face_steps.Given as goal

abbrev pub invariant-loop-edge : goal.invariant-loop-edge
invariant-loop-edge l = AreStepsBelow l.graph l.rotation (2 * l.edge) l.steps.items
