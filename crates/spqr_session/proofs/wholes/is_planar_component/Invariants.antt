use Rattle.spqr_session.specs.Scene.{setting_on}
use Rattle.spqr_session.specs.Wholes.{ArePlanarBelow}
use Rattle.spqr_session.proofs.wholes.is_planar_component.Given as goal

abbrev pub invariant-loop-b : goal.invariant-loop-b
invariant-loop-b l = ArePlanarBelow (setting_on l.scene l.blocks) l.c l.b
