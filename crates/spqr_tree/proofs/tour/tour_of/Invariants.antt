use Rattle.spqr_tree.specs.Tour.{IsTouring, tour_left}
use Rattle.spqr_tree.proofs.tour.tour_of.Given as goal

abbrev pub invariant-loop-tour : goal.invariant-loop-tour
invariant-loop-tour l = IsTouring l.nodes l.tour

abbrev pub decreases-loop-tour : goal.decreases-loop-tour
decreases-loop-tour l = tour_left l.nodes l.tour.bounds
