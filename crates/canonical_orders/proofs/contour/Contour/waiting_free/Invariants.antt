-- Each turn takes a vertex.
use Rattle.canonical_orders.proofs.contour.Contour.waiting_free.Given as goal

abbrev pub decreases-loop-vertex : goal.decreases-loop-vertex
decreases-loop-vertex l = goal.left-loop-vertex l
