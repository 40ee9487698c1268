use Rattle.canonical_orders.proofs.Starting.{triangle-contour, last-contour}
use Rattle.canonical_orders.proofs.laws.contours_begin_and_end.Goals as goal

pub returns : goal.returns
returns c = record { first = triangle-contour; last = last-contour }
