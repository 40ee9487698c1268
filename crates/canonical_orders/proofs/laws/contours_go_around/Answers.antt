use Rattle.canonical_orders.proofs.ContourParts.{around}
use Rattle.canonical_orders.proofs.laws.contours_go_around.Goals as goal

pub returns : goal.returns
returns c = λ m h next previous base stays contour t l k. around m h next previous t base l stays contour k
