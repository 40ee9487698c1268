-- Dart 0 is a dart.
use Rattle.canonical_orders.proofs.Maps.{some-dart}
use Rattle.canonical_orders.proofs.contour.Contour.is_free.Goals as goal

pub tail-requires : goal.tail-requires
tail-requires c = some-dart c.args.map.now c.requires.triangulated

pub head-requires : goal.head-requires
head-requires c = some-dart c.args.map.now c.requires.triangulated
