use Rattle.std.proofs.Common.{List, ℕ, length, ap, arith}
use Rattle.path_rotation.proofs.DartsAt.{incident-below}
use Rattle.path_rotation.proofs.finishing.least_dart.Goals as goal

pub dart_from-requires : goal.dart_from-requires
dart_from-requires c = incident-below c.args.g.now c.args.v c.incident.result.now c.incident.ensures.value 0 (omega (arith, ap (λ (l : List ℕ). length l) c.incident.ensures.value, c.degree.ensures))
