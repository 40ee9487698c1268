use Rattle.std.proofs.Common.{◌/◌, ◌<◌, ap, subst, sym, ◌∙◌}
use Rattle.permutations.proofs.Arrangements.{contains-from_member}
use Rattle.multigraph.specs.Graph.{edge_count, is_end}
use Rattle.rotations.specs.Rotation.{order_at}
use Rattle.faces.proofs.DartLemmas.{dart-edge, tail-end, order-member, preceding}
use Rattle.triangulations.proofs.starting.dart_before.Goals as goal

pub pred-requires : goal.pred-requires
pred-requires c =
    let g = c.args.g.now in
    let at = ap (λ v. is_end g v (c.args.dart / 2)) c.tail-v.ensures.is ∙ tail-end g c.args.dart in
    contains-from_member (order_at c.args.r.now c.tail-v.result) (c.args.dart / 2) (order-member g c.args.r.now c.tail-v.result (c.args.dart / 2) c.requires.system c.tail-v.ensures.within (dart-edge g c.args.dart c.requires.dart) at)

pub dart_from-requires : goal.dart_from-requires
dart_from-requires c =
    let g = c.args.g.now in
    let at = ap (λ v. is_end g v (c.args.dart / 2)) c.tail-v.ensures.is ∙ tail-end g c.args.dart in
    subst (λ e. e < edge_count g) (sym c.pred.ensures) (preceding g c.args.r.now c.tail-v.result (c.args.dart / 2) c.requires.system c.tail-v.ensures.within (dart-edge g c.args.dart c.requires.dart) at).0
