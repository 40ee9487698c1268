-- One vertex less is counted.
use Rattle.std.proofs.Common.{◌<◌, slice_index, take, sym, subst, arith}
use Rattle.dart_maps.specs.Map.{twin}
use Rattle.faces.specs.Euler.{tail}
use Rattle.canonical_orders.specs.State.{heads_of}
use Rattle.canonical_orders.proofs.Counting.{images-take, image-new, image-in, lowered-more, raised-at}
use Rattle.canonical_orders.proofs.Maps.{head-inside}
use Rattle.canonical_orders.proofs.rings.count_down.Goals as goal

pub overflow_sub-met : goal.overflow_sub-met
overflow_sub-met c =
    let h = c.args.map.now.graph in
    let k = c.loop-dart.dart-index in
    let v = tail h (twin (slice_index c.args.darts.now k)) in
    let new = image-new (λ d. tail h (twin d)) c.args.darts.now k c.loop-dart-test.true c.requires.differ in
    let same = raised-at v c.head.result (heads_of h (take k c.args.darts.now)) c.loop-dart.met c.args.met.now c.head.ensures new c.loop-dart.invariant in
    let positive : 0 < slice_index c.args.met.now c.head.result = subst (λ (z : _). 0 < slice_index c.args.met.now z) (sym c.head.ensures) (c.requires.positive v (image-in (λ d. tail h (twin d)) c.args.darts.now k c.loop-dart-test.true)) in
    omega (arith, same, positive)

pub loop-dart-preserved : goal.loop-dart-preserved
loop-dart-preserved c =
    let h = c.args.map.now.graph in
    let k = c.loop-dart.dart-index in
    let v = tail h (twin (slice_index c.args.darts.now k)) in
    let new = image-new (λ d. tail h (twin d)) c.args.darts.now k c.loop-dart-test.true c.requires.differ in
    let inside = head-inside c.args.map.now c.requires.triangulated (slice_index c.args.darts.now k) (c.requires.darts_in k c.loop-dart-test.true) in
    let more = lowered-more v (heads_of h (take k c.args.darts.now)) c.args.met.now c.loop-dart.met new (omega (arith, inside, c.requires.met_each)) c.loop-dart.invariant
    (c.requires.positive v (image-in (λ d. tail h (twin d)) c.args.darts.now k c.loop-dart-test.true)) in
    rw (images-take (λ d. tail h (twin d)) c.args.darts.now k c.loop-dart-test.true, c.head.ensures) more
