-- One vertex more is counted.
use Rattle.std.proofs.Common.{slice_index, take, arith}
use Rattle.dart_maps.specs.Map.{twin}
use Rattle.faces.specs.Euler.{tail}
use Rattle.canonical_orders.specs.State.{heads_of}
use Rattle.canonical_orders.proofs.Counting.{images-take, image-new, raised-more, raised-at}
use Rattle.canonical_orders.proofs.Maps.{head-inside}
use Rattle.canonical_orders.proofs.rings.count_up.Goals as goal

pub overflow_add-met : goal.overflow_add-met
overflow_add-met c =
    let h = c.args.map.now.graph in
    let k = c.loop-dart.dart-index in
    let new = image-new (λ d. tail h (twin d)) c.args.darts.now k c.loop-dart-test.true c.requires.differ in
    let same = raised-at (tail h (twin (slice_index c.args.darts.now k))) c.head.result (heads_of h (take k c.args.darts.now)) c.args.met.now c.loop-dart.met c.head.ensures new c.loop-dart.invariant in
    omega (arith, same, c.requires.small c.head.result)

pub loop-dart-preserved : goal.loop-dart-preserved
loop-dart-preserved c =
    let h = c.args.map.now.graph in
    let k = c.loop-dart.dart-index in
    let new = image-new (λ d. tail h (twin d)) c.args.darts.now k c.loop-dart-test.true c.requires.differ in
    let inside = head-inside c.args.map.now c.requires.triangulated (slice_index c.args.darts.now k) (c.requires.darts_in k c.loop-dart-test.true) in
    let more = raised-more (tail h (twin (slice_index c.args.darts.now k))) (heads_of h (take k c.args.darts.now)) c.args.met.now c.loop-dart.met new (omega (arith, inside, c.requires.met_each)) c.loop-dart.invariant in
    rw (images-take (λ d. tail h (twin d)) c.args.darts.now k c.loop-dart-test.true, c.head.ensures) more
