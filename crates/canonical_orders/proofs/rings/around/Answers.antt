-- Steps of the walk, and its end.
use Rattle.std.proofs.Common.{length, slice_index, arith}
use Rattle.faces.specs.Euler.{dart_count}
use Rattle.canonical_orders.proofs.RingWalks.{around-start, around-short, around-more, around-all}
use Rattle.canonical_orders.proofs.Maps.{walk-below}
use Rattle.canonical_orders.proofs.rings.around.Goals as goal

pub next-dart-requires-in-loop-dart : goal.next-dart-requires-in-loop-dart
next-dart-requires-in-loop-dart c = walk-below c.args.map.now c.requires.triangulated c.args.first c.requires.first_in (length c.loop-dart.darts.items) c.loop-dart.dart c.loop-dart.invariant.at

pub loop-dart-init : goal.loop-dart-init
loop-dart-init c = rw (c.in_ok-push.ensures.items, c.clear.ensures.items, c.next-dart.ensures) (around-start (dart_count c.args.map.now.graph) (slice_index c.args.map.now.next) c.args.first)

pub loop-dart-smaller : goal.loop-dart-smaller
loop-dart-smaller c =
    let t = c.args.map.now in
    let short = around-short (dart_count t.graph) (slice_index t.next) (slice_index t.previous) c.requires.triangulated.map.drawn.map c.args.first c.loop-dart.dart c.loop-dart.darts.items c.requires.first_in c.loop-dart.invariant c.loop-dart-test.true in
    omega (arith, short, c.in_ok-push-2.ensures.len)

pub loop-dart-preserved : goal.loop-dart-preserved
loop-dart-preserved c =
    let t = c.args.map.now in
    let more = around-more (dart_count t.graph) (slice_index t.next) (slice_index t.previous) c.requires.triangulated.map.drawn.map c.args.first c.loop-dart.dart c.loop-dart.darts.items c.requires.first_in c.loop-dart.invariant c.loop-dart-test.true in
    rw (c.in_ok-push-2.ensures.items, c.next-dart-in-loop-dart.ensures) more

pub returns : goal.returns
returns c =
    let t = c.args.map.now in
    around-all (dart_count t.graph) (slice_index t.next) (slice_index t.previous) c.requires.triangulated.map.drawn.map c.args.first c.loop-dart.dart c.loop-dart.darts.items c.requires.first_in c.loop-dart.invariant c.loop-dart-test.false
