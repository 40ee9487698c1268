-- Steps of the walk, and its end.
use Rattle.std.proofs.Common.{◌≡◌, false, true, length, slice_index, ◌∙◌, arith}
use Rattle.faces.specs.Euler.{dart_count}
use Rattle.canonical_orders.specs.State.{leads_on}
use Rattle.canonical_orders.proofs.RingWalks.{way-short, way-more, way-all}
use Rattle.canonical_orders.proofs.Maps.{walk-below, leads-at}
use Rattle.canonical_orders.proofs.rings.arms.Goals as goal

pub head-requires : goal.head-requires
head-requires c = walk-below c.args.map.now c.requires.triangulated (slice_index c.args.map.now.next c.args.first) (c.requires.triangulated.map.drawn.map.forth c.args.first c.requires.first_in) (length c.loop-darts.darts.items) c.loop-darts.dart c.loop-darts.invariant.at

pub next-dart-requires-in-loop-darts : goal.next-dart-requires-in-loop-darts
next-dart-requires-in-loop-darts c = walk-below c.args.map.now c.requires.triangulated (slice_index c.args.map.now.next c.args.first) (c.requires.triangulated.map.drawn.map.forth c.args.first c.requires.first_in) (length c.loop-darts.darts.items) c.loop-darts.dart c.loop-darts.invariant.at

pub loop-darts-smaller : goal.loop-darts-smaller
loop-darts-smaller c =
    let t = c.args.map.now in
    let passes : leads_on t c.args.on.now c.args.first (length c.loop-darts.darts.items) ≡ false = leads-at t c.args.on.now c.args.first c.loop-darts.dart c.loop-darts.darts.items c.head.result false c.loop-darts.invariant.at c.head.ensures c.loop-darts-test.true in
    let short = way-short (dart_count t.graph) (slice_index t.next) (leads_on t c.args.on.now c.args.first) (slice_index t.next c.args.first) c.loop-darts.dart c.loop-darts.darts.items c.requires.some_on c.loop-darts.invariant passes in
    omega (arith, short, c.in_ok-push.ensures.len)

pub loop-darts-preserved : goal.loop-darts-preserved
loop-darts-preserved c =
    let t = c.args.map.now in
    let passes : leads_on t c.args.on.now c.args.first (length c.loop-darts.darts.items) ≡ false = leads-at t c.args.on.now c.args.first c.loop-darts.dart c.loop-darts.darts.items c.head.result false c.loop-darts.invariant.at c.head.ensures c.loop-darts-test.true in
    let more = way-more (dart_count t.graph) (slice_index t.next) (leads_on t c.args.on.now c.args.first) (slice_index t.next c.args.first) c.loop-darts.dart c.loop-darts.darts.items c.requires.some_on c.loop-darts.invariant passes in
    rw (c.in_ok-push.ensures.items, c.next-dart-in-loop-darts.ensures) more

pub returns : goal.returns
returns c =
    let t = c.args.map.now in
    let passes : leads_on t c.args.on.now c.args.first (length c.loop-darts.darts.items) ≡ true = leads-at t c.args.on.now c.args.first c.loop-darts.dart c.loop-darts.darts.items c.head.result true c.loop-darts.invariant.at c.head.ensures c.loop-darts-test.false in
    c.in_ok-push-2.ensures.items ∙ way-all (dart_count t.graph) (slice_index t.next) (leads_on t c.args.on.now c.args.first) (slice_index t.next c.args.first) c.loop-darts.dart c.loop-darts.darts.items c.loop-darts.invariant passes
