use Rattle.std.proofs.Common.{ℕ, drop, slice_index, ap, subst, refl, arith}
use Rattle.std.specs.List.{SwappedAt}
use Rattle.multigraph.specs.Darts.{dart_from}
use Rattle.multigraph.proofs.DartEnds.{dart_from-below}
use Rattle.dart_maps.proofs.Darts.{twin-below}
use Rattle.multigraph.specs.Graph.{edge_count}
use Rattle.path_rotation.proofs.Threads.{walk-on, thread-more, thread-end, rest-none}
use Rattle.path_rotation.proofs.inserting.insert_path.Goals as goal

pub loop-edge-init : goal.loop-edge-init
loop-edge-init c = record { corner_in = c.requires.first; walk = c.requires.walk; rest = refl }

pub dart_from-d-requires : goal.dart_from-d-requires
dart_from-d-requires c = (walk-on c.args.g.now c.loop-edge.at c.args.path.now c.loop-edge.edge-index c.loop-edge-test.true c.loop-edge.invariant.walk).0.0

pub swap-requires-clause-a_in_bounds : goal.swap-requires-clause-a_in_bounds
swap-requires-clause-a_in_bounds c = omega (arith, c.loop-edge.invariant.corner_in, c.requires.darts)

pub swap-requires-clause-b_in_bounds : goal.swap-requires-clause-b_in_bounds
swap-requires-clause-b_in_bounds c =
    let e = slice_index c.args.path.now c.loop-edge.edge-index in
    let l = (walk-on c.args.g.now c.loop-edge.at c.args.path.now c.loop-edge.edge-index c.loop-edge-test.true c.loop-edge.invariant.walk).0.0 in
    omega (arith, c.requires.darts, dart_from-below c.args.g.now c.loop-edge.at e l, c.dart_from-d.ensures)

pub other_end-at-requires-clause-edge : goal.other_end-at-requires-clause-edge
other_end-at-requires-clause-edge c = (walk-on c.args.g.now c.loop-edge.at c.args.path.now c.loop-edge.edge-index c.loop-edge-test.true c.loop-edge.invariant.walk).0.0

pub other_end-at-requires-clause-end : goal.other_end-at-requires-clause-end
other_end-at-requires-clause-end c = (walk-on c.args.g.now c.loop-edge.at c.args.path.now c.loop-edge.edge-index c.loop-edge-test.true c.loop-edge.invariant.walk).0.1

pub loop-edge-preserved : goal.loop-edge-preserved
loop-edge-preserved c =
    let g = c.args.g.now in
    let i = c.loop-edge.edge-index in
    let at = c.loop-edge.at in
    let e = slice_index c.args.path.now i in
    let w = walk-on g at c.args.path.now i c.loop-edge-test.true c.loop-edge.invariant.walk in
    rw (c.twin-corner.ensures.is, c.dart_from-d.ensures, c.other_end-at.ensures)
    (record {
      corner_in = twin-below (edge_count g) (dart_from g at e) (dart_from-below g at e w.0.0);
      walk = w.1;
      rest = thread-more g c.args.path.now c.loop-edge.next c.swap.new.self i at c.loop-edge.corner c.args.k _ c.loop-edge-test.true
          (subst (λ (d : ℕ). SwappedAt c.loop-edge.next c.swap.new.self c.loop-edge.corner d) c.dart_from-d.ensures c.swap.ensures.by_index) c.loop-edge.invariant.rest;
    })

pub returns-clause-inserted : goal.returns-clause-inserted
returns-clause-inserted c = λ d.
    ap (λ (f : ℕ → ℕ). f d) (thread-end c.args.g.now c.args.path.now c.loop-edge.next c.swap-2.new.self c.loop-edge.at c.loop-edge.corner c.args.k _ (drop c.loop-edge.edge-index c.args.path.now)
    (rest-none c.args.path.now c.loop-edge.edge-index c.loop-edge-test.false) c.swap-2.ensures.by_index c.loop-edge.invariant.rest)
