use Rattle.std.proofs.Common.{◌≡◌, ℕ, true, slice_index, subst, arith}
use Rattle.permutations.proofs.Orbits.{orbit-equivalence, orbit-step}
use Rattle.multigraph.specs.Graph.{edge_count}
use Rattle.dart_maps.specs.Map.{twin, face, same_face}
use Rattle.dart_maps.proofs.Darts.{twin-below}
use Rattle.faces.specs.Euler.{dart_count}
use Rattle.path_rotation.proofs.labels.is_on_face.Goals as goal

pub loop-init : goal.loop-init
loop-init c =
    let o = orbit-equivalence (dart_count c.args.g.now) (face (slice_index c.args.next.now)) in
    record { below = c.requires.from; face = o.reflexive c.args.from; other_below = c.requires.to; other_face = o.reflexive c.args.to }

pub bounds-next-twin : goal.bounds-next-twin
bounds-next-twin c = omega (arith, c.requires.darts, c.twin.ensures.is, twin-below (edge_count c.args.g.now) c.loop.here c.loop.invariant.below)

pub bounds-next-twin-in-loop : goal.bounds-next-twin-in-loop
bounds-next-twin-in-loop c = omega (arith, c.requires.darts, c.twin-in-loop.ensures.is, twin-below (edge_count c.args.g.now) c.loop.there c.loop.invariant.other_below)

pub loop-preserved : goal.loop-preserved
loop-preserved c =
    let f = face (slice_index c.args.next.now) in
    let o = orbit-equivalence (dart_count c.args.g.now) f in
    rw (c.twin.ensures.is, c.twin-in-loop.ensures.is)
    (record {
      below = c.requires.within (twin c.loop.here) (twin-below (edge_count c.args.g.now) c.loop.here c.loop.invariant.below);
      face = o.transitive c.args.from c.loop.here (f c.loop.here) c.loop.invariant.face (orbit-step (dart_count c.args.g.now) f c.loop.here c.loop.invariant.below);
      other_below = c.requires.within (twin c.loop.there) (twin-below (edge_count c.args.g.now) c.loop.there c.loop.invariant.other_below);
      other_face = o.transitive c.args.to c.loop.there (f c.loop.there) c.loop.invariant.other_face (orbit-step (dart_count c.args.g.now) f c.loop.there c.loop.invariant.other_below);
    })

pub returns-then-there-from : goal.returns-then-there-from
returns-then-there-from c = λ _.
    let same = same_face (edge_count c.args.g.now) (slice_index c.args.next.now) in
    (orbit-equivalence (dart_count c.args.g.now) (face (slice_index c.args.next.now))).symmetric c.args.to c.args.from (subst (λ (d : ℕ). same c.args.to d ≡ true) c.if-there-from.true c.loop.invariant.other_face)
