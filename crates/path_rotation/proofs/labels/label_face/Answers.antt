use Rattle.std.proofs.Common.{◌∙◌, ◌+◌, inl, inr, slice_index, ap, sym, refl, arith}
use Rattle.std.proofs.lemmas.List.{length-set}
use Rattle.permutations.proofs.Iterates.{iterate-more}
use Rattle.multigraph.specs.Graph.{edge_count}
use Rattle.dart_maps.specs.Map.{twin, face}
use Rattle.dart_maps.proofs.Darts.{twin-below, face-permutes}
use Rattle.faces.specs.Euler.{dart_count}
use Rattle.path_rotation.proofs.FaceLabels.{written-none, written-more, written-orbit}
use Rattle.path_rotation.proofs.labels.label_face.Goals as goal

pub loop-init : goal.loop-init
loop-init c = record { written = written-none (face (slice_index c.args.next.now)) c.args.start c.args.label.now; here = refl; below = c.requires.start; size = c.requires.labels }

pub bounds-next-twin : goal.bounds-next-twin
bounds-next-twin c = omega (arith, c.requires.darts, c.twin.ensures.is, twin-below (edge_count c.args.g.now) c.loop.at c.loop.invariant.below)

pub loop-preserved : goal.loop-preserved
loop-preserved c =
    let f = face (slice_index c.args.next.now) in
    rw c.twin.ensures.is
    (record {
      written = written-more f c.args.start c.loop.counter c.loop.at c.args.label.now c.loop.label c.loop.invariant.written c.loop.invariant.here (omega (arith, c.loop.invariant.below, c.loop.invariant.size));
      here = iterate-more f c.loop.counter c.args.start ∙ ap f c.loop.invariant.here;
      below = c.requires.map.1.forth (twin c.loop.at) (twin-below (edge_count c.args.g.now) c.loop.at c.loop.invariant.below);
      size = length-set c.loop.label c.loop.at c.args.start ∙ c.loop.invariant.size;
    })

pub returns-then-at-start-clause-labelled : goal.returns-then-at-start-clause-labelled
returns-then-at-start-clause-labelled c =
    let n = dart_count c.args.g.now in
    let f = face (slice_index c.args.next.now) in
    written-orbit n f _ (face-permutes (edge_count c.args.g.now) (slice_index c.args.next.now) c.requires.map.0 c.requires.map.1) c.args.start c.requires.start (c.loop.counter + 1) c.args.label.now _
    (written-more f c.args.start c.loop.counter c.loop.at c.args.label.now c.loop.label c.loop.invariant.written c.loop.invariant.here (omega (arith, c.loop.invariant.below, c.loop.invariant.size)))
    (inl (omega arith, iterate-more f c.loop.counter c.args.start ∙ ap f c.loop.invariant.here ∙ ap (slice_index c.args.next.now) (sym c.twin.ensures.is) ∙ c.if-at-start.true))

pub returns-clause-labelled : goal.returns-clause-labelled
returns-clause-labelled c =
    let n = dart_count c.args.g.now in
    let f = face (slice_index c.args.next.now) in
    written-orbit n f _ (face-permutes (edge_count c.args.g.now) (slice_index c.args.next.now) c.requires.map.0 c.requires.map.1) c.args.start c.requires.start c.loop.counter c.args.label.now c.loop.label c.loop.invariant.written
    (inr (omega (arith, c.loop-test.false, c.dart_count-end.ensures.value)))
