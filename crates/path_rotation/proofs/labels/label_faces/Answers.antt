-- A face more is labelled, or has its label.
use Rattle.std.proofs.Common.{◌∙◌, slice_index, arith}
use Rattle.multigraph.specs.Graph.{edge_count}
use Rattle.dart_maps.specs.Map.{face}
use Rattle.dart_maps.proofs.Darts.{face-permutes}
use Rattle.faces.specs.Euler.{dart_count}
use Rattle.path_rotation.proofs.FaceLabels.{label-skip, label-orbit, label-end, labels-tell}
use Rattle.path_rotation.proofs.labels.label_faces.Goals as goal
use Rattle.path_rotation.proofs.labels.label_faces.Goals.{then-label-d, else-label-d}

pub loop-d-preserved : goal.loop-d-preserved
loop-d-preserved c =
    let n = dart_count c.args.g.now in
    let f = face (slice_index c.args.next.now) in
    elim c.if-label-d.branch [
      | then-label-d w ↦
          rw w.label-is
          (record {
            faces = label-orbit n f _ (face-permutes (edge_count c.args.g.now) (slice_index c.args.next.now) c.requires.map.0 c.requires.map.1) 4294967295 c.loop-d.d c.loop-d.label w.label_face.new.label c.loop-d.invariant.faces
                (omega (arith, c.loop-d-test.true, c.dart_count-d-end.ensures.value)) (omega (arith, c.dart_count-d-end.ensures.value, c.dart_count-d-end.ensures.few)) w.label_face.ensures.labelled;
            size = w.label_face.ensures.size ∙ c.loop-d.invariant.size;
          })
      | else-label-d w ↦
          rw w.label-is
          (record { faces = label-skip n f 4294967295 c.loop-d.d c.loop-d.label c.loop-d.invariant.faces w.if-label-d.false; size = c.loop-d.invariant.size })
    ]

pub returns-clause-exact : goal.returns-clause-exact
returns-clause-exact c =
    let n = dart_count c.args.g.now in
    let f = face (slice_index c.args.next.now) in
    labels-tell n f 4294967295 c.loop-d.label (label-end n f 4294967295 c.loop-d.d c.loop-d.label (omega (arith, c.loop-d-test.false, c.dart_count-d-end.ensures.value)) c.loop-d.invariant.faces)
