use Rattle.std.proofs.Common.{◌<◌, subst, sym}
use Rattle.multigraph.specs.Darts.{dart_count}
use Rattle.triangulations.proofs.FillLoop.{face-below}
use Rattle.triangulations.proofs.filling.is_triangle.Goals as goal

pub face-requires-2 : goal.face-requires-2
face-requires-2 c = subst (λ z. z < dart_count c.args.map.now.graph) (sym c.face.ensures) (face-below c.args.map.now c.args.dart c.requires.map c.requires.dart)

pub face-requires-3 : goal.face-requires-3
face-requires-3 c =
    let first = subst (λ z. z < dart_count c.args.map.now.graph) (sym c.face.ensures) (face-below c.args.map.now c.args.dart c.requires.map c.requires.dart) in
    subst (λ z. z < dart_count c.args.map.now.graph) (sym c.face-2.ensures) (face-below c.args.map.now c.face.result c.requires.map first)
