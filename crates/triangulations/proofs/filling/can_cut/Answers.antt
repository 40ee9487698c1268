use Rattle.std.proofs.Common.{◌<◌, ◌∙◌, ap, subst, sym}
use Rattle.multigraph.specs.Darts.{dart_count, tail, twin}
use Rattle.triangulations.proofs.FillLoop.{face-below, can-cut-told}
use Rattle.triangulations.proofs.filling.can_cut.Goals as goal

pub head-to-requires : goal.head-to-requires
head-to-requires c = subst (λ z. z < dart_count c.args.map.now.graph) (sym c.face.ensures) (face-below c.args.map.now c.args.dart c.requires.map c.requires.dart)

pub returns-then-from-to : goal.returns-then-from-to
returns-then-from-to c = can-cut-told c.args.map.now c.args.dart c.tail-from.result c.head-to.result c.has.result c.tail-from.ensures (c.head-to.ensures ∙ ap (λ z. tail c.args.map.now.graph (twin z)) c.face.ensures)
    c.if-from-to.true (c.has.ensures ∙ c.requires.pairs c.tail-from.result c.head-to.result)
