use Rattle.std.proofs.Common.{◌<◌, ◌∙◌, ap, subst, sym}
use Rattle.std.proofs.lemmas.Result.{IfOk-weaker}
use Rattle.multigraph.specs.Darts.{dart_count, tail, twin}
use Rattle.triangulations.specs.Listed.{IsCut}
use Rattle.triangulations.specs.Pairs.{KnowsPairs}
use Rattle.triangulations.proofs.FillLoop.{face-below, corners, few, pairs-cut}
use Rattle.triangulations.proofs.filling.cut.Goals as goal

pub head-requires : goal.head-requires
head-requires c = subst (λ z. z < dart_count c.args.map.now.graph) (sym c.face.ensures) (face-below c.args.map.now c.args.dart c.requires.map c.requires.dart)

pub cut-requires-clause-corners : goal.cut-requires-clause-corners
cut-requires-clause-corners c = corners c.args.map.now c.args.dart c.requires.map c.requires.dart c.requires.can

pub cut-requires-clause-few : goal.cut-requires-clause-few
cut-requires-clause-few c = few c.args.map.now c.args.dart c.requires.map c.requires.dart c.requires.can c.requires.few

pub returns-clause-pairs : goal.returns-clause-pairs
returns-clause-pairs c = IfOk-weaker c.cut.result (λ _. IsCut c.args.map.now c.args.dart c.cut.new.self) (λ _. KnowsPairs c.cut.new.self.graph c.add.new.self.held)
    (λ _ cut. pairs-cut c.args.map.now c.args.dart c.tail.result c.head.result c.cut.new.self c.args.pairs.now.held c.add.new.self.held c.requires.pairs c.tail.ensures
    (c.head.ensures ∙ ap (λ z. tail c.args.map.now.graph (twin z)) c.face.ensures) c.in_ok-add.ensures cut)
    c.cut.ensures.cut
