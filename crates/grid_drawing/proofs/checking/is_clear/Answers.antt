use Rattle.multigraph.specs.Graph.{ends_of}
use Rattle.grid_drawing.specs.Drawing.{point_at}
use Rattle.grid_drawing.proofs.Ends.{firsts, across, back, seconds, none}
use Rattle.grid_drawing.proofs.checking.is_clear.Goals as goal

pub returns-then-b-d : goal.returns-then-b-d
returns-then-b-d c = firsts (point_at c.args.points.now) c.ends-a.result c.ends-c.result (ends_of c.args.g.now c.args.e) (ends_of c.args.g.now c.args.f) c.ends-a.ensures.value c.ends-c.ensures.value c.same_way.result c.if-a-c.true c.if-b-d.true c.same_way.ensures

pub returns-then-b-c : goal.returns-then-b-c
returns-then-b-c c = across (point_at c.args.points.now) c.ends-a.result c.ends-c.result (ends_of c.args.g.now c.args.e) (ends_of c.args.g.now c.args.f) c.ends-a.ensures.value c.ends-c.ensures.value c.same_way-then-b-c.result c.if-a-c.false c.if-a-d.true c.if-b-c.true c.same_way-then-b-c.ensures

pub returns-then-b-c-2 : goal.returns-then-b-c-2
returns-then-b-c-2 c = back (point_at c.args.points.now) c.ends-a.result c.ends-c.result (ends_of c.args.g.now c.args.e) (ends_of c.args.g.now c.args.f) c.ends-a.ensures.value c.ends-c.ensures.value c.same_way-then-b-c-2.result c.if-a-c.false c.if-a-d.false c.if-b-c-2.true c.same_way-then-b-c-2.ensures

pub returns-then-b-d-2 : goal.returns-then-b-d-2
returns-then-b-d-2 c = seconds (point_at c.args.points.now) c.ends-a.result c.ends-c.result (ends_of c.args.g.now c.args.e) (ends_of c.args.g.now c.args.f) c.ends-a.ensures.value c.ends-c.ensures.value c.same_way-then-b-d-2.result c.if-a-c.false c.if-a-d.false c.if-b-c-2.false c.if-b-d-2.true c.same_way-then-b-d-2.ensures

pub returns : goal.returns
returns c = none (point_at c.args.points.now) c.ends-a.result c.ends-c.result (ends_of c.args.g.now c.args.e) (ends_of c.args.g.now c.args.f) c.ends-a.ensures.value c.ends-c.ensures.value c.are_apart.result c.if-a-c.false c.if-a-d.false c.if-b-c-2.false c.if-b-d-2.false c.are_apart.ensures
