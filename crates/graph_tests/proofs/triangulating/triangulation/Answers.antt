use Rattle.std.proofs.Common.{◌<◌, ◌∙◌, sym, arith}
use Rattle.graph_tests.proofs.Triangulated.{one-connected}
use Rattle.graph_tests.proofs.triangulating.triangulation.Goals as goal

pub triangulate-requires-clause-connected : goal.triangulate-requires-clause-connected
triangulate-requires-clause-connected c =
    let some : 0 < c.in_ok-g.g.vertex_count = omega (arith, c.in_ok-numbers.ensures.vertices, c.if-numbers-lt3.false) in
    one-connected c.in_ok-g.g some (sym c.in_ok-numbers.ensures.components ∙ c.if-numbers-ne1.false)
