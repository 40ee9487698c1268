-- There are at most as many as vertices.
use Rattle.std.proofs.Common.{arith}
use Rattle.permutations.proofs.Count.{count-within}
use Rattle.faces.specs.Euler.{is_isolated}
use Rattle.faces.proofs.components.count_isolated.Goals as goal

pub overflow_add-isolated : goal.overflow_add-isolated
overflow_add-isolated c =
    let few = count-within c.loop-vertex.vertex (is_isolated c.args.graph.now) in
    let limit = c.vertex_count-vertex-end.ensures.limits.few_vertices in
    omega arith
