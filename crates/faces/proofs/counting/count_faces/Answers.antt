-- The faces are the orbits of the face steps, and the isolated vertices.
use Rattle.std.proofs.Common.{◌≡◌, ◌*◌, length, ap, ◌∙◌, sym, subst, arith}
use Rattle.multigraph.specs.Graph.{edge_count}
use Rattle.faces.specs.Steps.{AreFaceSteps}
use Rattle.faces.proofs.FaceSteps.{steps-permutation, steps-faces, faces-few}
use Rattle.faces.proofs.counting.count_faces.Goals as goal

pub count_orbits-requires-clause-permutation : goal.count_orbits-requires-clause-permutation
count_orbits-requires-clause-permutation c =
    steps-permutation c.args.g.now c.args.r.now c.deref.result.now c.requires.graph c.requires.system (subst (AreFaceSteps c.args.g.now c.args.r.now) (sym c.deref.ensures.value) c.in_ok-steps.ensures)

pub count_orbits-requires-clause-few : goal.count_orbits-requires-clause-few
count_orbits-requires-clause-few c =
    let few = c.requires.limits.few_edges in
    let long : length c.deref.result.now ≡ 2 * edge_count c.args.g.now = ap length c.deref.ensures.value ∙ c.in_ok-steps.ensures.darts in
    omega arith

pub overflow_add-result : goal.overflow_add-result
overflow_add-result c =
    let steps = subst (AreFaceSteps c.args.g.now c.args.r.now) (sym c.deref.ensures.value) c.in_ok-steps.ensures in
    let faces = steps-faces c.args.g.now c.args.r.now c.deref.result.now c.requires.graph c.requires.system steps in
    let few = faces-few c.args.g.now c.args.r.now c.requires.limits in
    omega arith

pub returns : goal.returns
returns c =
    let steps = subst (AreFaceSteps c.args.g.now c.args.r.now) (sym c.deref.ensures.value) c.in_ok-steps.ensures in
    let faces = steps-faces c.args.g.now c.args.r.now c.deref.result.now c.requires.graph c.requires.system steps in
    omega arith
