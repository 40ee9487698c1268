-- All numbers are small, and the test of their sums is that of a plane rotation system.
use Rattle.std.proofs.Common.{◌≡◌, ◌==◌, ◌↔◌, ℕ, ◌+◌, ◌*◌, IsTrue, sym, ◌∙◌, arith}
use Rattle.std.proofs.lemmas.Bool.{eqb-true, eq-eqb}
use Rattle.multigraph.specs.Graph.{edge_count}
use Rattle.faces.specs.Euler.{face_count, component_count}
use Rattle.faces.proofs.FaceSteps.{faces-few, components-few}
use Rattle.faces.proofs.counting.euler.Goals as goal

-- two sums are tested as the sums that they are
plane_test : (a b sum other : ℕ) → a ≡ sum → b ≡ other → IsTrue (a == b) ↔ (sum ≡ other)
plane_test a b sum other e h = (λ t. sym e ∙ eqb-true a b t ∙ h, λ p. eq-eqb a b (e ∙ p ∙ sym h))

pub overflow_add-plane : goal.overflow_add-plane
overflow_add-plane c =
    let few = faces-few c.args.g.now c.args.r.now c.vertex_count-v.ensures.limits in
    omega arith

pub overflow_mul-plane : goal.overflow_mul-plane
overflow_mul-plane c =
    let few = components-few c.args.g.now c.vertex_count-v.ensures.limits in
    omega arith

pub overflow_add-plane-2 : goal.overflow_add-plane-2
overflow_add-plane-2 c =
    let few = components-few c.args.g.now c.vertex_count-v.ensures.limits in
    omega arith

pub returns-clause-plane : goal.returns-clause-plane
returns-clause-plane c =
    plane_test (c.vertex_count-v.result + c.in_ok-f.f) (c.edge_count-e.result + 2 * c.in_ok-c.c) (c.args.g.now.vertex_count + face_count c.args.g.now c.args.r.now) (edge_count c.args.g.now + 2 * component_count c.args.g.now) (omega arith) (omega arith)
