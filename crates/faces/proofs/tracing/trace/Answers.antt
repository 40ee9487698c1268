-- The faces are the orbits of the face steps, in order of the darts.
use Rattle.std.proofs.Common.{◌≤◌, length, slice_index, ◌∙◌, sym, subst}
use Rattle.faces.specs.Euler.{dart_count, face_step}
use Rattle.faces.specs.Marks.{IsPermutationBelow}
use Rattle.faces.specs.Steps.{AreFaceSteps}
use Rattle.faces.specs.Trace.{orbit_lists}
use Rattle.faces.proofs.FaceSteps.{steps-permutation}
use Rattle.faces.proofs.Listed.{lists-few, lists-ext}
use Rattle.faces.proofs.tracing.trace.Goals as goal

pub list_orbits-requires-clause-graph : goal.list_orbits-requires-clause-graph
list_orbits-requires-clause-graph c = c.darts_in_order.ensures.graph

pub list_orbits-requires-clause-permutation : goal.list_orbits-requires-clause-permutation
list_orbits-requires-clause-permutation c =
    let g = c.args.g.now in
    let r = c.args.r.now in
    let images = c.deref.result.now in
    let steps : AreFaceSteps g r images = subst (AreFaceSteps g r) (sym c.deref.ensures.value) c.in_ok-images.ensures in
    let permutation : IsPermutationBelow (length images) (slice_index images) = steps-permutation g r images c.darts_in_order.ensures.graph c.requires steps in
    subst (λ n. IsPermutationBelow n (slice_index images)) steps.darts permutation

pub of-requires : goal.of-requires
of-requires c =
    let images = c.deref.result.now in
    let few : length (orbit_lists c.args.g.now (slice_index images)) ≤ 100000 = lists-few c.args.g.now (slice_index images) c.darts_in_order.ensures.graph c.darts_in_order.ensures.limits in
    rw c.in_ok-faces.ensures few

pub returns : goal.returns
returns c =
    let g = c.args.g.now in
    let r = c.args.r.now in
    let images = c.deref.result.now in
    let steps : AreFaceSteps g r images = subst (AreFaceSteps g r) (sym c.deref.ensures.value) c.in_ok-images.ensures in
    let permutation : IsPermutationBelow (dart_count g) (slice_index images) = subst (λ n. IsPermutationBelow n (slice_index images)) steps.darts (steps-permutation g r images c.darts_in_order.ensures.graph c.requires steps) in
    c.of.ensures ∙ c.in_ok-faces.ensures ∙ lists-ext g (slice_index images) (face_step g r) c.darts_in_order.ensures.graph permutation steps.each
