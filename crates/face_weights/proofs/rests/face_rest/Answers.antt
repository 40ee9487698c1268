use Rattle.std.proofs.Common.{◌≡◌, ◌<◌, ◌+◌, ◌-◌, ◌*◌, ◌/◌, ℕ, max, ap, subst, arith}
use Rattle.multigraph.specs.Graph.{edge_count}
use Rattle.face_weights.specs.Sums.{weight_in}
use Rattle.face_weights.proofs.FaceBounds.{own-weight}
use Rattle.face_weights.proofs.RestLemmas.{rest-from_both}
use Rattle.face_weights.proofs.rests.face_rest.Goals as goal

-- the face of a dart has the item
pub overflow_sub-result : goal.overflow_sub-result
overflow_sub-result c =
    let f = c.requires.faces in
    let w : ℕ → ℕ = weight_in c.args.weights.now in
    let i = c.args.item in
    let l : i < edge_count f.0 = subst (λ n. i < n) f.3 c.requires.item in
    let half : (2 * i) / 2 ≡ i = omega arith in
    omega (arith, own-weight f.0 f.1 w (2 * i) (omega (arith, l)), ap w half, c.face_sum-first.ensures f.0 f.1 f.2, c.max.ensures)

pub returns : goal.returns
returns c = λ g r n e.
    let w : ℕ → ℕ = weight_in c.args.weights.now in
    let i = c.args.item in
    let l : i < edge_count g = subst (λ n. i < n) e c.requires.item in
    let half : (2 * i) / 2 ≡ i = omega arith in
    let rest : (c.max.result - w i) + w i ≡ max c.face_sum-first.result c.face_sum-second.result = omega (arith, own-weight g r w (2 * i) (omega (arith, l)), ap w half, c.face_sum-first.ensures g r n, c.max.ensures) in
    rest-from_both g r w i (c.max.result - w i) c.face_sum-first.result c.face_sum-second.result (c.face_sum-first.ensures g r n) (c.face_sum-second.ensures g r n) l rest
