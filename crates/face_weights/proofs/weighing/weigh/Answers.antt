use Rattle.std.proofs.Common.{◌≡◌, ℕ, List, length, subst, arith}
use Rattle.std.proofs.lemmas.Grind.{common_steps}
use Rattle.face_weights.specs.Passes.{AreBelow, AreDone, AreLight}
use Rattle.face_weights.proofs.Weighed.{weighed}
use Rattle.face_weights.proofs.weighing.weigh.Goals as goal

pub returns : goal.returns
returns c = λ family know.
    let parents : List ℕ = c.args.order.parents.items in
    let order : List ℕ = c.args.order.nodes.items in
    let below : List ℕ = c.in_ok-below.below.items in
    let one : c.deref.result.now ≡ parents = grind (arith, common_steps) in
    let two : c.deref-3.result.now ≡ parents = grind (arith, common_steps) in
    weighed c.requires.block.0 c.args.tree.now c.requires.block.1 family know.systems know.plane parents order c.requires.order below c.in_ok-above.above.items c.in_ok-above.most c.in_ok-above.top c.in_ok-below.ensures.number c.in_ok-above.ensures.number
    (subst (λ (z : List ℕ). AreBelow c.args.tree.now family z order 0 below) one (subst (λ (z : List ℕ). AreBelow c.args.tree.now family c.deref.result.now z 0 below) c.deref-2.ensures.value (c.in_ok-below.ensures.below family know)))
    (subst (λ (z : List ℕ). AreDone c.args.tree.now family z order below c.in_ok-above.above.items (length order) c.in_ok-above.most c.in_ok-above.top) two
    (subst (λ (z : List ℕ). AreDone c.args.tree.now family c.deref-3.result.now z below c.in_ok-above.above.items (length z) c.in_ok-above.most c.in_ok-above.top) c.deref-4.ensures.value
    (subst (λ (z : List ℕ). AreDone c.args.tree.now family c.deref-3.result.now c.deref-4.result.now z c.in_ok-above.above.items (length c.deref-4.result.now) c.in_ok-above.most c.in_ok-above.top) c.deref-5.ensures.value (c.in_ok-above.ensures.done family know))))
    (subst (λ (z : List ℕ). AreLight c.args.tree.now z below c.in_ok-above.above.items) two
    (subst (λ (z : List ℕ). AreLight c.args.tree.now c.deref-3.result.now z c.in_ok-above.above.items) c.deref-5.ensures.value c.in_ok-above.ensures.light))
