use Rattle.std.proofs.Common.{◌≡◌, ◌<◌, ◌-◌, ℕ, List, [], length, replicate, slice_index_or, refl, sym, ap, ◌∙◌, subst, arith}
use Rattle.std.proofs.lemmas.List.{length-set, length-replicate}
use Rattle.face_weights.specs.Sums.{weight_in}
use Rattle.face_weights.specs.Passes.{weights_at, AreBelow}
use Rattle.pair_split.specs.Tutte.{node_at}
use Rattle.face_weights.proofs.Steps.{zeros}
use Rattle.face_weights.proofs.InOrder.{node-at}
use Rattle.face_weights.proofs.NodeCode.{weights-few, items-within, items-weights}
use Rattle.face_weights.proofs.UpSteps.{light-first, light-more, below-more}
use Rattle.face_weights.proofs.weighing.pass_up.Goals as goal

pub loop-p-init : goal.loop-p-init
loop-p-init c =
    let e : c.in_ok-below.below.items ≡ replicate c.node_count.result 0 = c.in_ok-below.ensures.items_if_clones_equal (λ y h. h) in (
      ap (λ (z : List ℕ). length z) e ∙ length-replicate c.node_count.result 0 ∙ c.node_count.ensures,
      omega arith,
      light-first c.args.tree.now c.args.parents.now c.in_ok-below.below.items [] (λ k. ap (λ (z : List ℕ). slice_index_or z k 0) e ∙ zeros c.node_count.result k 0) (λ k. refl),
      λ family know q h k s m. absurd (omega (arith, s, m)),
    )

pub weights_of-requires : goal.weights_of-requires
weights_of-requires c =
    let l : c.loop-p.p - 1 < length c.args.order.now = omega (arith, c.loop-p-test.true, c.loop-p.invariant.1) in
    let k = slice_index_or c.args.order.now (c.loop-p.p - 1) 0 in
    record {
      within = λ i j m e. subst (λ n. j < n) (sym (ap length c.deref.ensures.value ∙ c.loop-p.invariant.0))
          (items-within c.requires.block.0 c.args.tree.now c.requires.block.1 k (node-at c.requires.block.0 c.args.tree.now c.requires.block.1 c.args.parents.now c.args.order.now c.requires.order (c.loop-p.p - 1) l) c.items-items.result.now c.items-items.ensures i j m e);
    }

pub rest_at_parent-requires-clause-few : goal.rest_at_parent-requires-clause-few
rest_at_parent-requires-clause-few c =
    let l : c.loop-p.p - 1 < length c.args.order.now = omega (arith, c.loop-p-test.true, c.loop-p.invariant.1) in
    let k = slice_index_or c.args.order.now (c.loop-p.p - 1) 0 in
    let n : k < length c.args.tree.now = node-at c.requires.block.0 c.args.tree.now c.requires.block.1 c.args.parents.now c.args.order.now c.requires.order (c.loop-p.p - 1) l in
    weights-few c.requires.block.0 c.args.tree.now c.requires.block.1 k n c.requires.block.2 c.args.parents.now c.loop-p.below.items [] 0 (weight_in c.deref-in-loop-p.result.now) refl
    (items-weights c.requires.block.0 c.args.tree.now c.requires.block.1 k n c.items-items.result.now c.items-items.ensures c.args.parents.now c.loop-p.below.items c.deref.result.now c.deref-in-loop-p.result.now c.weights_of.new.weights.items 0 c.deref.ensures.value c.deref-in-loop-p.ensures.value c.in_ok-weights_of.ensures.each)
    c.loop-p.invariant.2

pub loop-p-preserved : goal.loop-p-preserved
loop-p-preserved c =
    let p = c.loop-p.p - 1 in
    let l : c.loop-p.p - 1 < length c.args.order.now = omega (arith, c.loop-p-test.true, c.loop-p.invariant.1) in
    let k = slice_index_or c.args.order.now p 0 in
    let n : k < length c.args.tree.now = node-at c.requires.block.0 c.args.tree.now c.requires.block.1 c.args.parents.now c.args.order.now c.requires.order p l in
    let weigh : (i : ℕ) → i < length (node_at c.args.tree.now k).items → weight_in c.deref-in-loop-p.result.now i ≡ weights_at c.args.tree.now c.args.parents.now c.loop-p.below.items 0 k i =
    items-weights c.requires.block.0 c.args.tree.now c.requires.block.1 k n c.items-items.result.now c.items-items.ensures c.args.parents.now c.loop-p.below.items c.deref.result.now c.deref-in-loop-p.result.now c.weights_of.new.weights.items 0 c.deref.ensures.value c.deref-in-loop-p.ensures.value c.in_ok-weights_of.ensures.each in (
      length-set c.loop-p.below.items k c.rest_at_parent.result ∙ c.loop-p.invariant.0,
      omega (arith, c.loop-p.invariant.1),
      let family = c.requires.faces.0 in let know = c.requires.faces.1 in light-more c.requires.block.0 c.args.tree.now c.requires.block.1 family know.systems know.plane c.args.parents.now c.args.order.now c.requires.order p l c.loop-p.below.items c.loop-p.invariant.0 (weight_in c.deref-in-loop-p.result.now) c.rest_at_parent.result weigh (c.rest_at_parent.ensures family know) c.loop-p.invariant.2,
      λ family know. below-more c.requires.block.0 c.args.tree.now c.requires.block.1 family know.systems know.plane c.args.parents.now c.args.order.now c.requires.order p l c.loop-p.below.items c.loop-p.invariant.0 (weight_in c.deref-in-loop-p.result.now) c.rest_at_parent.result weigh (c.rest_at_parent.ensures family know)
          (subst (λ z. AreBelow c.args.tree.now family c.args.parents.now c.args.order.now z c.loop-p.below.items) (omega (arith, c.loop-p-test.true)) (c.loop-p.invariant.3 family know)),
    )
