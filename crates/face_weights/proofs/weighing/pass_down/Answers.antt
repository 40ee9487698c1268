use Rattle.std.proofs.Common.{◌≡◌, ◌<◌, ◌≤◌, ◌*◌, ◌+◌, ◌++◌, ℕ, List, length, take, drop, slice_index_or, inl, inr, refl, sym, ap, ◌∙◌, subst, arith}
use Rattle.std.proofs.lemmas.Bool.{cases_eq}
use Rattle.std.proofs.lemmas.Grind.{common_steps}
use Rattle.std.proofs.lemmas.List.{get_or_default}
use Rattle.permutations.specs.Count.{sum_below}
use Rattle.multigraph.specs.Graph.{max_edges}
use Rattle.pair_split.specs.declared.components.Item.{Item}
use Rattle.face_weights.specs.Sums.{weight_in}
use Rattle.face_weights.specs.Numbers.{KnowFaces}
use Rattle.face_weights.specs.Rests.{IsRest}
use Rattle.face_weights.specs.Passes.{weights_at, AreLight, AreHandedDown, AreDone}
use Rattle.spqr_tree.specs.Keys.{parent_at}
use Rattle.pair_split.specs.Tutte.{node_at}
use Rattle.face_weights.proofs.InOrder.{node-at}
use Rattle.face_weights.proofs.RestLemmas.{rest-total}
use Rattle.face_weights.proofs.NodeCode.{node-some, weights-few, items-within, items-once, items-weights}
use Rattle.face_weights.proofs.DownSteps.{light-down, done-greater, done-less}
use Rattle.face_weights.proofs.weighing.pass_down.Goals.{then-most-sum, else-most-sum}
use Rattle.face_weights.proofs.weighing.pass_down.Goals as goal

pub weights_of-requires : goal.weights_of-requires
weights_of-requires c =
    let k = slice_index_or c.args.order.now c.loop-p.p 0 in
    record {
      within = λ i j m e. subst (λ n. j < n) (sym c.requires.number)
          (items-within c.requires.block.0 c.args.tree.now c.requires.block.1 k (node-at c.requires.block.0 c.args.tree.now c.requires.block.1 c.args.parents.now c.args.order.now c.requires.order c.loop-p.p c.loop-p-test.true) c.items-items.result.now c.items-items.ensures i j m e);
    }

pub rests_of-requires-clause-few : goal.rests_of-requires-clause-few
rests_of-requires-clause-few c =
    let k = slice_index_or c.args.order.now c.loop-p.p 0 in
    let n : k < length c.args.tree.now = node-at c.requires.block.0 c.args.tree.now c.requires.block.1 c.args.parents.now c.args.order.now c.requires.order c.loop-p.p c.loop-p-test.true in
    weights-few c.requires.block.0 c.args.tree.now c.requires.block.1 k n c.requires.block.2 c.args.parents.now c.args.below.now c.loop-p.above.items c.index.result.now (weight_in c.deref.result.now)
    (c.index.ensures ∙ get_or_default c.loop-p.above.items k c.index.result.now 0 (omega (arith, n, c.loop-p.invariant.0)))
    (items-weights c.requires.block.0 c.args.tree.now c.requires.block.1 k n c.items-items.result.now c.items-items.ensures c.args.parents.now c.args.below.now c.args.below.now c.deref.result.now c.weights_of.new.weights.items c.index.result.now refl c.deref.ensures.value c.in_ok-weights_of.ensures.each)
    c.loop-p.invariant.1

pub hand_down-requires-clause-once : goal.hand_down-requires-clause-once
hand_down-requires-clause-once c =
    let k = slice_index_or c.args.order.now c.loop-p.p 0 in
    items-once c.requires.block.0 c.args.tree.now c.requires.block.1 k (node-at c.requires.block.0 c.args.tree.now c.requires.block.1 c.args.parents.now c.args.order.now c.requires.order c.loop-p.p c.loop-p-test.true) c.items-items.result.now c.items-items.ensures

pub hand_down-requires-clause-within : goal.hand_down-requires-clause-within
hand_down-requires-clause-within c = λ i j m e.
    let k = slice_index_or c.args.order.now c.loop-p.p 0 in
    subst (λ n. j < n) (sym (ap (λ (z : List ℕ). length z) c.deref_mut.ensures.value ∙ c.loop-p.invariant.0))
    (items-within c.requires.block.0 c.args.tree.now c.requires.block.1 k (node-at c.requires.block.0 c.args.tree.now c.requires.block.1 c.args.parents.now c.args.order.now c.requires.order c.loop-p.p c.loop-p-test.true) c.items-items.result.now c.items-items.ensures i j m e)

pub greatest_sum-sum-requires-clause-some : goal.greatest_sum-sum-requires-clause-some
greatest_sum-sum-requires-clause-some c =
    let k = slice_index_or c.args.order.now c.loop-p.p 0 in
    omega (
      arith,
      node-some c.requires.block.0 c.args.tree.now c.requires.block.1 k (node-at c.requires.block.0 c.args.tree.now c.requires.block.1 c.args.parents.now c.args.order.now c.requires.order c.loop-p.p c.loop-p-test.true),
      ap (λ (z : List ℕ). length z) c.deref-in-loop-p-2.ensures.value,
      c.in_ok-weights_of.ensures.number,
      ap (λ (z : List Item). length z) c.items-items.ensures,
    )

pub greatest_sum-sum-requires-clause-few : goal.greatest_sum-sum-requires-clause-few
greatest_sum-sum-requires-clause-few c = λ i m.
    let k = slice_index_or c.args.order.now c.loop-p.p 0 in
    let n : k < length c.args.tree.now = node-at c.requires.block.0 c.args.tree.now c.requires.block.1 c.args.parents.now c.args.order.now c.requires.order c.loop-p.p c.loop-p-test.true in
    let few : sum_below (length (node_at c.args.tree.now k).items) (weight_in c.deref.result.now) ≤ 2 * max_edges =
    weights-few c.requires.block.0 c.args.tree.now c.requires.block.1 k n c.requires.block.2 c.args.parents.now c.args.below.now c.loop-p.above.items c.index.result.now (weight_in c.deref.result.now)
    (c.index.ensures ∙ get_or_default c.loop-p.above.items k c.index.result.now 0 (omega (arith, n, c.loop-p.invariant.0)))
    (items-weights c.requires.block.0 c.args.tree.now c.requires.block.1 k n c.items-items.result.now c.items-items.ensures c.args.parents.now c.args.below.now c.args.below.now c.deref.result.now c.weights_of.new.weights.items c.index.result.now refl c.deref.ensures.value c.in_ok-weights_of.ensures.each)
    c.loop-p.invariant.1 in
    let l : i < length (node_at c.args.tree.now k).items = omega (arith, m, ap (λ (z : List ℕ). length z) c.deref-in-loop-p-2.ensures.value, c.in_ok-weights_of.ensures.number, ap (λ (z : List Item). length z) c.items-items.ensures) in
    let total : weight_in c.deref.result.now i + weight_in c.rests_of.new.rests.items i ≤ 2 * sum_below (length (node_at c.args.tree.now k).items) (weight_in c.deref.result.now) =
    rest-total c.requires.block.0 c.args.tree.now c.requires.block.1 c.requires.faces.0 c.requires.faces.1.systems c.requires.faces.1.plane k n (weight_in c.deref.result.now) i (weight_in c.rests_of.new.rests.items i) l (c.in_ok-rests_of.ensures.each c.requires.faces.0 c.requires.faces.1 i l) in
    omega (arith, total, few, ap (λ (z : List ℕ). weight_in z i) c.deref.ensures.value, ap (λ (z : List ℕ). weight_in z i) c.deref-in-loop-p-2.ensures.value, ap (λ (z : List ℕ). weight_in z i) c.deref-in-loop-p-3.ensures.value)

pub loop-p-preserved : goal.loop-p-preserved
loop-p-preserved c =
    let nodes = c.args.tree.now in
    let p = c.loop-p.p in
    let k = slice_index_or c.args.order.now c.loop-p.p 0 in
    let above = c.loop-p.above.items in
    let next = c.hand_down.new.above in
    let weights = c.deref.result.now in
    let rests = c.rests_of.new.rests.items in
    let sum = c.greatest_sum-sum.result in
    let n : k < length c.args.tree.now = node-at c.requires.block.0 c.args.tree.now c.requires.block.1 c.args.parents.now c.args.order.now c.requires.order c.loop-p.p c.loop-p-test.true in
    let value : c.index.result.now ≡ slice_index_or above k 0 = c.index.ensures ∙ get_or_default above k c.index.result.now 0 (omega (arith, n, c.loop-p.invariant.0)) in
    let made : (i : ℕ) → i < length (node_at nodes k).items → weight_in weights i ≡ weights_at nodes c.args.parents.now c.args.below.now c.index.result.now k i =
    items-weights c.requires.block.0 c.args.tree.now c.requires.block.1 k n c.items-items.result.now c.items-items.ensures c.args.parents.now c.args.below.now c.args.below.now weights c.weights_of.new.weights.items c.index.result.now refl c.deref.ensures.value c.in_ok-weights_of.ensures.each in
    let weigh : (i : ℕ) → i < length (node_at nodes k).items → weight_in weights i ≡ weights_at nodes c.args.parents.now c.args.below.now (slice_index_or above k 0) k i =
    λ i a. made i a ∙ ap (λ z. weights_at nodes c.args.parents.now c.args.below.now z k i) value in
    let rest : (family : List (List (List ℕ))) → KnowFaces nodes family c.args.faces.now → (i : ℕ) → i < length (node_at nodes k).items → IsRest nodes family k (weight_in weights) i (weight_in rests i) = c.in_ok-rests_of.ensures.each in
    let handed : AreHandedDown (node_at nodes k).items (parent_at c.args.parents.now k) rests (length (node_at nodes k).items) above next =
    subst (λ (z : List Item). AreHandedDown z (parent_at c.args.parents.now k) rests (length z) above next) c.items-items.ensures
    (subst (λ (z : List ℕ). AreHandedDown c.items-items.result.now (parent_at c.args.parents.now k) z (length c.items-items.result.now) above next) c.deref-in-loop-p.ensures.value
    (subst (λ (z : List ℕ). AreHandedDown c.items-items.result.now (parent_at c.args.parents.now k) c.deref-in-loop-p.result.now (length c.items-items.result.now) z next) c.deref_mut.ensures.value c.hand_down.ensures)) in
    let number : length (node_at nodes k).items ≡ length c.deref-in-loop-p-2.result.now = omega (arith, ap (λ (z : List ℕ). length z) c.deref-in-loop-p-2.ensures.value, c.in_ok-weights_of.ensures.number, ap (λ (z : List Item). length z) c.items-items.ensures) in
    let same : (i : ℕ) → weight_in c.deref-in-loop-p-2.result.now i + weight_in c.deref-in-loop-p-3.result.now i ≡ weight_in weights i + weight_in rests i =
    λ i. omega (arith, ap (λ (z : List ℕ). weight_in z i) c.deref.ensures.value, ap (λ (z : List ℕ). weight_in z i) c.deref-in-loop-p-2.ensures.value, ap (λ (z : List ℕ). weight_in z i) c.deref-in-loop-p-3.ensures.value) in
    let bounds : (i : ℕ) → i < length (node_at nodes k).items → weight_in weights i + weight_in rests i ≤ sum = λ i a. subst (λ z. z ≤ sum) (same i) (c.greatest_sum-sum.ensures.most i (subst (λ z. i < z) number a)) in
    let reached : (i : ℕ) × (i < length (node_at nodes k).items) × (weight_in weights i + weight_in rests i ≡ sum) =
    let r = c.greatest_sum-sum.ensures.reached in (r.0, subst (λ z. r.0 < z) (sym number) r.1, sym (same r.0) ∙ r.2) in
    let s : take c.loop-p.above.len (c.hand_down.new.above ++ drop (length c.hand_down.new.above) c.loop-p.above.items) ≡ c.hand_down.new.above = grind (arith, common_steps) in (
      ap (λ (z : List ℕ). length z) s ∙ handed.number ∙ c.loop-p.invariant.0,
      subst (λ (z : List ℕ). AreLight nodes c.args.parents.now c.args.below.now z) (sym s) (light-down c.requires.block.0 c.args.tree.now c.requires.block.1 c.requires.faces.0 c.requires.faces.1.systems c.requires.faces.1.plane c.args.parents.now c.args.order.now c.requires.order c.args.below.now p c.loop-p-test.true above next weights rests weigh (rest c.requires.faces.0 c.requires.faces.1) handed c.loop-p.invariant.1),
      λ family know. subst (λ (z : List ℕ). AreDone nodes family c.args.parents.now c.args.order.now c.args.below.now z (p + 1) c.if-most-sum.most c.if-most-sum.top) (sym s) (elim c.if-most-sum.branch [
        | then-most-sum w ↦ subst (λ z. AreDone nodes family c.args.parents.now c.args.order.now c.args.below.now next (p + 1) z c.if-most-sum.top) (sym w.most-is)
            (subst (λ z. AreDone nodes family c.args.parents.now c.args.order.now c.args.below.now next (p + 1) sum z) (sym w.top-is)
            (done-greater c.requires.block.0 c.args.tree.now c.requires.block.1 family know.systems know.plane c.args.parents.now c.args.order.now c.requires.order c.args.below.now p c.loop-p-test.true above next weights rests weigh (rest family know) handed c.loop-p.most c.loop-p.top sum bounds (omega (arith, w.if-most-sum.true)) reached (c.loop-p.invariant.2 family know)))
        | else-most-sum w ↦ subst (λ z. AreDone nodes family c.args.parents.now c.args.order.now c.args.below.now next (p + 1) z c.if-most-sum.top) (sym w.most-is)
            (subst (λ z. AreDone nodes family c.args.parents.now c.args.order.now c.args.below.now next (p + 1) c.loop-p.most z) (sym w.top-is)
            (done-less c.requires.block.0 c.args.tree.now c.requires.block.1 family know.systems know.plane c.args.parents.now c.args.order.now c.requires.order c.args.below.now p c.loop-p-test.true above next weights rests weigh (rest family know) handed c.loop-p.most c.loop-p.top sum bounds (omega (arith, w.if-most-sum.false))
            (elim (cases_eq c.loop-p.p 0) [ inl e ↦ absurd (omega (arith, w.if-most-sum.false, c.loop-p.invariant.3 e)) | inr e ↦ omega (arith, e) ]) (c.loop-p.invariant.2 family know)))
      ]),
      λ e. absurd (omega (arith, e)),
    )
