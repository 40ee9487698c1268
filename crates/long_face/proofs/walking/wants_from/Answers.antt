use Rattle.std.proofs.Common.{◌≡◌, ◌≢◌, ◌<◌, ℕ, true, List, length, slice_index_or, refl, sym, ap, ◌∙◌, subst, arith}
use Rattle.std.specs.Prelude.{Option}
use Rattle.std.proofs.lemmas.List.{length-set}
use Rattle.skeletons.proofs.NodeItems.{node-in}
use Rattle.skeleton_faces.specs.Faces.{IsSkeletonDart}
use Rattle.spqr_tree.specs.Keys.{parent_at}
use Rattle.face_weights.specs.Weights.{weight_of}
use Rattle.long_face.specs.Settled.{has_want, want_or, want_at, IsBest, IsSettled}
use Rattle.long_face.specs.Wanted.{Want}
use Rattle.long_face.specs.Walk.{AreSettledUpTo}
use Rattle.long_face.proofs.Steps.{parent-items, parent-askable, settled-more, settled-all}
use Rattle.long_face.proofs.walking.wants_from.Goals.{then-k-top+in_ok-want_at_top, else-k-top+in_ok-own}
use Rattle.long_face.proofs.walking.wants_from.Goals as goal

pub want_under-requires-clause-within : goal.want_under-requires-clause-within
want_under-requires-clause-within c =
    let y = c.requires.known in
    let l : c.args.top < length c.args.tree.now = omega (arith, c.requires.top, y.2.weighed.top.node) in
    let k = slice_index_or c.args.order.now c.loop-k.k-index 0 in
    let n : k ≢ c.args.top = λ e. omega (arith, e, c.if-k-top.false) in
    let items = parent-items y.0 c.args.tree.now y.2.block c.args.top l c.args.parents.now c.args.order.now c.requires.order c.requires.once k (node-in y.0 c.args.tree.now y.2.block.tree k (c.requires.order.within c.loop-k.k-index c.loop-k-test.true)) n in
    omega (arith, items.0, ap length c.deref.ensures.value, c.loop-k.invariant.0)

pub want_under-requires-clause-askable : goal.want_under-requires-clause-askable
want_under-requires-clause-askable c = λ h.
    let y = c.requires.known in
    let l : c.args.top < length c.args.tree.now = omega (arith, c.requires.top, y.2.weighed.top.node) in
    let k = slice_index_or c.args.order.now c.loop-k.k-index 0 in
    let n : k ≢ c.args.top = λ e. omega (arith, e, c.if-k-top.false) in
    parent-askable y.0 c.args.tree.now y.2.block c.args.top l c.args.parents.now c.args.order.now c.requires.order c.requires.once y.1 (weight_of c.args.tree.now c.args.weights.now) c.args.weights.now.most c.deref.result.now c.loop-k.k-index c.loop-k-test.true n
    (subst (λ (z : List (Option Want)). AreSettledUpTo c.args.tree.now y.1 (weight_of c.args.tree.now c.args.weights.now) c.args.top c.args.weights.now.most c.args.parents.now c.args.order.now c.loop-k.k-index z) (sym c.deref.ensures.value) (c.loop-k.invariant.1 y.0 y.1 y.2)) h

pub loop-k-preserved : goal.loop-k-preserved
loop-k-preserved c =
    let tree = c.args.tree.now in
    let weighing = c.args.weights.now in
    let q = c.loop-k.k-index in
    let k = slice_index_or c.args.order.now q 0 in
    let p = parent_at c.args.parents.now k in
    let own = c.if-k-top.own in (
      length-set c.loop-k.wants.items k own ∙ c.loop-k.invariant.0,
      λ g family y.
          let weight : ℕ → ℕ → ℕ = weight_of tree weighing in
          let l : c.args.top < length tree = omega (arith, c.requires.top, y.weighed.top.node) in
          settled-more g tree y.block c.args.top l c.args.parents.now c.args.order.now c.requires.order c.requires.once family weight weighing.most c.loop-k.wants.items q own c.loop-k-test.true (c.loop-k.invariant.1 g family y)
          (λ e. elim c.if-k-top.branch [
            | then-k-top+in_ok-want_at_top w ↦
                let r = w.in_ok-want_at_top.ensures g family y in
                subst (λ (z : Option Want). (has_want z ≡ true) × IsSkeletonDart tree k (want_or z).dart × IsBest tree family weight k (want_or z) weighing.most) (sym w.own-is)
                (subst (λ (z : ℕ). (true ≡ true) × IsSkeletonDart tree z w.in_ok-want_at_top.field-0.dart × IsBest tree family weight z w.in_ok-want_at_top.field-0 weighing.most) (sym e) (refl, r.0, r.1))
            | else-k-top+in_ok-own w ↦ absurd (omega (arith, e, w.if-k-top.false))
          ])
          (λ n. elim c.if-k-top.branch [
            | then-k-top+in_ok-want_at_top w ↦ absurd (n (omega (arith, w.if-k-top.true)))
            | else-k-top+in_ok-own w ↦ subst (λ (z : Option Want). IsSettled tree family weight p (want_at c.loop-k.wants.items p) k z) (sym w.own-is)
                (subst (λ (l : List (Option Want)). IsSettled tree family weight p (want_at l p) k w.in_ok-own.own) w.deref.ensures.value (w.in_ok-own.ensures g family y))
          ]),
    )

pub returns-clause-settled : goal.returns-clause-settled
returns-clause-settled c = λ g family y.
    let l : c.args.top < length c.args.tree.now = omega (arith, c.requires.top, y.weighed.top.node) in
    settled-all g c.args.tree.now y.block c.args.top l c.args.parents.now c.args.order.now c.requires.order c.requires.once family (weight_of c.args.tree.now c.args.weights.now) c.args.weights.now.most c.loop-k.wants.items c.loop-k.k-index (omega (arith, c.loop-k-test.false)) (c.loop-k.invariant.1 g family y)
