use Rattle.std.proofs.Common.{◌≡◌, ℕ, ◌<◌, ◌∙◌, true, List, length, slice_index_or, ap, subst, arith}
use Rattle.std.proofs.lemmas.List.{length-set}
use Rattle.permutations.specs.Members.{is_member}
use Rattle.permutations.proofs.Arrangements.{member-at}
use Rattle.skeletons.specs.Items.{has_vertex}
use Rattle.skel_compose.proofs.EndSums.{clear-more, cleared}
use Rattle.skel_compose.proofs.sums.clear.Goals as goal

pub bounds-sums-v : goal.bounds-sums-v
bounds-sums-v c =
    let vertices = c.vertices-vertices.result.now in
    let v = slice_index_or vertices c.loop-v.v-index 0 in
    let h : has_vertex c.args.tree.now c.args.k v ≡ true = subst (λ (z : List ℕ). is_member v z ≡ true) c.vertices-vertices.ensures (member-at vertices c.loop-v.v-index 0 c.loop-v-test.true) in
    omega (arith, c.requires.within v h, c.loop-v.invariant.0)

pub loop-v-preserved : goal.loop-v-preserved
loop-v-preserved c =
    let vertices = c.vertices-vertices.result.now in
    let v = slice_index_or vertices c.loop-v.v-index 0 in
    let h : has_vertex c.args.tree.now c.args.k v ≡ true = subst (λ (z : List ℕ). is_member v z ≡ true) c.vertices-vertices.ensures (member-at vertices c.loop-v.v-index 0 c.loop-v-test.true) in (
      length-set c.loop-v.sums v 0 ∙ c.loop-v.invariant.0,
      clear-more vertices c.loop-v.sums c.loop-v.v-index c.loop-v-test.true c.loop-v.invariant.1 (omega (arith, c.requires.within v h, c.loop-v.invariant.0)),
    )

pub returns-clause-sums : goal.returns-clause-sums
returns-clause-sums c =
    let nodes = c.args.tree.now in
    let k = c.args.k in
    cleared nodes k c.loop-v.sums c.loop-v.v-index (omega (arith, ap length c.vertices-vertices.ensures, c.loop-v-test.false)) (λ v h. omega (arith, c.requires.within v h, c.loop-v.invariant.0))
    (subst (λ (z : List ℕ). (p : ℕ) → p < c.loop-v.v-index → slice_index_or c.loop-v.sums (slice_index_or z p 0) 0 ≡ 0) c.vertices-vertices.ensures c.loop-v.invariant.1)
