use Rattle.std.proofs.Common.{◌≡◌, ℕ, ◌/◌, List, length, sym, ap, ◌∙◌, subst, arith}
use Rattle.std.specs.Prelude.{Option}
use Rattle.dart_maps.proofs.Darts.{twin-edge}
use Rattle.pair_split.specs.Tutte.{node_at}
use Rattle.pair_split.specs.declared.components.Kind.{Kind}
use Rattle.skeleton_planes.proofs.SkeletonDarts.{dart-item}
use Rattle.face_weights.specs.Weights.{weight_of}
use Rattle.long_face.specs.Heaviest.{IsHeaviest, number_in}
use Rattle.long_face.specs.Ready.{NodeRows, AreNeeded}
use Rattle.long_face.specs.Walk.{IsAsked}
use Rattle.skel_compose.proofs.Found.{items-few}
use Rattle.long_face.proofs.RowLemmas.{items-several}
use Rattle.long_face.proofs.RowsMade.{known-ready}
use Rattle.long_face.proofs.Walked.{settled-none, settled-some}
use Rattle.long_face.proofs.walking.want_below.Goals as goal

pub asked-requires-clause-known : goal.asked-requires-clause-known
asked-requires-clause-known c = let y = c.requires.known in (y.0, y.1, y.2.block, y.2.limits, y.2.numbers)

pub fill_for-requires-clause-node : goal.fill_for-requires-clause-node
fill_for-requires-clause-node c = c.requires.askable.far

-- the dart is one of the node
pub want_of-requires-clause-bond : goal.want_of-requires-clause-bond
want_of-requires-clause-bond c = λ e.
    let y = c.requires.known in
    let a = c.requires.askable in
    let needed = (c.in_ok-fill_for-in-Some.ensures y.0 y.1 y.2).bond (sym c.kind.ensures ∙ e) in
    let s = (c.asked.ensures y.0 y.1 y.2.block y.2.numbers).source c.in-Some.dart c.in-Some.is in
    let m = dart-item y.0 c.args.tree.now y.2.block c.args.k a.far s.1 (s.2.second.1) in
    let n : length c.deref.result.now ≡ length (node_at c.args.tree.now c.args.k).items = ap length c.deref.ensures.value ∙ ap (λ (z : NodeRows). length z.weights) c.rows.view_is ∙ needed.0 in (
      omega (arith, n, items-few y.0 c.args.tree.now y.2.block c.args.k a.far y.2.limits),
      omega (arith, n, items-several y.0 c.args.tree.now y.2.block c.args.k a.far (sym c.kind.ensures ∙ e)),
      omega (arith, n, m, ap (λ z. z / 2) s.4, twin-edge s.1),
    )

pub want_of-requires-clause-sides : goal.want_of-requires-clause-sides
want_of-requires-clause-sides c = λ e.
    let y = c.requires.known in
    let a = c.requires.askable in
    let row = (c.in_ok-fill_for-in-Some.ensures y.0 y.1 y.2).sides (sym c.kind.ensures ∙ e) in
    let s = (c.asked.ensures y.0 y.1 y.2.block y.2.numbers).source c.in-Some.dart c.in-Some.is in
    let m = dart-item y.0 c.args.tree.now y.2.block c.args.k a.far s.1 (s.2.second.1) in (
      length (node_at c.args.tree.now c.args.k).items,
      omega (arith, ap length c.deref-in-Some.ensures.value, ap (λ (z : NodeRows). length z.sums) c.rows.view_is, row.darts, row.items),
      omega (arith, m, ap (λ z. z / 2) s.4, twin-edge s.1),
    )

-- nothing is asked
pub returns-in-None : goal.returns-in-None
returns-in-None c = λ g family y.
    settled-none g c.args.tree.now y.block family y.numbers.systems y.numbers.plane c.args.p c.args.k c.args.above c.requires.askable (weight_of c.args.tree.now c.args.weights.now)
    (subst (λ (z : Option ℕ). IsAsked c.args.tree.now family c.args.p c.args.above c.args.k z) c.in-None.is (c.asked.ensures g family y.block y.numbers))

-- a dart is
pub returns-in_ok-fill_for-in-Some : goal.returns-in_ok-fill_for-in-Some
returns-in_ok-fill_for-in-Some c = λ g family y.
    let tree = c.args.tree.now in
    let weight : ℕ → ℕ → ℕ = weight_of tree c.args.weights.now in
    let rows = c.fill_for.new.rows in
    let needed : AreNeeded tree family weight c.args.k rows = c.in_ok-fill_for-in-Some.ensures g family y in
    let weights : c.deref.result.now ≡ rows.weights = c.deref.ensures.value ∙ ap (λ (z : NodeRows). z.weights) c.rows.view_is in
    let sums : c.deref-in-Some.result.now ≡ rows.sums = c.deref-in-Some.ensures.value ∙ ap (λ (z : NodeRows). z.sums) c.rows.view_is in
    let w = c.want_of.result in
    let kind = c.kind.result in
    settled-some g tree family weight c.args.weights.now.top c.args.weights.now.most (known-ready g tree family c.args.faces.now c.args.weights.now y) c.args.p c.args.k c.args.above c.requires.askable rows needed c.in-Some.dart w
    (subst (λ (z : Option ℕ). IsAsked tree family c.args.p c.args.above c.args.k z) c.in-Some.is (c.asked.ensures g family y.block y.numbers))
    (subst (λ (z : Kind). IsHeaviest z (length rows.weights) (number_in rows.weights) (number_in rows.sums) c.in-Some.dart w) c.kind.ensures
    (subst (λ (z : List ℕ). IsHeaviest kind (length z) (number_in z) (number_in rows.sums) c.in-Some.dart w) weights
    (subst (λ (z : List ℕ). IsHeaviest kind (length c.deref.result.now) (number_in c.deref.result.now) (number_in z) c.in-Some.dart w) sums c.want_of.ensures)))
