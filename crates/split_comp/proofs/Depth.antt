-- How many turns are left: the depth of a vertex, and the darts that are left.
use Rattle.std.proofs.Common.{◌≡◌, ◌≢◌, ℕ, zero, suc, ◌+◌, ◌<◌, ◌≤◌, inl, inr, Bool, true, if◌then◌else◌, ◌==◌, List, ◌∷◌, length, slice_index, slice_set, refl, sym, ap, ◌∙◌, subst, arith}
use Rattle.std.proofs.lemmas.Bool.{cases_eq, cases_lt, eq-eqb, ne_eqb}
use Rattle.std.proofs.lemmas.List.Elements.{All-tail}
use Rattle.permutations.proofs.Members.{distinct-tail}
use Rattle.multigraph.specs.Graph.{Multigraph, edge_count}
use Rattle.pair_split.specs.Family.{Entry, names, IsFamily}
use Rattle.pair_split.proofs.Elements.{element-some}
use Rattle.split_comp.specs.declared.items.Dart.{Dart}
use Rattle.split_comp.specs.Palm.{tree_dart, tree_degree, tree_parent, dart_entry, IsPalm}
use Rattle.split_comp.specs.Walk.{AreLeft}
use Rattle.split_comp.specs.Pass.{NumberedTree, PassState, at_place, IsPass, IsAsFar, IsCome, HasTurns, IsTurned, gone_along, gone_down}
use Rattle.split_comp.proofs.Walk.{left-more, walk-return}
use Rattle.split_comp.proofs.Going.{one-more}

-- so many steps lead from x to the root, where there are no more than this
pub depth-of : (ℕ → ℕ) → ℕ → ℕ → ℕ
depth-of parent zero x = 0
depth-of parent (suc fuel) x = (if x == 0 then 0 else depth-of parent fuel (parent x) + 1)

depth-root : (parent : ℕ → ℕ) (fuel x : ℕ) → x ≡ 0 → depth-of parent (suc fuel) x ≡ 0
unfolding depth-of
depth-root parent fuel x e = ap (λ (b : Bool). (if b then 0 else depth-of parent fuel (parent x) + 1)) (eq-eqb x 0 e)

depth-step : (parent : ℕ → ℕ) (fuel x : ℕ) → x ≢ 0 → depth-of parent (suc fuel) x ≡ depth-of parent fuel (parent x) + 1
unfolding depth-of
depth-step parent fuel x e = ap (λ (b : Bool). (if b then 0 else depth-of parent fuel (parent x) + 1)) (ne_eqb x 0 e)

module _ (n m : ℕ) (parent degree : ℕ → ℕ) (dart : ℕ → ℕ → Dart) (palm : IsPalm n m parent degree dart) where
  depth-same : (fuel more x : ℕ) → x < fuel → x < more → x < n → depth-of parent fuel x ≡ depth-of parent more x
  depth-same zero more x a b l = absurd (omega (arith, a))
  depth-same (suc fuel) zero x a b l = absurd (omega (arith, b))
  depth-same (suc fuel) (suc more) x a b l = elim (cases_eq x 0) [
    | inl e ↦ depth-root parent fuel x e ∙ sym (depth-root parent more x e)
    | inr e ↦
        let p = palm.parent_less x l e in
        depth-step parent fuel x e ∙ (ap (λ (k : ℕ). k + 1) (depth-same fuel more (parent x) (omega (arith, a, p.0)) (omega (arith, b, p.0)) (omega (arith, l, p.0))) ∙ sym (depth-step parent more x e))
  ]

  pub depth-top : depth-of parent 1 0 ≡ 0
  depth-top = depth-root parent 0 0 refl

  pub depth-deeper : (x : ℕ) → x < n → x ≢ 0 → depth-of parent (suc x) x ≡ depth-of parent (suc (parent x)) (parent x) + 1
  depth-deeper x l e =
      let p = palm.parent_less x l e in
      depth-step parent x x e ∙ ap (λ (k : ℕ). k + 1) (depth-same x (suc (parent x)) (parent x) p.0 (omega arith) (omega (arith, l, p.0)))

  depth-fuel : (depth : ℕ → ℕ) → depth 0 ≡ 0 → ((x : ℕ) → x < n → x ≢ 0 → depth x ≡ depth (parent x) + 1) → (fuel x : ℕ) → x < fuel → x < n → depth x ≤ x
  depth-fuel depth top deeper zero x a l = absurd (omega (arith, a))
  depth-fuel depth top deeper (suc fuel) x a l = elim (cases_eq x 0) [
    | inl e ↦ omega (arith, ap depth e, top)
    | inr e ↦ let p = palm.parent_less x l e in omega (arith, deeper x l e, p.0, depth-fuel depth top deeper fuel (parent x) (omega (arith, a, p.0)) (omega (arith, l, p.0)))
  ]

  -- a vertex is no deeper than its number
  depth-le : (depth : ℕ → ℕ) → depth 0 ≡ 0 → ((x : ℕ) → x < n → x ≢ 0 → depth x ≡ depth (parent x) + 1) → (x : ℕ) → x < n → depth x ≤ x
  depth-le depth top deeper x l = depth-fuel depth top deeper (suc x) x (omega arith) l

family-tail : (x : Entry) (rest : List Entry) → IsFamily (x ∷ rest) → IsFamily rest
family-tail x rest f = record { names_once = distinct-tail x.name (names rest) f.names_once; no_loops = All-tail (λ (e : Entry). e.first ≢ e.second) x rest f.no_loops }

module _ (g : Multigraph) (t : NumberedTree) (s : PassState) (p : IsPass g t s) where
  abbrev degree : ℕ → ℕ
  degree = tree_degree t.palm t.vertex

  abbrev dart : ℕ → ℕ → Dart
  dart = tree_dart g t.palm t.vertex

  abbrev parent : ℕ → ℕ
  parent = tree_parent t.palm t.vertex

  at-in : s.at < g.vertex_count
  at-in = omega (arith, p.walk.current, p.walk.within)

  -- the dart to the vertex where the search is, is not finished
  pub parent-less : s.at ≢ 0 → (parent s.at < s.at) × (parent s.at < g.vertex_count)
  parent-less z = let l = p.palm.parent_less s.at at-in z in (l.0, omega (arith, l.0, at-in))

  pub parent-dart : s.at ≢ 0 → at_place s.gone (parent s.at) < degree (parent s.at)
  parent-dart z = (p.walk.under_way s.at z (omega arith, p.palm.above s.at)).0

  -- one dart less is left
  one-less : (v : ℕ) → v < g.vertex_count → at_place s.gone v < degree v → (rest : List Entry) → IsFamily rest → AreLeft g.vertex_count degree dart (at_place s.gone) rest
      → (fewer : List Entry) × IsFamily fewer × AreLeft g.vertex_count degree dart (at_place (slice_set s.gone v (slice_index s.gone v + 1))) fewer × (length rest ≡ length fewer + 1)
  one-less v l more rest fam left =
      let w = left-more g.vertex_count (edge_count g) parent degree dart p.palm v (at_place s.gone) (at_place (slice_set s.gone v (slice_index s.gone v + 1))) rest l more (one-more s.gone v (omega (arith, l, p.places.gone))) left fam in
      (w.0, family-tail (dart_entry v (dart v (at_place s.gone v))) w.0 w.5, w.1, w.4)

  -- with no turn left nothing would be left
  pub no-turns : HasTurns g t s 0 → ⊥
  no-turns h = elim (cases_lt (at_place s.gone s.at) (degree s.at)) [
    | inl l ↦ left-over s.at (at_place s.gone s.at) at-in (omega arith) l
    | inr l ↦ elim (cases_eq s.at 0) [
      | inl z ↦ omega (arith, l, p.going z, ap (at_place s.gone) z, ap degree z)
      | inr z ↦ left-over (parent s.at) (at_place s.gone (parent s.at)) (parent-less z).1 (omega arith) (parent-dart z)
    ]
  ]
    where
      left-over : (u k : ℕ) → u < g.vertex_count → at_place s.gone u ≤ k → k < degree u → ⊥
      left-over u k a b c = omega (
        arith,
        element-some (dart_entry u (dart u k)) h.rest (h.left.left u k a b c),
        h.exact,
        depth-le g.vertex_count (edge_count g) parent degree dart p.palm h.depth h.top h.deeper s.at at-in,
        p.walk.current,
      )

  -- the search goes down
  pub down-turned : at_place s.gone s.at < degree s.at → (dart s.at (at_place s.gone s.at)).tree ≡ true → (new : PassState) → new ≡ gone_down s (dart s.at (at_place s.gone s.at)).far → IsTurned g t s new
  down-turned more tree new e k h = subst (λ (z : PassState). HasTurns g t z k) (sym e) (record {
    depth = h.depth;
    top = h.top;
    deeper = h.deeper;
    rest = h.rest;
    is_family = h.is_family;
    left = h.left;
    exact =
        let far = p.palm.tree_far s.at (at_place s.gone s.at) at-in more tree in
        omega (arith, h.exact, h.deeper (dart s.at (at_place s.gone s.at)).far far.0 (λ z. omega (arith, z, far.1)), ap h.depth far.3);
  })

  -- a frond is gone along
  pub frond-turned : at_place s.gone s.at < degree s.at → (new : PassState) → IsAsFar (gone_along s s.at) new → IsTurned g t s new
  frond-turned more new far k h =
      let w = one-less s.at at-in more h.rest h.is_family h.left in
      record {
        depth = h.depth;
        top = h.top;
        deeper = h.deeper;
        rest = w.0;
        is_family = w.1;
        left = subst (λ (gone : List ℕ). AreLeft g.vertex_count degree dart (at_place gone) w.0) (sym far.gone) w.2;
        exact = omega (arith, h.exact, w.3, far.done, ap h.depth far.at);
      }

  -- the search comes back
  pub back-turned : at_place s.gone s.at ≡ degree s.at → s.at ≢ 0 → (new : PassState) → IsCome (parent s.at) s new → IsTurned g t s new
  back-turned all z new come k h =
      let l = parent-less z in
      let w = one-less (parent s.at) l.1 (parent-dart z) h.rest h.is_family h.left in
      let r = walk-return g.vertex_count (edge_count g) parent degree dart p.palm s.at s.done (at_place s.gone) p.walk (at_place (slice_set s.gone (parent s.at) (slice_index s.gone (parent s.at) + 1))) z all (one-more s.gone (parent s.at) (omega (arith, l.1, p.places.gone))) in
      record {
        depth = h.depth;
        top = h.top;
        deeper = h.deeper;
        rest = w.0;
        is_family = w.1;
        left = subst (λ (gone : List ℕ). AreLeft g.vertex_count degree dart (at_place gone) w.0) (sym come.gone) w.2;
        exact = omega (arith, h.exact, w.3, r.0, come.done, ap h.depth come.at, h.deeper s.at at-in z);
      }
