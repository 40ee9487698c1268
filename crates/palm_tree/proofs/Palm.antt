-- The tree that was found as a palm tree: parents, parent edges, fronds and what is reached.
use Rattle.std.proofs.Common.{◌≡◌, ℕ, zero, suc, ◌<◌, ◌≤◌, inl, inr, Bool, true, false, if◌then◌else◌, not, ◌==◌, ltb, List, get_or, Option, None, Some, refl, sym, ap, ◌∙◌, subst, arith}
use Rattle.std.proofs.lemmas.Bool.{cases_Bool, cases_lt, lt-ltb, le-ltb, eq-eqb, eqb-true, true≢false}
use Rattle.permutations.specs.Members.{is_member, is_distinct}
use Rattle.permutations.specs.Permutation.{iterate}
use Rattle.permutations.proofs.Iterates.{iterate-first, iterate-more}
use Rattle.permutations.proofs.Filter.{filter-member, member-filter_parts, distinct-filter}
use Rattle.multigraph.specs.Graph.{Multigraph, edge_count, other_end, IsGraph}
use Rattle.graph_theory.proofs.Ends.{other-other, end-cases, end-in}
use Rattle.palm_tree.specs.PalmTree.{PalmTreeLists, parent_of, is_frond, darts_of, Climbs, IsDescendant, IsParentEdge, IsFrondFrom, BeginsAt, IsReached, AreDarts}
use Rattle.search_forest.specs.Forest.{ForestState}
use Rattle.search_forest.specs.Searching.{IsOver}
use Rattle.palm_tree.specs.Growing.{LowVertices, is_tree_edge, upper_end, begin_of, LeadsFrom, AreFound, AreEdges}
use Rattle.palm_tree.proofs.Begins.{begin-in}
use Rattle.search_forest.proofs.Grown.{parent-in, parent-depth, lower-end, lower-in, lower-deep, upper-below, upper-depth, tree-upper}
use Rattle.palm_tree.proofs.Intervals.{Below, trans, same, up, deeper}

-- the number in an answer
held : ℕ → Option ℕ → ℕ
held d None = d
held d (Some x) = x

-- whether there is an answer
told : Option ℕ → Bool
told None = false
told (Some x) = true

some-same : (x y : ℕ) → Some x ≡ Some y → x ≡ y
unfolding held
some-same x y e = ap (held 0) e

some-differs : (x : ℕ) → Some x ≡ None → ⊥
unfolding told
some-differs x e = true≢false (ap told e)

-- what a test's opposite says
not-false : (b : Bool) → not b ≡ false → b ≡ true
not-false b h = grind (arith, cases_Bool b, h)

not-true : (b : Bool) → not b ≡ true → b ≡ false
not-true b h = grind (arith, cases_Bool b, h)

module _ (g : Multigraph) (gg : IsGraph g) (s : ForestState) (o : IsOver g s) (low : LowVertices) (edges numbers : List ℕ) (t : PalmTreeLists) (f : AreFound g s low edges numbers t) where
  -- parents
  pub parent-deep : (v : ℕ) → v < g.vertex_count → 0 < get_or s.depth v 0 → parent_of t v ≡ Some (get_or s.parent v 0)
  parent-deep v l d = let b : ltb 0 (get_or s.depth v 0) ≡ true = lt-ltb 0 (get_or s.depth v 0) d in f.parent.at v l ∙ ap (λ (c : Bool). (if c then Some (get_or s.parent v 0) else None)) b

  pub parent-root : (v : ℕ) → v < g.vertex_count → get_or s.depth v 0 ≡ 0 → parent_of t v ≡ None
  parent-root v l d = let b : ltb 0 (get_or s.depth v 0) ≡ false = le-ltb 0 (get_or s.depth v 0) (omega arith) in f.parent.at v l ∙ ap (λ (c : Bool). (if c then Some (get_or s.parent v 0) else None)) b

  pub parent-some : (v p : ℕ) → v < g.vertex_count → parent_of t v ≡ Some p → (0 < get_or s.depth v 0) × (get_or s.parent v 0 ≡ p)
  parent-some v p l e = elim (cases_lt 0 (get_or s.depth v 0)) [
    | inl d ↦ (d, some-same (get_or s.parent v 0) p (sym (parent-deep v l d) ∙ e))
    | inr n ↦ absurd (some-differs p (sym e ∙ parent-root v l (omega arith)))
  ]

  pub parent-none : (v : ℕ) → v < g.vertex_count → parent_of t v ≡ None → get_or s.depth v 0 ≡ 0
  parent-none v l e = elim (cases_lt 0 (get_or s.depth v 0)) [
    | inl d ↦ absurd (some-differs (get_or s.parent v 0) (sym (parent-deep v l d) ∙ e))
    | inr n ↦ omega arith
  ]

  -- descendants
  climbs-below : (k z v : ℕ) → z < g.vertex_count → Climbs t k z v → Below s v z
  climbs-below zero z v l c = subst (λ (x : ℕ). Below s x z) c (same g gg s o z)
  climbs-below (suc k) z v l c =
      let p = parent-some z c.0 l c.1 in
      let pl : c.0 < g.vertex_count = subst (λ (x : ℕ). x < g.vertex_count) p.1 (parent-in g gg s o z l p.0) in
      trans g gg s o v c.0 z l (climbs-below k c.0 v pl c.2) (subst (λ (x : ℕ). Below s x z) p.1 (up g gg s o z p.0))

  below-climbs : (k z v : ℕ) → z < g.vertex_count → k ≤ get_or s.depth z 0 → iterate (λ q. get_or s.parent q 0) k z ≡ v → Climbs t k z v
  below-climbs zero z v l h e = e
  below-climbs (suc k) z v l h e =
      let d : 0 < get_or s.depth z 0 = omega arith in
      (get_or s.parent z 0, parent-deep z l d, below-climbs k (get_or s.parent z 0) v (parent-in g gg s o z l d) (omega (arith, parent-depth g gg s o z l d)) (sym (iterate-first (λ q. get_or s.parent q 0) k z) ∙ (iterate-more (λ q. get_or s.parent q 0) k z ∙ e)))

  pub descendant-below : (v z : ℕ) → z < g.vertex_count → IsDescendant t v z → Below s v z
  descendant-below v z l d = climbs-below d.steps z v l d.climbs

  pub below-descendant : (v z : ℕ) → z < g.vertex_count → Below s v z → IsDescendant t v z
  below-descendant v z l b = record { steps = b.steps; climbs = below-climbs b.steps z v l b.within b.leads }

  -- marks of fronds
  pub frond-mark : (e : ℕ) → e < edge_count g → is_frond t e ≡ not (is_tree_edge s e)
  frond-mark e l = f.frond.at e l

  pub mark-tree : (e : ℕ) → e < edge_count g → is_frond t e ≡ false → is_tree_edge s e ≡ true
  mark-tree e l h = not-false (is_tree_edge s e) (sym (frond-mark e l) ∙ h)

  pub mark-frond : (e : ℕ) → e < edge_count g → is_frond t e ≡ true → is_tree_edge s e ≡ false
  mark-frond e l h = not-true (is_tree_edge s e) (sym (frond-mark e l) ∙ h)

  pub tree-mark : (e : ℕ) → e < edge_count g → is_tree_edge s e ≡ true → is_frond t e ≡ false
  tree-mark e l h = frond-mark e l ∙ ap not h

  pub other-mark : (e : ℕ) → e < edge_count g → is_tree_edge s e ≡ false → is_frond t e ≡ true
  other-mark e l h = frond-mark e l ∙ ap not h

  -- parent edges
  pub to-parent_edge : (e : ℕ) → e < edge_count g → is_tree_edge s e ≡ true → IsParentEdge g t (get_or s.lower e 0) e
  to-parent_edge e l h = record {
    is_edge = l;
    no_frond = tree-mark e l h;
    at_child = lower-end g gg s o e l;
    to_parent = parent-deep (get_or s.lower e 0) (lower-in g gg s o e l) (lower-deep g gg s o e l) ∙ ap (λ (x : ℕ). Some x) (sym (tree-upper g gg s o e l h));
  }

  pub from-parent_edge : (v e : ℕ) → IsParentEdge g t v e → (e < edge_count g) × (is_tree_edge s e ≡ true) × (v ≡ get_or s.lower e 0)
  from-parent_edge v e p = (p.is_edge, mark-tree e p.is_edge p.no_frond, at)
    where
      c : ℕ
      c = get_or s.lower e 0

      vl : v < g.vertex_count
      vl = end-in g gg e v p.is_edge p.at_child

      at : v ≡ c
      at = elim (end-cases g e c v (lower-end g gg s o e p.is_edge) p.at_child) [
        | inl q ↦ q
        | inr q ↦
            let w = parent-some v (other_end g e v) vl p.to_parent in
            let back : other_end g e v ≡ c = ap (other_end g e) q ∙ other-other g e c (lower-end g gg s o e p.is_edge) in
            absurd (omega (arith, parent-depth g gg s o v vl w.0, ap (λ (x : ℕ). get_or s.depth x 0) (w.1 ∙ back), upper-depth g gg s o e p.is_edge, ap (λ (x : ℕ). get_or s.depth x 0) q))
      ]

  -- fronds
  pub to-frond : (e : ℕ) → e < edge_count g → is_tree_edge s e ≡ false → IsFrondFrom g t (get_or s.lower e 0) e
  to-frond e l h = record {
    is_edge = l;
    frond = other-mark e l h;
    at_lower = lower-end g gg s o e l;
    to_ancestor = below-descendant (upper_end g s e) (get_or s.lower e 0) (lower-in g gg s o e l) (upper-below g gg s o e l);
  }

  pub from-frond : (z e : ℕ) → IsFrondFrom g t z e → (e < edge_count g) × (is_tree_edge s e ≡ false) × (z ≡ get_or s.lower e 0)
  from-frond z e p = (p.is_edge, mark-frond e p.is_edge p.frond, at)
    where
      c : ℕ
      c = get_or s.lower e 0

      zl : z < g.vertex_count
      zl = end-in g gg e z p.is_edge p.at_lower

      at : z ≡ c
      at = elim (end-cases g e c z (lower-end g gg s o e p.is_edge) p.at_lower) [
        | inl q ↦ q
        | inr q ↦
            let back : other_end g e z ≡ c = ap (other_end g e) q ∙ other-other g e c (lower-end g gg s o e p.is_edge) in
            let b = descendant-below (other_end g e z) z zl p.to_ancestor in
            absurd (omega (arith, deeper g gg s o (other_end g e z) z zl b, ap (λ (x : ℕ). get_or s.depth x 0) back, upper-depth g gg s o e p.is_edge, ap (λ (x : ℕ). get_or s.depth x 0) q))
      ]

  -- where darts begin
  begin-tree : (e : ℕ) → is_tree_edge s e ≡ true → begin_of g s e ≡ upper_end g s e
  begin-tree e h = ap (λ (b : Bool). (if b then upper_end g s e else get_or s.lower e 0)) h

  begin-frond : (e : ℕ) → is_tree_edge s e ≡ false → begin_of g s e ≡ get_or s.lower e 0
  begin-frond e h = ap (λ (b : Bool). (if b then upper_end g s e else get_or s.lower e 0)) h

  pub begins-from : (v e : ℕ) → BeginsAt g t v e → (e < edge_count g) × (begin_of g s e ≡ v)
  begins-from v e b = elim b [
    | inl w ↦
        let p = from-parent_edge w.0 e w.1 in
        (p.0, begin-tree e p.1 ∙ (ap (other_end g e) (sym p.2) ∙ w.2))
    | inr p ↦
        let q = from-frond v e p in
        (q.0, begin-frond e q.1 ∙ sym q.2)
  ]

  pub begins-to : (v e : ℕ) → e < edge_count g → begin_of g s e ≡ v → BeginsAt g t v e
  begins-to v e l q = elim (cases_Bool (is_tree_edge s e)) [
    | inl h ↦ inl (get_or s.lower e 0, to-parent_edge e l h, sym (begin-tree e h) ∙ q)
    | inr h ↦ inr (subst (λ (x : ℕ). IsFrondFrom g t x e) (sym (begin-frond e h) ∙ q) (to-frond e l h))
  ]

  -- what is reached
  pub reached-from : (v x : ℕ) → IsReached g t v x → (y : ℕ) × LeadsFrom g s v y × (get_or t.number y 0 ≡ x)
  reached-from v x r =
      let p = from-frond r.lower r.edge r.frond in
      let zl : r.lower < g.vertex_count = end-in g gg r.edge r.lower p.0 r.frond.at_lower in (
        other_end g r.edge r.lower,
        record {
          edge = r.edge;
          edge_in = p.0;
          frond = p.1;
          below = subst (Below s v) p.2 (descendant-below v r.lower zl r.below);
          upper = ap (other_end g r.edge) (sym p.2);
        },
        r.reached,
      )

  pub reached-to : (v y : ℕ) → LeadsFrom g s v y → IsReached g t v (get_or t.number y 0)
  reached-to v y w = record {
    lower = get_or s.lower w.edge 0;
    edge = w.edge;
    below = below-descendant v (get_or s.lower w.edge 0) (lower-in g gg s o w.edge w.edge_in) w.below;
    frond = to-frond w.edge w.edge_in w.frond;
    reached = ap (λ (x : ℕ). get_or t.number x 0) w.upper;
  }

  -- the darts
  module _ (k : AreEdges g edges) where
    pub dart-from : (v e : ℕ) → v < g.vertex_count → is_member e (darts_of t v) ≡ true → (e < edge_count g) × (begin_of g s e ≡ v)
    dart-from v e l h =
        let p = member-filter_parts (λ e. begin_of g s e == v) edges e (subst (λ (x : List ℕ). is_member e x ≡ true) (f.darts.edges_at v l) h) in
        (k.within e p.0, eqb-true (begin_of g s e) v p.1)

    pub dart-to : (v e : ℕ) → v < g.vertex_count → e < edge_count g → begin_of g s e ≡ v → is_member e (darts_of t v) ≡ true
    dart-to v e l m q = subst (λ (x : List ℕ). is_member e x ≡ true) (sym (f.darts.edges_at v l)) (filter-member (λ e. begin_of g s e == v) edges e (k.each e m) (eq-eqb (begin_of g s e) v q))

    pub are-darts : AreDarts g t
    are-darts = record {
      places = f.darts.places;
      begin = λ v e l. (λ h. let p = dart-from v e l h in begins-to v e p.0 p.1, λ b. let p = begins-from v e b in dart-to v e l p.0 p.1);
      once = λ v l. subst (λ (x : List ℕ). is_distinct x ≡ true) (sym (f.darts.edges_at v l)) (distinct-filter (λ e. begin_of g s e == v) edges k.distinct);
      each = λ e l. (begin_of g s e, begin-in g gg s o e l, dart-to (begin_of g s e) e (begin-in g gg s o e l) l refl);
      only_one = λ u v e ul vl h i. sym (dart-from u e ul h).1 ∙ (dart-from v e vl i).1;
    }
