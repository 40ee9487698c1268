-- From a finished search, spread labels and numbers to the blocks and the components.
use Rattle.std.proofs.Common.{◌≡◌, ℕ, zero, suc, ◌+◌, ◌<◌, ◌≤◌, inl, inr, Bool, true, false, List, length, map, get_or, refl, sym, ap, ◌∙◌, subst, arith}
use Rattle.std.proofs.lemmas.Bool.{cases_Bool, eq-eqb, eqb-true}
use Rattle.std.proofs.lemmas.List.{get_or_default, get_or-map, length-map}
use Rattle.permutations.specs.Relation.{connected, leads, class_count}
use Rattle.permutations.specs.Members.{is_member}
use Rattle.permutations.specs.Permutation.{iterate}
use Rattle.permutations.proofs.Count.{count-ext}
use Rattle.permutations.proofs.Leaders.{leads-ext}
use Rattle.permutations.proofs.Relation.{same-tests, connected-reflexive, connected-symmetric, connected-transitive, connected-value}
use Rattle.permutations.proofs.Classes.{class_count-ext}
use Rattle.permutations.proofs.Arrangements.{member-at}
use Rattle.multigraph.specs.Graph.{Multigraph, edge_count, ends_of, is_end, other_end, IsGraph}
use Rattle.multigraph.proofs.OtherEnd.{is_end-first}
use Rattle.graph_theory.specs.SearchTree.{IsSearchForest, AreLowPoints, AreLabels}
use Rattle.graph_theory.proofs.Ends.{other-other, end-cases, end-in}
use Rattle.graph_theory.proofs.Connection.{other-first, other-connected}
use Rattle.graph_theory.proofs.SameLabel.{same_label-block}
use Rattle.graph_theory.proofs.BlockLabel.{block-same_label}
use Rattle.search_forest.specs.Forest.{ForestState, IsForest}
use Rattle.search_forest.specs.Searching.{IsOver}
use Rattle.search_forest.specs.Low.{LowVertices, AreLowVertices}
use Rattle.multigraph.specs.Marks.{is_marked}
use Rattle.blocks.specs.Spread.{IsSpreadOrder, IsSpread}
use Rattle.blocks.specs.Numbering.{IsNumbering, same_label}
use Rattle.blocks.specs.Blocks.{AreComponents}
use Rattle.blocks.specs.Finding.{low_depth, AreHeads, AreRoots, AreBlockNumbers}
use Rattle.search_forest.proofs.Writes.{marked-in}
use Rattle.search_forest.proofs.Over.{over-seen, over-forest}
use Rattle.search_forest.proofs.Grown.{lower-in}
use Rattle.blocks.proofs.LowPoints.{over-low}

-- a vertex in the order was visited
order-visited : (s : ForestState) → ((v : ℕ) → is_member v s.order ≡ is_marked s.visited v) → (k : ℕ) → k < length s.order → is_marked s.visited (get_or s.order k 0) ≡ true
order-visited s m k l = sym (m (get_or s.order k 0)) ∙ member-at s.order k 0 l

-- the order of the search spreads labels, where a vertex without a mark is no root
pub over-order : (g : Multigraph) (s : ForestState) (own : List Bool) → IsOver g s → length own ≡ g.vertex_count → ((v : ℕ) → v < g.vertex_count → is_marked own v ≡ false → 0 < get_or s.depth v 0) → IsSpreadOrder (length s.parent) s.parent own s.order
over-order g s own o e deep = record {
  parents = refl;
  owns = e ∙ sym k.places.parent;
  within = λ j l. omega (arith, vertex j l, k.places.parent);
  distinct = k.ordered.distinct;
  behind_parent = λ j l h. k.ordered.behind_parent j l (deep (get_or s.order j 0) (vertex j l) h);
}
  where
    k : IsForest g s
    k = o.forest

    vertex : (j : ℕ) → j < length s.order → get_or s.order j 0 < g.vertex_count
    vertex j l = omega (arith, marked-in s.visited (get_or s.order j 0) (order-visited s k.ordered.members j l), k.places.visited)

-- every vertex is in the order
over-member : (g : Multigraph) (s : ForestState) → IsOver g s → (v : ℕ) → v < g.vertex_count → is_member v s.order ≡ true
over-member g s o v l = o.forest.ordered.members v ∙ o.visited v l

-- the labels that are spread from the heads are those of the low points
pub over-labels : (g : Multigraph) (s : ForestState) (lows : LowVertices) (heads : List Bool) (label : List ℕ) → IsOver g s → AreHeads s lows g.vertex_count heads → IsSpread s.parent heads s.order label → AreLabels g (λ v. get_or s.parent v 0) (λ v. get_or s.depth v 0) (low_depth s lows) (λ v. get_or label v 0)
over-labels g s lows heads label o h p = record {
  own = λ v l d c. elim (cases_Bool (is_marked heads v)) [
    | inl t ↦ p.of_own v (over-member g s o v l) t
    | inr f ↦ absurd (omega (arith, (h.other v l f).1))
  ];
  same = λ v l d c. elim (cases_Bool (is_marked heads v)) [
    | inl t ↦ elim (h.head v l t) [ inl z ↦ absurd (omega arith) | inr z ↦ absurd (omega arith) ]
    | inr f ↦ p.of_parent v (over-member g s o v l) f
  ];
}

-- the numbers of the blocks
pub over-blocks : (g : Multigraph) → IsGraph g → (s : ForestState) (lows : LowVertices) → AreLowVertices g s lows → (heads : List Bool) (label labels numbers : List ℕ) (total : ℕ) → IsOver g s → AreHeads s lows g.vertex_count heads → IsSpread s.parent heads s.order label → labels ≡ map (λ v. get_or label v 0) s.lower → IsNumbering labels numbers → total ≡ class_count (length labels) (same_label labels) → AreBlockNumbers g numbers total
over-blocks g gg s lows ws heads label labels numbers total o h p e n c = record {
  labels = labels;
  labelled = ap length e ∙ (length-map s.lower (λ v. get_or label v 0) ∙ o.forest.places.lower);
  numbering = n;
  counted = c;
  same = λ x y l m. (λ q. same_label-block g gg parent depth parent_edge lower low name t w a x y l m (sym (at x l) ∙ (q ∙ at y m)), λ q. at x l ∙ (block-same_label g gg parent depth parent_edge lower low name t w a x y l m q ∙ sym (at y m)));
}
  where
    parent : ℕ → ℕ
    parent v = get_or s.parent v 0

    depth : ℕ → ℕ
    depth v = get_or s.depth v 0

    parent_edge : ℕ → ℕ
    parent_edge v = get_or s.parent_edge v 0

    lower : ℕ → ℕ
    lower e = get_or s.lower e 0

    low : ℕ → ℕ
    low v = low_depth s lows v

    name : ℕ → ℕ
    name v = get_or label v 0

    t : IsSearchForest g (λ v. get_or s.parent v 0) (λ v. get_or s.depth v 0) (λ v. get_or s.parent_edge v 0) (λ e. get_or s.lower e 0)
    t = over-forest g gg s o

    w : AreLowPoints g (λ v. get_or s.parent v 0) (λ v. get_or s.depth v 0) (λ v. get_or s.parent_edge v 0) (λ e. get_or s.lower e 0) (low_depth s lows)
    w = over-low g gg s o lows ws

    a : AreLabels g (λ v. get_or s.parent v 0) (λ v. get_or s.depth v 0) (low_depth s lows) (λ v. get_or label v 0)
    a = over-labels g s lows heads label o h p

    at : (x : ℕ) → x < edge_count g → get_or labels x 0 ≡ get_or label (get_or s.lower x 0) 0
    at x l = ap (λ (z : List ℕ). get_or z x 0) e ∙ get_or-map (λ v. get_or label v 0) s.lower x 0 0 (omega (arith, l, o.forest.places.lower))

-- every label that is spread is a vertex
pub spread-within : (g : Multigraph) → IsGraph g → (s : ForestState) (own : List Bool) (label : List ℕ) → IsOver g s → ((v : ℕ) → v < g.vertex_count → is_marked own v ≡ false → 0 < get_or s.depth v 0) → IsSpread s.parent own s.order label → (fuel v : ℕ) → get_or s.depth v 0 < fuel → v < g.vertex_count → get_or label v 0 < g.vertex_count
spread-within g gg s own label o deep p zero v f l = absurd (omega arith)
spread-within g gg s own label o deep p (suc fuel) v f l = elim (cases_Bool (is_marked own v)) [
  | inl t ↦ subst (λ (z : ℕ). z < g.vertex_count) (sym (p.of_own v (over-member g s o v l) t)) l
  | inr h ↦
      let d = deep v l h in
      let w = o.visited v l in
      subst (λ (z : ℕ). z < g.vertex_count) (sym (p.of_parent v (over-member g s o v l) h))
      (spread-within g gg s own label o deep p fuel (get_or s.parent v 0) (omega (arith, o.forest.grown.parent_depth v w d)) (o.forest.grown.parent_in v w d))
]

module _ (g : Multigraph) (gg : IsGraph g) (s : ForestState) (roots : List Bool) (label : List ℕ) (o : IsOver g s) (h : AreRoots s g.vertex_count roots) (p : IsSpread s.parent roots s.order label) where
  -- a vertex that is no root has the label of its parent
  label-parent : (v : ℕ) → v < g.vertex_count → 0 < get_or s.depth v 0 → get_or label v 0 ≡ get_or label (get_or s.parent v 0) 0
  label-parent v l d = elim (cases_Bool (is_marked roots v)) [
    | inl t ↦ absurd (omega (arith, h.root v l t))
    | inr f ↦ p.of_parent v (over-member g s o v l) f
  ]

  -- every vertex is connected to its label
  label-connected : (fuel v : ℕ) → get_or s.depth v 0 < fuel → v < g.vertex_count → connected g.ends v (get_or label v 0) ≡ true
  label-connected zero v f l = absurd (omega arith)
  label-connected (suc fuel) v f l = elim (cases_Bool (is_marked roots v)) [
    | inl t ↦ subst (λ (z : ℕ). connected g.ends v z ≡ true) (sym (p.of_own v (over-member g s o v l) t)) (connected-reflexive g.ends v)
    | inr q ↦
        let d = h.other v l q in
        let w = o.visited v l in
        let k = o.forest.grown in
        let step : connected g.ends v (get_or s.parent v 0) ≡ true = subst (λ (z : ℕ). connected g.ends v z ≡ true) (k.edge_leads v w d) (other-connected g (get_or s.parent_edge v 0) v (k.edge_in v w d) (k.edge_end v w d)) in
        subst (λ (z : ℕ). connected g.ends v z ≡ true) (sym (p.of_parent v (over-member g s o v l) q))
        (connected-transitive g.ends v (get_or s.parent v 0) (get_or label (get_or s.parent v 0) 0) step
        (label-connected fuel (get_or s.parent v 0) (omega (arith, k.parent_depth v w d)) (k.parent_in v w d)))
  ]

  -- the ancestors of a vertex have its label
  label-up : (i v : ℕ) → v < g.vertex_count → i ≤ get_or s.depth v 0 → (iterate (λ z. get_or s.parent z 0) i v < g.vertex_count) × (get_or s.depth (iterate (λ z. get_or s.parent z 0) i v) 0 + i ≡ get_or s.depth v 0) × (get_or label (iterate (λ z. get_or s.parent z 0) i v) 0 ≡ get_or label v 0)
  label-up zero v l m = (l, omega arith, refl)
  label-up (suc i) v l m =
      let r = label-up i v l (omega arith) in
      let u = iterate (λ z. get_or s.parent z 0) i v in
      let d : 0 < get_or s.depth u 0 = omega (arith, r.1) in
      let w = o.visited u r.0 in
      (o.forest.grown.parent_in u w d, omega (arith, r.1, o.forest.grown.parent_depth u w d), sym (label-parent u r.0 d) ∙ r.2)

  -- the two ends of an edge have one label
  label-ends : (e : ℕ) → e < edge_count g → get_or label (ends_of g e).0 0 ≡ get_or label (ends_of g e).1 0
  label-ends e l = elim (end-cases g e z (ends_of g e).0 lower-end (is_end-first g e)) [
    | inl a ↦ ap name a ∙ (sym upper ∙ (ap name (ap (other_end g e) (sym a)) ∙ ap name (other-first g e)))
    | inr b ↦ ap name b ∙ (upper ∙ ap name (sym (other-other g e z lower-end) ∙ (ap (other_end g e) (sym b) ∙ other-first g e)))
  ]
    where
      name : ℕ → ℕ
      name v = get_or label v 0

      seen : is_marked s.seen e ≡ true
      seen = over-seen g gg s o e l

      z : ℕ
      z = get_or s.lower e 0

      lower-end : is_end g z e ≡ true
      lower-end = o.forest.edges.lower_end e seen

      upper : get_or label (other_end g e z) 0 ≡ get_or label z 0
      upper =
          let u = o.forest.edges.upper_above e seen in
          subst (λ (k : ℕ). get_or label k 0 ≡ get_or label z 0) u.2 (label-up (u.0 + 1) z (end-in g gg e z l lower-end) (omega (arith, u.1))).2

  -- two vertices have one label exactly where edges connect them
  label-test : (u v : ℕ) → u < g.vertex_count → v < g.vertex_count → same_label label u v ≡ connected g.ends u v
  label-test u v l m = same-tests (same_label label u v) (connected g.ends u v)
      (λ q. connected-transitive g.ends u (get_or label u 0) v (to u l) (connected-symmetric g.ends v (get_or label u 0) (subst (λ (k : ℕ). connected g.ends v k ≡ true) (sym (eqb-true (get_or label u 0) (get_or label v 0) q)) (to v m))))
      (λ c. eq-eqb (get_or label u 0) (get_or label v 0) (connected-value g.ends (λ k. get_or label k 0) (λ e d k. subst (λ (r : ℕ × ℕ). get_or label r.0 0 ≡ get_or label r.1 0) (get_or_default g.ends e (0, 0) d k) (label-ends e k)) u v c))
    where
      to : (v : ℕ) → v < g.vertex_count → connected g.ends v (get_or label v 0) ≡ true
      to v k = label-connected (suc (get_or s.depth v 0)) v (omega arith) k

  -- the same vertices lead
  leads-test : (v : ℕ) → v < g.vertex_count → leads (same_label label) v ≡ leads (connected g.ends) v
  leads-test v l = leads-ext (same_label label) (connected g.ends) v (λ u m. label-test u v (omega arith) l)

  -- the numbers of the components
  pub over-components : (numbers : List ℕ) (total : ℕ) → length label ≡ g.vertex_count → IsNumbering label numbers → total ≡ class_count (length label) (same_label label) → AreComponents g numbers total
  over-components numbers total e n c = record {
    places = n.places ∙ e;
    least = λ v l q. n.first v (omega (arith, l, e)) (leads-test v l ∙ q) ∙ count-ext v (leads (same_label label)) (leads (connected g.ends)) (λ u m. leads-test u (omega arith));
    same = λ u v l m. (
      λ q. sym (label-test u v l m) ∙ eq-eqb (get_or label u 0) (get_or label v 0) (n.different u v (omega (arith, l, e)) (omega (arith, m, e)) q),
      λ q. n.same u v (omega (arith, l, e)) (omega (arith, m, e)) (eqb-true (get_or label u 0) (get_or label v 0) (label-test u v l m ∙ q)),
    );
    counted = c ∙ (ap (λ (k : ℕ). class_count k (same_label label)) e ∙ class_count-ext g.vertex_count (same_label label) (connected g.ends) (λ u v l m. label-test u v l m));
  }

-- the labels of the edges are vertices
pub edge_labels-within : (g : Multigraph) → IsGraph g → (s : ForestState) (own : List Bool) (label labels : List ℕ) → IsOver g s → ((v : ℕ) → v < g.vertex_count → is_marked own v ≡ false → 0 < get_or s.depth v 0) → IsSpread s.parent own s.order label → labels ≡ map (λ v. get_or label v 0) s.lower → (i : ℕ) → i < length labels → get_or labels i 0 < g.vertex_count
edge_labels-within g gg s own label labels o deep p e i l =
    let m : i < length s.lower = omega (arith, ap length e, length-map s.lower (λ v. get_or label v 0)) in
    let at : get_or labels i 0 ≡ get_or label (get_or s.lower i 0) 0 = ap (λ (z : List ℕ). get_or z i 0) e ∙ get_or-map (λ v. get_or label v 0) s.lower i 0 0 m in
    subst (λ (z : ℕ). z < g.vertex_count) (sym at)
    (spread-within g gg s own label o deep p (suc (get_or s.depth (get_or s.lower i 0) 0)) (get_or s.lower i 0) (omega arith) (lower-in g gg s o i (omega (arith, m, o.forest.places.lower))))
