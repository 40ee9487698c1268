-- The darts stand in order, and in a block later children have smaller numbers.
use Rattle.std.proofs.Common.{◌≡◌, ◌≢◌, ℕ, ◌+◌, ◌*◌, ◌<◌, ◌≤◌, ◌⊎◌, inl, inr, Bool, true, false, if◌then◌else◌, ◌&&◌, ◌==◌, ltb, List, length, reverse, get_or, refl, sym, ap, ◌∙◌, subst, arith}
use Rattle.std.specs.Bool.{beq}
use Rattle.std.proofs.lemmas.Bool.{cases_Bool, cases_lt, eq-eqb, eqb-true, both_ways, false_from_ne_true}
use Rattle.permutations.specs.Members.{is_member, is_distinct}
use Rattle.permutations.proofs.Filter.{distinct-filter}
use Rattle.permutations.proofs.Arrangements.{member-at}
use Rattle.permutations.proofs.Places.{places-differ}
use Rattle.multigraph.specs.Graph.{Multigraph, edge_count, other_end, IsGraph}
use Rattle.graph_theory.specs.Block.{IsOneBlock}
use Rattle.graph_theory.specs.Side.{IsCommon}
use Rattle.graph_theory.proofs.BlockLabel.{is_below, is_below-from, below-from}
use Rattle.graph_theory.proofs.Chains.{below-cases}
use Rattle.graph_theory.proofs.Crossings.{block-one_side}
use Rattle.graph_theory.proofs.Ends.{other-other, end-cases, end-in}
use Rattle.palm_tree.specs.PalmTree.{PalmTreeLists, is_frond, darts_of, number_reached, dart_class, AreInOrder, LaterIsLess}
use Rattle.search_forest.specs.Forest.{ForestState}
use Rattle.search_forest.specs.Searching.{IsOver}
use Rattle.palm_tree.specs.Growing.{LowVertices, is_tree_edge, upper_end, begin_of, sort_key, hangs, tree_edges, lower_ends, numbering_order, IsBefore, IsSortedByKeys, AreEdges, AreLowVertices, AreSizes, AreChildren, AreOffsets, AreNumbersSoFar, AreFound}
use Rattle.search_forest.proofs.Grown.{forest, lower-end, lower-in, lower-deep, upper-in, upper-below, tree-upper, tree-is, parent-in, parent-depth}
use Rattle.search_forest.proofs.Lows.{first-in, second-in}
use Rattle.palm_tree.proofs.Orders.{before-places, before-at, before-filter, filter-before, before-reverse, before-map, before-left, before-right}
use Rattle.palm_tree.proofs.Intervals.{Below, trans, same, up, comparable, deeper, in-order, strictly, child-number, children-rise}
use Rattle.palm_tree.proofs.Palm.{dart-from, mark-tree, tree-mark, other-mark}
use Rattle.palm_tree.proofs.LowPoints.{first-above, second-above, taken-all}

-- two tests that hold, and two that fail
both-less : (a b c d : ℕ) → a < b → c < d → ltb a b ≡ ltb c d
both-less a b c d h l = yes a b h ∙ sym (yes c d l)
  where
    yes : (x y : ℕ) → x < y → ltb x y ≡ true
    yes x y h = grind (arith, h)

neither-less : (a b c d : ℕ) → b ≤ a → d ≤ c → ltb a b ≡ ltb c d
neither-less a b c d h l = no-less a b h ∙ sym (no-less c d l)
  where
    no-less : (x y : ℕ) → y ≤ x → ltb x y ≡ false
    no-less x y h = grind (arith, h)

module _ (g : Multigraph) (gg : IsGraph g) (s : ForestState) (o : IsOver g s) (low : LowVertices) (w : AreLowVertices g s low) (edges : List ℕ) (q : IsSortedByKeys (edge_count g) (sort_key g s low) edges) (size offset number : List ℕ) (z : AreSizes g s size) (k : AreChildren g s (numbering_order s low edges)) (a : AreOffsets g s size (numbering_order s low edges) offset) (n : AreNumbersSoFar g s size offset s.order number) (t : PalmTreeLists) (f : AreFound g s low edges number t) where
  numbered : (y : ℕ) → get_or t.number y 0 ≡ get_or number y 0
  numbered y = ap (λ (l : List ℕ). get_or l y 0) f.number

  -- what a dart of v is
  record Dart (v e : ℕ) : Type 0 where
    edge_in : e < edge_count g
    reach : ℕ
    class : ℕ
    reach_in : reach < g.vertex_count
    keyed : sort_key g s low e ≡ 3 * get_or s.depth reach 0 + class
    small : class ≤ 2
    number_is : number_reached g t v e ≡ get_or number reach 0
    class_is : dart_class g t v e ≡ class
    kind : Below s reach v ⊎ ((0 < get_or s.depth reach 0) × (get_or s.parent reach 0 ≡ v) × (get_or s.lower e 0 ≡ reach) × (is_tree_edge s e ≡ true) × (hangs low reach ≡ true))

  -- the test on the second low vertex says the same of numbers and of depths
  second-test : (c v : ℕ) → c < g.vertex_count → 0 < get_or s.depth c 0 → get_or s.parent c 0 ≡ v → ltb (get_or number (get_or low.second c 0) 0) (get_or number v 0) ≡ ltb (get_or s.depth (get_or low.second c 0) 0) (get_or s.depth v 0)
  second-test c v l d e = by (cases_lt (get_or s.depth u 0) (get_or s.depth v 0))
    where
      u : ℕ
      u = get_or low.second c 0

      ul : u < g.vertex_count
      ul = second-in g gg s o low (edge_count g) s.order w c l

      vl : v < g.vertex_count
      vl = subst (λ (x : ℕ). x < g.vertex_count) e (parent-in g gg s o c l d)

      vc : Below s v c
      vc = subst (λ (x : ℕ). Below s x c) e (up g gg s o c d)

      uc : Below s u c
      uc = second-above g gg s o low w c l

      by : (get_or s.depth u 0 < get_or s.depth v 0) ⊎ (get_or s.depth v 0 ≤ get_or s.depth u 0) → ltb (get_or number u 0) (get_or number v 0) ≡ ltb (get_or s.depth u 0) (get_or s.depth v 0)
      by (inl h) = let x = strictly g gg s o size offset (numbering_order s low edges) number z k a n u v c vl l uc vc h in both-less (get_or number u 0) (get_or number v 0) (get_or s.depth u 0) (get_or s.depth v 0) x h
      by (inr h) = let x = in-order g gg s o size offset (numbering_order s low edges) number z k a n v u c ul l vc uc h in neither-less (get_or number u 0) (get_or number v 0) (get_or s.depth u 0) (get_or s.depth v 0) x h

  -- a frond
  dart-frond : (v e : ℕ) → e < edge_count g → is_tree_edge s e ≡ false → get_or s.lower e 0 ≡ v → Dart v e
  dart-frond v e l h b = record {
    edge_in = l;
    reach = upper_end g s e;
    class = 1;
    reach_in = upper-in g gg s o e l;
    keyed = ap (λ (x : Bool). 3 * get_or s.depth (if x then get_or low.first (get_or s.lower e 0) 0 else upper_end g s e) 0 + (if x then (if ltb (get_or s.depth (get_or low.second (get_or s.lower e 0) 0) 0) (get_or s.depth (upper_end g s e) 0) then 0 else 2) else 1)) h;
    small = omega arith;
    number_is = ap (λ (x : Bool). (if x then get_or t.number (other_end g e v) 0 else get_or t.low1 (other_end g e v) 0)) m ∙ (ap (λ (x : ℕ). get_or t.number (other_end g e x) 0) (sym b) ∙ numbered (upper_end g s e));
    class_is = ap (λ (x : Bool). (if x then 1 else (if ltb (get_or t.low2 (other_end g e v) 0) (get_or t.number v 0) then 0 else 2))) m;
    kind = inl (subst (Below s (upper_end g s e)) b (upper-below g gg s o e l));
  }
    where
      m : is_frond t e ≡ true
      m = other-mark g gg s o low edges number t f e l h

  -- a parent edge
  dart-tree : (v e : ℕ) → e < edge_count g → is_tree_edge s e ≡ true → upper_end g s e ≡ v → Dart v e
  dart-tree v e l h b = record {
    edge_in = l;
    reach = get_or low.first c 0;
    class = (if ltb (get_or s.depth (get_or low.second c 0) 0) (get_or s.depth (upper_end g s e) 0) then 0 else 2);
    reach_in = first-in g gg s o low (edge_count g) s.order w c cl;
    keyed = ap (λ (x : Bool). 3 * get_or s.depth (if x then get_or low.first c 0 else upper_end g s e) 0 + (if x then (if ltb (get_or s.depth (get_or low.second c 0) 0) (get_or s.depth (upper_end g s e) 0) then 0 else 2) else 1)) h;
    small = few (ltb (get_or s.depth (get_or low.second c 0) 0) (get_or s.depth (upper_end g s e) 0));
    number_is = ap (λ (x : Bool). (if x then get_or t.number (other_end g e v) 0 else get_or t.low1 (other_end g e v) 0)) m ∙ (ap (λ (x : ℕ). get_or t.low1 x 0) back ∙ f.low1.at c cl);
    class_is = ap (λ (x : Bool). (if x then 1 else (if ltb (get_or t.low2 (other_end g e v) 0) (get_or t.number v 0) then 0 else 2))) m ∙ (ap (λ (x : ℕ). (if ltb (get_or t.low2 x 0) (get_or t.number v 0) then 0 else 2)) back ∙ ap (λ (x : Bool). (if x then 0 else 2)) test);
    kind = elim (below-cases g (λ k. get_or s.parent k 0) (λ k. get_or s.depth k 0) (λ k. get_or s.parent_edge k 0) (λ q. get_or s.lower q 0) (forest g gg s o) (get_or low.first c 0) c (first-above g gg s o low w c cl) cl) [
      | inl y ↦
          inr (
            omega (arith, cd, ap (λ (x : ℕ). get_or s.depth x 0) y),
            ap (λ (x : ℕ). get_or s.parent x 0) (sym y) ∙ pc,
            y,
            h,
            eq-eqb (get_or low.first (get_or low.first c 0) 0) (get_or low.first c 0) (ap (λ (x : ℕ). get_or low.first x 0) (sym y)),
          )
      | inr y ↦ inl (subst (Below s (get_or low.first c 0)) pc y.1)
    ];
  }
    where
      c : ℕ
      c = get_or s.lower e 0

      cl : c < g.vertex_count
      cl = lower-in g gg s o e l

      cd : 0 < get_or s.depth c 0
      cd = lower-deep g gg s o e l

      pc : get_or s.parent c 0 ≡ v
      pc = sym (tree-upper g gg s o e l h) ∙ b

      m : is_frond t e ≡ false
      m = tree-mark g gg s o low edges number t f e l h

      back : other_end g e v ≡ c
      back = ap (other_end g e) (sym b) ∙ other-other g e c (lower-end g gg s o e l)

      few : (x : Bool) → (if x then 0 else 2) ≤ 2
      few true = omega arith
      few false = omega arith

      test : ltb (get_or t.low2 c 0) (get_or t.number v 0) ≡ ltb (get_or s.depth (get_or low.second c 0) 0) (get_or s.depth (upper_end g s e) 0)
      test = (λ i. ltb (f.low2.at c cl i) (numbered v i)) ∙ (second-test c v cl cd pc ∙ ap (λ (x : ℕ). ltb (get_or s.depth (get_or low.second c 0) 0) (get_or s.depth x 0)) (sym b))

  begin-cases : (v e : ℕ) → e < edge_count g → begin_of g s e ≡ v → Dart v e
  begin-cases v e l b = elim (cases_Bool (is_tree_edge s e)) [
    | inl h ↦ dart-tree v e l h (sym (ap (λ (x : Bool). (if x then upper_end g s e else get_or s.lower e 0)) h) ∙ b)
    | inr h ↦ dart-frond v e l h (sym (ap (λ (x : Bool). (if x then upper_end g s e else get_or s.lower e 0)) h) ∙ b)
  ]

  are-edges : AreEdges g edges
  are-edges = record { distinct = q.distinct; within = q.within; each = q.each }

  -- an earlier dart has no greater key
  key-rises : (e h : ℕ) → IsBefore edges e h → sort_key g s low e ≤ sort_key g s low h
  key-rises e h b =
      let p = before-at edges e h b in
      subst (λ (x : ℕ). sort_key g s low x ≤ sort_key g s low h) p.4 (subst (λ (x : ℕ). sort_key g s low (get_or edges p.0 0) ≤ sort_key g s low x) p.5 (q.rising p.0 p.1 p.2 p.3))

  -- the children of hanging parent edges are numbered in the order of these
  hanging-before : (e h : ℕ) → IsBefore edges e h → is_tree_edge s e ≡ true → is_tree_edge s h ≡ true → hangs low (get_or s.lower e 0) ≡ true → hangs low (get_or s.lower h 0) ≡ true → IsBefore (numbering_order s low edges) (get_or s.lower e 0) (get_or s.lower h 0)
  hanging-before e h b te th he hh =
      before-right (lower_ends s (tree_edges s low false (reverse edges))) (lower_ends s (tree_edges s low true edges)) (get_or s.lower e 0) (get_or s.lower h 0)
      (before-map (λ x. get_or s.lower x 0) (tree_edges s low true edges) e h (before-filter (λ x. is_tree_edge s x && beq (hangs low (get_or s.lower x 0)) true) edges e h b (rw (te, he) refl) (rw (th, hh) refl)))

  -- and the others in the opposite order
  other-before : (e h : ℕ) → IsBefore edges e h → is_tree_edge s e ≡ true → is_tree_edge s h ≡ true → hangs low (get_or s.lower e 0) ≡ false → hangs low (get_or s.lower h 0) ≡ false → IsBefore (numbering_order s low edges) (get_or s.lower h 0) (get_or s.lower e 0)
  other-before e h b te th he hh =
      before-left (lower_ends s (tree_edges s low false (reverse edges))) (lower_ends s (tree_edges s low true edges)) (get_or s.lower h 0) (get_or s.lower e 0)
      (before-map (λ x. get_or s.lower x 0) (tree_edges s low false (reverse edges)) h e (before-filter (λ x. is_tree_edge s x && beq (hangs low (get_or s.lower x 0)) false) (reverse edges) h e (before-reverse edges e h b) (rw (th, hh) refl) (rw (te, he) refl)))

  -- two darts of v, the first earlier
  pair-order : (v e h : ℕ) → v < g.vertex_count → IsBefore edges e h → Dart v e → Dart v h → (number_reached g t v e < number_reached g t v h) ⊎ ((number_reached g t v e ≡ number_reached g t v h) × (dart_class g t v e ≤ dart_class g t v h))
  pair-order v e h vl b x y = elim x.kind [
    | inl bx ↦ elim y.kind [
      | inl by ↦ elim (cases_lt (get_or s.depth x.reach 0) (get_or s.depth y.reach 0)) [
        | inl d ↦ inl (omega (arith, x.number_is, y.number_is, strictly g gg s o size offset (numbering_order s low edges) number z k a n x.reach y.reach v y.reach_in vl bx by d))
        | inr d ↦
            let r = key-rises e h b in
            let eq : get_or s.depth x.reach 0 ≡ get_or s.depth y.reach 0 = omega (arith, r, x.keyed, y.keyed, x.small, y.small, d) in
            inr (
              omega (arith, x.number_is, y.number_is, in-order g gg s o size offset (numbering_order s low edges) number z k a n x.reach y.reach v y.reach_in vl bx by (omega (arith, eq)), in-order g gg s o size offset (numbering_order s low edges) number z k a n y.reach x.reach v x.reach_in vl by bx (omega (arith, eq))),
              omega (arith, r, x.keyed, y.keyed, x.class_is, y.class_is, eq),
            )
      ]
      | inr hy ↦
          let num = child-number g gg s o size offset (numbering_order s low edges) number z k a n y.reach y.reach_in hy.0 in
          inl (omega (arith, x.number_is, y.number_is, num, ap (λ (i : ℕ). get_or number i 0) hy.1, in-order g gg s o size offset (numbering_order s low edges) number z k a n x.reach v v vl vl bx (same g gg s o v) (omega (arith, deeper g gg s o x.reach v vl bx))))
    ]
    | inr hx ↦ elim y.kind [
      | inl by ↦ absurd (omega (arith, key-rises e h b, x.keyed, y.keyed, x.small, y.small, parent-depth g gg s o x.reach x.reach_in hx.0, ap (λ (i : ℕ). get_or s.depth i 0) hx.1, deeper g gg s o y.reach v vl by))
      | inr hy ↦
          let before = subst (λ (i : ℕ). IsBefore (numbering_order s low edges) i y.reach) hx.2 (subst (λ (i : ℕ). IsBefore (numbering_order s low edges) (get_or s.lower e 0) i) hy.2
          (hanging-before e h b hx.3 hy.3 (ap (hangs low) hx.2 ∙ hx.4) (ap (hangs low) hy.2 ∙ hy.4))) in
          inl (omega (arith, x.number_is, y.number_is, children-rise g gg s o size offset (numbering_order s low edges) number z k a n x.reach y.reach x.reach_in y.reach_in hx.0 hy.0 (hx.1 ∙ sym hy.1) before))
    ]
  ]

  -- a dart of v among its darts, and which stands earlier among all edges
  dart-of : (v e : ℕ) → v < g.vertex_count → is_member e (darts_of t v) ≡ true → Dart v e
  dart-of v e vl h = let p = dart-from g gg s o low edges number t f are-edges v e vl h in begin-cases v e p.0 p.1

  earlier : (v i j : ℕ) → v < g.vertex_count → i < j → j < length (darts_of t v) → IsBefore edges (get_or (darts_of t v) i 0) (get_or (darts_of t v) j 0)
  earlier v i j vl h l = filter-before (λ e. begin_of g s e == v) edges (get_or (darts_of t v) i 0) (get_or (darts_of t v) j 0)
      (subst (λ (x : List ℕ). IsBefore x (get_or (darts_of t v) i 0) (get_or (darts_of t v) j 0)) (f.darts.edges_at v vl) (before-places (darts_of t v) i j h l))

  pub darts-in_order : (v : ℕ) → v < g.vertex_count → AreInOrder g t v
  darts-in_order v vl i j h l =
      pair-order v (get_or (darts_of t v) i 0) (get_or (darts_of t v) j 0) vl (earlier v i j vl h l)
      (dart-of v (get_or (darts_of t v) i 0) vl (member-at (darts_of t v) i 0 (omega arith))) (dart-of v (get_or (darts_of t v) j 0) vl (member-at (darts_of t v) j 0 l))

  -- below a hanging child the edges have only its parent in common with the others
  hanging-common : (c : ℕ) → c < g.vertex_count → 0 < get_or s.depth c 0 → hangs low c ≡ true → (x : ℕ) → IsCommon g (λ e. is_below (λ i. get_or s.parent i 0) (λ i. get_or s.depth i 0) c (get_or s.lower e 0)) x → x ≡ get_or s.parent c 0
  hanging-common c cl cd hc x m = elim (end-cases g m.inside zi x (lower-end g gg s o m.inside m.inside_edge) m.inside_end) [
    | inl e ↦ absurd (not-below (subst (Below s c) (sym e) bi))
    | inr e ↦ upper e
  ]
    where
      zi : ℕ
      zi = get_or s.lower m.inside 0

      zl : zi < g.vertex_count
      zl = lower-in g gg s o m.inside m.inside_edge

      bi : Below s c zi
      bi = below-from (λ i. get_or s.parent i 0) (λ i. get_or s.depth i 0) c zi m.inside_side

      xl : x < g.vertex_count
      xl = end-in g gg m.inside x m.inside_edge m.inside_end

      wl : get_or s.lower m.outside 0 < g.vertex_count
      wl = lower-in g gg s o m.outside m.outside_edge

      outside : Below s c (get_or s.lower m.outside 0) → ⊥
      outside b = both_ways (is_below (λ i. get_or s.parent i 0) (λ i. get_or s.depth i 0) c (get_or s.lower m.outside 0)) m.outside_side (is_below-from (λ i. get_or s.parent i 0) (λ i. get_or s.depth i 0) c (get_or s.lower m.outside 0) b)

      not-below : Below s c x → ⊥
      not-below b = elim (end-cases g m.outside (get_or s.lower m.outside 0) x (lower-end g gg s o m.outside m.outside_edge) m.outside_end) [
        | inl e ↦ outside (subst (Below s c) e b)
        | inr e ↦ outside (trans g gg s o c x (get_or s.lower m.outside 0) wl b (subst (λ (i : ℕ). Below s i (get_or s.lower m.outside 0)) (sym e) (upper-below g gg s o m.outside m.outside_edge)))
      ]

      upper : x ≡ upper_end g s m.inside → x ≡ get_or s.parent c 0
      upper e = elim (cases_lt (get_or s.depth x 0) (get_or s.depth c 0)) [
        | inr deep ↦ absurd (not-below (comparable g gg s o c x zi zl bi xz deep))
        | inl high ↦ elim (cases_Bool (is_tree_edge s m.inside)) [
          | inl h ↦ elim (below-cases g (λ i. get_or s.parent i 0) (λ i. get_or s.depth i 0) (λ i. get_or s.parent_edge i 0) (λ i. get_or s.lower i 0) (forest g gg s o) c zi bi zl) [
            | inl y ↦ e ∙ (tree-upper g gg s o m.inside m.inside_edge h ∙ ap (λ (i : ℕ). get_or s.parent i 0) y)
            | inr y ↦ absurd (not-below (subst (Below s c) (sym (e ∙ tree-upper g gg s o m.inside m.inside_edge h)) y.1))
          ]
          | inr h ↦
              let taken = taken-all g gg s o low w c x (record { edge = m.inside; edge_in = m.inside_edge; frond = h; below = bi; upper = sym e }) in
              absurd (omega (arith, high, taken.first, ap (λ (i : ℕ). get_or s.depth i 0) (eqb-true (get_or low.first c 0) c hc)))
        ]
      ]
        where
          xz : Below s x zi
          xz = subst (λ (i : ℕ). Below s i zi) (sym e) (upper-below g gg s o m.inside m.inside_edge)

  -- in a block a child with a sibling does not hang
  block-child : IsOneBlock g → (e h : ℕ) → e < edge_count g → h < edge_count g → is_tree_edge s e ≡ true → is_tree_edge s h ≡ true → upper_end g s e ≡ upper_end g s h → e ≢ h → hangs low (get_or s.lower e 0) ≡ false
  block-child block e h el hl te th u d = false_from_ne_true (hangs low c) (λ hc.
      let one = λ (x y : ℕ) (m : IsCommon g (λ i. is_below (λ j. get_or s.parent j 0) (λ j. get_or s.depth j 0) c (get_or s.lower i 0)) x) (r : IsCommon g (λ i. is_below (λ j. get_or s.parent j 0) (λ j. get_or s.depth j 0) c (get_or s.lower i 0)) y). hanging-common c cl cd hc x m ∙ sym (hanging-common c cl cd hc y r) in
      let same_side = block-one_side g (λ i. is_below (λ j. get_or s.parent j 0) (λ j. get_or s.depth j 0) c (get_or s.lower i 0)) one e h (block.same_block e h el hl) in
      apart (below-from (λ j. get_or s.parent j 0) (λ j. get_or s.depth j 0) c c2 (sym same_side ∙ is_below-from (λ j. get_or s.parent j 0) (λ j. get_or s.depth j 0) c c (same g gg s o c))))
    where
      c : ℕ
      c = get_or s.lower e 0

      c2 : ℕ
      c2 = get_or s.lower h 0

      cl : c < g.vertex_count
      cl = lower-in g gg s o e el

      cd : 0 < get_or s.depth c 0
      cd = lower-deep g gg s o e el

      c2l : c2 < g.vertex_count
      c2l = lower-in g gg s o h hl

      same_parent : get_or s.parent c2 0 ≡ get_or s.parent c 0
      same_parent = sym (tree-upper g gg s o h hl th) ∙ (sym u ∙ tree-upper g gg s o e el te)

      apart : Below s c c2 → ⊥
      apart b = elim (below-cases g (λ i. get_or s.parent i 0) (λ i. get_or s.depth i 0) (λ i. get_or s.parent_edge i 0) (λ i. get_or s.lower i 0) (forest g gg s o) c c2 b c2l) [
        | inl y ↦ d (sym (tree-is g gg s o e te) ∙ (ap (λ (i : ℕ). get_or s.parent_edge i 0) (sym y) ∙ tree-is g gg s o h th))
        | inr y ↦ absurd (omega (arith, deeper g gg s o c (get_or s.parent c2 0) (parent-in g gg s o c2 c2l y.0) y.1, ap (λ (i : ℕ). get_or s.depth i 0) same_parent, parent-depth g gg s o c cl cd))
      ]

  -- in a block later children have smaller numbers
  pub later-less : IsOneBlock g → (v : ℕ) → v < g.vertex_count → LaterIsLess g t v
  later-less block v vl i j h l fi fj =
      omega (
        arith,
        numbered (other_end g e v),
        numbered (other_end g f' v),
        ap (λ (x : ℕ). get_or number x 0) (child e pe.0 te ue),
        ap (λ (x : ℕ). get_or number x 0) (child f' pf.0 tf uf),
        children-rise g gg s o size offset (numbering_order s low edges) number z k a n (get_or s.lower f' 0) (get_or s.lower e 0) (lower-in g gg s o f' pf.0) (lower-in g gg s o e pe.0) (lower-deep g gg s o f' pf.0) (lower-deep g gg s o e pe.0)
            (sym (tree-upper g gg s o f' pf.0 tf) ∙ (uf ∙ (sym ue ∙ tree-upper g gg s o e pe.0 te)))
            (other-before e f' (earlier v i j vl h l) te tf (block-child block e f' pe.0 pf.0 te tf (ue ∙ sym uf) differs) (block-child block f' e pf.0 pe.0 tf te (uf ∙ sym ue) (λ x. differs (sym x)))),
      )
    where
      e : ℕ
      e = get_or (darts_of t v) i 0

      f' : ℕ
      f' = get_or (darts_of t v) j 0

      pe : (e < edge_count g) × (begin_of g s e ≡ v)
      pe = dart-from g gg s o low edges number t f are-edges v e vl (member-at (darts_of t v) i 0 (omega arith))

      pf : (f' < edge_count g) × (begin_of g s f' ≡ v)
      pf = dart-from g gg s o low edges number t f are-edges v f' vl (member-at (darts_of t v) j 0 l)

      te : is_tree_edge s e ≡ true
      te = mark-tree g gg s o low edges number t f e pe.0 fi

      tf : is_tree_edge s f' ≡ true
      tf = mark-tree g gg s o low edges number t f f' pf.0 fj

      ue : upper_end g s e ≡ v
      ue = sym (ap (λ (x : Bool). (if x then upper_end g s e else get_or s.lower e 0)) te) ∙ pe.1

      uf : upper_end g s f' ≡ v
      uf = sym (ap (λ (x : Bool). (if x then upper_end g s f' else get_or s.lower f' 0)) tf) ∙ pf.1

      child : (d : ℕ) → d < edge_count g → is_tree_edge s d ≡ true → upper_end g s d ≡ v → other_end g d v ≡ get_or s.lower d 0
      child d dl td u = ap (other_end g d) (sym u) ∙ other-other g d (get_or s.lower d 0) (lower-end g gg s o d dl)

      differs : e ≢ f'
      differs = places-differ (darts_of t v) i j (subst (λ (x : List ℕ). is_distinct x ≡ true) (sym (f.darts.edges_at v vl)) (distinct-filter (λ d. begin_of g s d == v) edges q.distinct)) h l
