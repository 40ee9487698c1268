-- The numbers of a vertex and its descendants are consecutive, and each number is one vertex's.
use Rattle.std.proofs.Common.{◌≡◌, ◌≢◌, ℕ, zero, suc, ◌+◌, ◌-◌, ◌<◌, ◌≤◌, ◌⊎◌, inl, inr, true, cond, ◌&&◌, ◌==◌, ltb, List, get_or, refl, sym, ap, ◌∙◌, subst, arith}
use Rattle.std.proofs.lemmas.Bool.{cases_lt, eq-eqb, eqb-true}
use Rattle.permutations.specs.Count.{count, some}
use Rattle.permutations.specs.Members.{is_member}
use Rattle.permutations.specs.Permutation.{iterate}
use Rattle.permutations.proofs.Count.{count-same}
use Rattle.permutations.proofs.Search.{some-from, some-witness}
use Rattle.permutations.proofs.Injection.{count-injection}
use Rattle.permutations.proofs.Sums.{sum_below-zero}
use Rattle.multigraph.specs.Graph.{Multigraph, IsGraph}
use Rattle.graph_theory.specs.SearchTree.{IsBelow}
use Rattle.graph_theory.proofs.Chains.{chain-in, chain-depth, below-transitive, below-parent, below-reflexive, below-depth, below-between}
use Rattle.search_forest.specs.Forest.{ForestState}
use Rattle.search_forest.specs.Searching.{IsOver, IsOneTree}
use Rattle.palm_tree.specs.Growing.{AreSizes, AreChildren, AreOffsets, AreNumbersSoFar, IsBefore}
use Rattle.search_forest.proofs.Grown.{forest, order-member}
use Rattle.palm_tree.proofs.Totals.{sum-change, cond-yes, cond-no}
use Rattle.palm_tree.proofs.SizesHanded.{both, second-no}

-- z is v or below v
abbrev pub Below : ForestState → ℕ → ℕ → Type 0
Below s v z = IsBelow (λ k. get_or s.parent k 0) (λ k. get_or s.depth k 0) v z

module _ (g : Multigraph) (gg : IsGraph g) (s : ForestState) (o : IsOver g s) where
  pub trans : (u v z : ℕ) → z < g.vertex_count → Below s u v → Below s v z → Below s u z
  trans u v z l a b = below-transitive g (λ k. get_or s.parent k 0) (λ k. get_or s.depth k 0) (λ k. get_or s.parent_edge k 0) (λ e. get_or s.lower e 0) (forest g gg s o) u v z l a b

  pub same : (v : ℕ) → Below s v v
  same v = below-reflexive g (λ k. get_or s.parent k 0) (λ k. get_or s.depth k 0) (λ k. get_or s.parent_edge k 0) (λ e. get_or s.lower e 0) (forest g gg s o) v

  pub up : (v : ℕ) → 0 < get_or s.depth v 0 → Below s (get_or s.parent v 0) v
  up v d = below-parent g (λ k. get_or s.parent k 0) (λ k. get_or s.depth k 0) (λ k. get_or s.parent_edge k 0) (λ e. get_or s.lower e 0) (forest g gg s o) v d

  pub deeper : (v z : ℕ) → z < g.vertex_count → (b : Below s v z) → get_or s.depth v 0 + b.steps ≡ get_or s.depth z 0
  deeper v z l b = below-depth g (λ k. get_or s.parent k 0) (λ k. get_or s.depth k 0) (λ k. get_or s.parent_edge k 0) (λ e. get_or s.lower e 0) (forest g gg s o) v z l b

  -- of two ancestors of a vertex the one that is no deeper is an ancestor of the other
  pub comparable : (u w z : ℕ) → z < g.vertex_count → Below s u z → Below s w z → get_or s.depth u 0 ≤ get_or s.depth w 0 → Below s u w
  comparable u w z l a b d =
      subst (λ (k : ℕ). Below s k w) a.leads (subst (λ (k : ℕ). Below s (iterate (λ q. get_or s.parent q 0) a.steps z) k) b.leads
      (below-between g (λ k. get_or s.parent k 0) (λ k. get_or s.depth k 0) (λ k. get_or s.parent_edge k 0) (λ e. get_or s.lower e 0) (forest g gg s o) z b.steps a.steps l a.within (omega (arith, deeper u z l a, deeper w z l b))))

  -- the first vertex is the root
  pub root-depth : IsOneTree g s → 0 < g.vertex_count → get_or s.depth 0 0 ≡ 0
  root-depth one l = ap (λ (k : ℕ). get_or s.depth k 0) (sym (one r (chain-in g (λ k. get_or s.parent k 0) (λ k. get_or s.depth k 0) (λ k. get_or s.parent_edge k 0) (λ e. get_or s.lower e 0) (forest g gg s o) (get_or s.depth 0 0) 0 l (omega arith)) rd)) ∙ rd
    where
      r : ℕ
      r = iterate (λ k. get_or s.parent k 0) (get_or s.depth 0 0) 0

      rd : get_or s.depth r 0 ≡ 0
      rd = omega (arith, chain-depth g (λ k. get_or s.parent k 0) (λ k. get_or s.depth k 0) (λ k. get_or s.parent_edge k 0) (λ e. get_or s.lower e 0) (forest g gg s o) (get_or s.depth 0 0) 0 l (omega arith))

  module _ (size offset children number : List ℕ) (z : AreSizes g s size) (k : AreChildren g s children) (a : AreOffsets g s size children offset) (n : AreNumbersSoFar g s size offset s.order number) where
    pub root-number : (v : ℕ) → v < g.vertex_count → get_or s.depth v 0 ≡ 0 → get_or number v 0 ≡ 0
    root-number v l d = n.root v (order-member g gg s o v l) d

    pub child-number : (v : ℕ) → v < g.vertex_count → 0 < get_or s.depth v 0 → get_or number v 0 ≡ get_or number (get_or s.parent v 0) 0 + 1 + get_or offset v 0
    child-number v l d = n.child v (order-member g gg s o v l) d

    pub size-some : (v : ℕ) → v < g.vertex_count → 0 < get_or size v 0
    size-some v l = omega (arith, z.sum v l)

    pub number-below : (v : ℕ) → v < g.vertex_count → get_or number v 0 + get_or size v 0 ≤ g.vertex_count
    number-below v l = n.few v (order-member g gg s o v l)

    -- a descendant's numbers are within the vertex's, and so many steps below or more behind its own
    range : (i v : ℕ) → v < g.vertex_count → i ≤ get_or s.depth v 0 → (get_or number (iterate (λ q. get_or s.parent q 0) i v) 0 + i ≤ get_or number v 0) × (get_or number v 0 + get_or size v 0 ≤ get_or number (iterate (λ q. get_or s.parent q 0) i v) 0 + get_or size (iterate (λ q. get_or s.parent q 0) i v) 0)
    range zero v l h = (omega arith, omega arith)
    range (suc i) v l h =
        let r = range i v l (omega arith) in
        let y = iterate (λ q. get_or s.parent q 0) i v in
        let yl : y < g.vertex_count = chain-in g (λ k. get_or s.parent k 0) (λ k. get_or s.depth k 0) (λ k. get_or s.parent_edge k 0) (λ e. get_or s.lower e 0) (forest g gg s o) i v l (omega arith) in
        let yd : 0 < get_or s.depth y 0 = omega (arith, chain-depth g (λ k. get_or s.parent k 0) (λ k. get_or s.depth k 0) (λ k. get_or s.parent_edge k 0) (λ e. get_or s.lower e 0) (forest g gg s o) i v l (omega arith)) in
        (omega (arith, r.0, child-number y yl yd), omega (arith, r.1, child-number y yl yd, a.room y yl yd))

    -- a descendant's number is among the vertex's
    pub below-number : (v w : ℕ) → w < g.vertex_count → (b : Below s v w) → (get_or number v 0 + b.steps ≤ get_or number w 0) × (get_or number w 0 + get_or size w 0 ≤ get_or number v 0 + get_or size v 0)
    below-number v w l b = subst (λ (q : ℕ). (get_or number q 0 + b.steps ≤ get_or number w 0) × (get_or number w 0 + get_or size w 0 ≤ get_or number q 0 + get_or size q 0)) b.leads (range b.steps w l b.within)

    -- on the ancestors of a vertex numbers are in order of depths
    pub in-order : (u w y : ℕ) → w < g.vertex_count → y < g.vertex_count → Below s u y → Below s w y → get_or s.depth u 0 ≤ get_or s.depth w 0 → get_or number u 0 ≤ get_or number w 0
    in-order u w y wl l c d h = omega (arith, (below-number u w wl (comparable u w y l c d h)).0)

    pub strictly : (u w y : ℕ) → w < g.vertex_count → y < g.vertex_count → Below s u y → Below s w y → get_or s.depth u 0 < get_or s.depth w 0 → get_or number u 0 < get_or number w 0
    strictly u w y wl l c d h =
        let b = comparable u w y l c d (omega arith) in
        omega (arith, (below-number u w wl b).0, deeper u w wl b)

    -- each number of a vertex's is that of a descendant
    pub onto : (fuel x v : ℕ) → x < fuel → v < g.vertex_count → x < get_or size v 0 → (u : ℕ) × (u < g.vertex_count) × Below s v u × (get_or number u 0 ≡ get_or number v 0 + x)
    onto zero x v f l h = absurd (omega arith)
    onto (suc fuel) zero v f l h = (v, l, same v, omega arith)
    onto (suc fuel) (suc x) v f l h = child (a.covers v x l (omega arith))
        (λ c w e m r. onto fuel (x - get_or offset c 0) c (omega arith) w (omega (arith, e, m, r)))
      where
        child : (c : ℕ) × (is_member c children ≡ true) × (get_or s.parent c 0 ≡ v) × (get_or offset c 0 ≤ x) × (x < get_or offset c 0 + get_or size c 0)
            → ((c : ℕ) → c < g.vertex_count → get_or s.parent c 0 ≡ v → get_or offset c 0 ≤ x → x < get_or offset c 0 + get_or size c 0 → (u : ℕ) × (u < g.vertex_count) × Below s c u × (get_or number u 0 ≡ get_or number c 0 + (x - get_or offset c 0)))
            → (u : ℕ) × (u < g.vertex_count) × Below s v u × (get_or number u 0 ≡ get_or number v 0 + suc x)
        child w r =
            let i = k.within w.0 w.1 in
            let t = r w.0 i.0 w.2 w.3 w.4 in
            (t.0, t.1, trans v w.0 t.0 t.1 (subst (λ (q : ℕ). Below s q w.0) w.2 (up w.0 i.1)) t.2, omega (arith, t.3, child-number w.0 i.0 i.1, ap (λ (q : ℕ). get_or number q 0) w.2, w.3))

    -- of two children of one vertex the one that comes first has the smaller number
    pub children-rise : (c d : ℕ) → c < g.vertex_count → d < g.vertex_count → 0 < get_or s.depth c 0 → 0 < get_or s.depth d 0 → get_or s.parent c 0 ≡ get_or s.parent d 0 → IsBefore children c d → get_or number c 0 < get_or number d 0
    children-rise c d cl dl cd dd e b =
        omega (arith, a.follow c d b e, child-number c cl cd, child-number d dl dd, ap (λ (q : ℕ). get_or number q 0) e, size-some c cl)

    -- where vertex 0 alone is a root
    module _ (one : IsOneTree g s) where
      -- the root's numbers are all
      root-size : 0 < g.vertex_count → get_or size 0 0 ≡ g.vertex_count
      root-size l = omega (arith, sum-change g.vertex_count (λ c. cond (is_member c s.order && ltb 0 (get_or s.depth c 0)) 0 (get_or size c 0)) (λ c. 0) 0 l elsewhere, sum_below-zero g.vertex_count, z.total, here)
        where
          here : cond (is_member 0 s.order && ltb 0 (get_or s.depth 0 0)) 0 (get_or size 0 0) ≡ get_or size 0 0
          here =
              let d = root-depth one l in
              cond-no (is_member 0 s.order && ltb 0 (get_or s.depth 0 0)) 0 (get_or size 0 0) (second-no (is_member 0 s.order) (ltb 0 (get_or s.depth 0 0)) (grind (arith, d)))

          elsewhere : (c : ℕ) → c < g.vertex_count → c ≢ 0 → cond (is_member c s.order && ltb 0 (get_or s.depth c 0)) 0 (get_or size c 0) ≡ 0
          elsewhere c m q = elim (cases_lt 0 (get_or s.depth c 0)) [
            | inl d ↦ cond-yes (is_member c s.order && ltb 0 (get_or s.depth c 0)) 0 (get_or size c 0) (both (is_member c s.order) (ltb 0 (get_or s.depth c 0)) (order-member g gg s o c m) (grind (arith, d)))
            | inr e ↦ absurd (q (one c m (omega arith)))
          ]

      -- each number is a vertex's
      pub each-number : (x : ℕ) → x < g.vertex_count → (v : ℕ) × (v < g.vertex_count) × (get_or number v 0 ≡ x)
      each-number x l =
          let p : 0 < g.vertex_count = omega arith in
          let w = onto (suc x) x 0 (omega arith) p (omega (arith, root-size p)) in
          (w.0, w.1, omega (arith, w.3, root-number 0 p (root-depth one p)))

      pick : (x : ℕ) → (x < g.vertex_count) ⊎ (g.vertex_count ≤ x) → ℕ
      pick x (inl l) = (each-number x l).0
      pick x (inr m) = 0

      pick-in : (x : ℕ) (c : (x < g.vertex_count) ⊎ (g.vertex_count ≤ x)) → x < g.vertex_count → pick x c < g.vertex_count
      unfolding pick
      pick-in x (inl l) m = (each-number x l).1
      pick-in x (inr h) m = absurd (omega arith)

      pick-number : (x : ℕ) (c : (x < g.vertex_count) ⊎ (g.vertex_count ≤ x)) → x < g.vertex_count → get_or number (pick x c) 0 ≡ x
      unfolding pick
      pick-number x (inl l) m = (each-number x l).2
      pick-number x (inr h) m = absurd (omega arith)

      -- each vertex is the one that its number is picked for
      picked : (u : ℕ) → u < g.vertex_count → (x : ℕ) × (x < g.vertex_count) × (pick x (cases_lt x g.vertex_count) ≡ u)
      picked u l =
          let f = λ (x : ℕ). pick x (cases_lt x g.vertex_count) in
          let t = λ (q : ℕ). some g.vertex_count (λ x. f x == q) in
          let inj = λ (x y : ℕ) (xl : x < g.vertex_count) (yl : y < g.vertex_count) (p : true ≡ true) (q : true ≡ true) (e : f x ≡ f y). sym (pick-number x (cases_lt x g.vertex_count) xl) ∙ (ap (λ (v : ℕ). get_or number v 0) e ∙ pick-number y (cases_lt y g.vertex_count) yl) in
          let c : count g.vertex_count (λ x. true) ≤ count g.vertex_count t = count-injection g.vertex_count g.vertex_count (λ x. true) t f (λ x xl h. pick-in x (cases_lt x g.vertex_count) xl) (λ x xl h. some-from g.vertex_count (λ y. f y == f x) x xl (eq-eqb (f x) (f x) refl)) inj in
          let h : t u ≡ true = count-same g.vertex_count t (λ x. true) (λ x xl q. refl) c u l in
          let w = some-witness g.vertex_count (λ x. f x == u) h in
          (w.0, w.1, eqb-true (f w.0) u w.2)

      -- vertices with the same number are one
      pub differ : (u w : ℕ) → u < g.vertex_count → w < g.vertex_count → get_or number u 0 ≡ get_or number w 0 → u ≡ w
      differ u w ul wl e =
          let p = picked u ul in
          let q = picked w wl in
          let pn = ap (λ (v : ℕ). get_or number v 0) (sym p.2) ∙ pick-number p.0 (cases_lt p.0 g.vertex_count) p.1 in
          let qn = ap (λ (v : ℕ). get_or number v 0) (sym q.2) ∙ pick-number q.0 (cases_lt q.0 g.vertex_count) q.1 in
          let same_number : p.0 ≡ q.0 = sym pn ∙ (e ∙ qn) in
          sym p.2 ∙ (ap (λ (x : ℕ). pick x (cases_lt x g.vertex_count)) same_number ∙ q.2)

      -- a vertex with one of a vertex's numbers is below it
      pub within-below : (v w : ℕ) → v < g.vertex_count → w < g.vertex_count → get_or number v 0 ≤ get_or number w 0 → get_or number w 0 < get_or number v 0 + get_or size v 0 → Below s v w
      within-below v w l m h i =
          let x = get_or number w 0 - get_or number v 0 in
          let t = onto (suc x) x v (omega arith) l (omega arith) in
          subst (Below s v) (differ t.0 w t.1 m (omega (arith, t.3))) t.2
