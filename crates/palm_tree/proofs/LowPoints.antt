-- The numbers at the two low vertices are the two low points.
use Rattle.std.proofs.Common.{◌≡◌, ℕ, zero, suc, ◌<◌, ◌≤◌, inl, inr, false, List, get_or, sym, ap, ◌∙◌, subst, arith}
use Rattle.permutations.specs.Permutation.{iterate}
use Rattle.multigraph.specs.Graph.{Multigraph, edge_count, IsGraph}
use Rattle.graph_theory.proofs.Chains.{chain-in, chain-depth}
use Rattle.palm_tree.specs.PalmTree.{PalmTreeLists, IsReached, IsLow1, IsLow2}
use Rattle.search_forest.specs.Forest.{ForestState}
use Rattle.search_forest.specs.Searching.{IsOver}
use Rattle.palm_tree.specs.Growing.{LowVertices, upper_end, is_tree_edge, LeadsFrom, IsTaken, AreLowVertices, AreSizes, AreChildren, AreOffsets, AreNumbersSoFar, AreFound}
use Rattle.search_forest.proofs.Grown.{forest, lower-in, upper-in, upper-below, order-member, parent-depth}
use Rattle.search_forest.proofs.Lows.{first-in, second-in, first-own}
use Rattle.palm_tree.proofs.Intervals.{Below, trans, same, comparable, in-order, strictly}
use Rattle.palm_tree.proofs.Palm.{reached-from, reached-to}

module _ (g : Multigraph) (gg : IsGraph g) (s : ForestState) (o : IsOver g s) (low : LowVertices) (w : AreLowVertices g s low) where
  -- what was taken into account at a child was at its parent
  taken-up : (c y : ℕ) → c < g.vertex_count → 0 < get_or s.depth c 0 → IsTaken s.depth low c y → IsTaken s.depth low (get_or s.parent c 0) y
  taken-up c y l d t =
      let a = w.first_handed c (order-member g gg s o c l) d in
      let b = w.second_handed c (order-member g gg s o c l) d in
      let pd = parent-depth g gg s o c l d in
      let pl = o.forest.grown.parent_in c (o.visited c l) d in
      let fo = first-own g gg s o low (edge_count g) s.order w (get_or s.parent c 0) pl in
      record {
        first = omega (arith, a.first, t.first);
        second = elim t.second [
          | inl e ↦ elim a.second [ inl q ↦ inl (e ∙ q) | inr q ↦ inr (omega (arith, e, q)) ]
          | inr m ↦ elim b.second [
            | inr q ↦ inr (omega (arith, m, q))
            | inl q ↦ elim (w.apart c l) [
              | inl e ↦ absurd (omega (arith, q, ap (λ (z : ℕ). get_or s.depth z 0) e.1, fo, pd))
              | inr k ↦ absurd (omega (arith, q, k, a.first))
            ]
          ]
        ];
      }

  -- what a frond leads to was taken into account at all vertices above its lower end
  taken-above : (i e : ℕ) → e < edge_count g → is_tree_edge s e ≡ false → i ≤ get_or s.depth (get_or s.lower e 0) 0 → IsTaken s.depth low (iterate (λ q. get_or s.parent q 0) i (get_or s.lower e 0)) (upper_end g s e)
  taken-above zero e l f h = w.fronds e l l f
  taken-above (suc i) e l f h =
      let zl = lower-in g gg s o e l in
      let cl = chain-in g (λ k. get_or s.parent k 0) (λ k. get_or s.depth k 0) (λ k. get_or s.parent_edge k 0) (λ q. get_or s.lower q 0) (forest g gg s o) i (get_or s.lower e 0) zl (omega arith) in
      let cd = chain-depth g (λ k. get_or s.parent k 0) (λ k. get_or s.depth k 0) (λ k. get_or s.parent_edge k 0) (λ q. get_or s.lower q 0) (forest g gg s o) i (get_or s.lower e 0) zl (omega arith) in
      taken-up (iterate (λ q. get_or s.parent q 0) i (get_or s.lower e 0)) (upper_end g s e) cl (omega (arith, cd)) (taken-above i e l f (omega arith))

  -- all that a vertex leads to was taken into account there
  pub taken-all : (v y : ℕ) → LeadsFrom g s v y → IsTaken s.depth low v y
  taken-all v y r = subst (IsTaken s.depth low v) r.upper (subst (λ (z : ℕ). IsTaken s.depth low z (upper_end g s r.edge)) r.below.leads (taken-above r.below.steps r.edge r.edge_in r.frond r.below.within))

  -- a low vertex is above its vertex
  leads-above : (v y : ℕ) → LeadsFrom g s v y → get_or s.depth y 0 ≤ get_or s.depth v 0 → Below s y v
  leads-above v y r d =
      let zl = lower-in g gg s o r.edge r.edge_in in
      comparable g gg s o y v (get_or s.lower r.edge 0) zl (subst (λ (z : ℕ). Below s z (get_or s.lower r.edge 0)) r.upper (upper-below g gg s o r.edge r.edge_in)) r.below d

  pub first-above : (v : ℕ) → v < g.vertex_count → Below s (get_or low.first v 0) v
  first-above v l = elim (w.first_among v l) [
    | inl e ↦ subst (λ (z : ℕ). Below s z v) (sym e) (same g gg s o v)
    | inr r ↦ leads-above v (get_or low.first v 0) r (first-own g gg s o low (edge_count g) s.order w v l)
  ]

  pub second-above : (v : ℕ) → v < g.vertex_count → Below s (get_or low.second v 0) v
  second-above v l = elim (w.second_among v l) [
    | inl e ↦ subst (λ (z : ℕ). Below s z v) (sym e) (same g gg s o v)
    | inr r ↦ leads-above v (get_or low.second v 0) r (w.own v l)
  ]

  module _ (size offset children number : List ℕ) (z : AreSizes g s size) (k : AreChildren g s children) (a : AreOffsets g s size children offset) (n : AreNumbersSoFar g s size offset s.order number) where
    -- a low vertex that is no deeper than what is led to has no greater number, and one that is less deep a smaller one
    led : (v u y : ℕ) → v < g.vertex_count → Below s u v → LeadsFrom g s v y → get_or s.depth u 0 ≤ get_or s.depth y 0 → get_or number u 0 ≤ get_or number y 0
    led v u y l b r d =
        let e = get_or s.lower r.edge 0 in
        let el = lower-in g gg s o r.edge r.edge_in in
        let yl : y < g.vertex_count = subst (λ (i : ℕ). i < g.vertex_count) r.upper (upper-in g gg s o r.edge r.edge_in) in
        in-order g gg s o size offset children number z k a n u y e yl el (trans g gg s o u v e el b r.below) (subst (λ (i : ℕ). Below s i e) r.upper (upper-below g gg s o r.edge r.edge_in)) d

    led-back : (v u y : ℕ) → v < g.vertex_count → u < g.vertex_count → Below s u v → LeadsFrom g s v y → get_or s.depth y 0 ≤ get_or s.depth u 0 → get_or number y 0 ≤ get_or number u 0
    led-back v u y l ul b r d =
        let e = get_or s.lower r.edge 0 in
        let el = lower-in g gg s o r.edge r.edge_in in
        in-order g gg s o size offset children number z k a n y u e ul el (subst (λ (i : ℕ). Below s i e) r.upper (upper-below g gg s o r.edge r.edge_in)) (trans g gg s o u v e el b r.below) d

    module _ (edges : List ℕ) (t : PalmTreeLists) (f : AreFound g s low edges number t) where
      numbered : (y : ℕ) → get_or t.number y 0 ≡ get_or number y 0
      numbered y = ap (λ (l : List ℕ). get_or l y 0) f.number

      first-vertex : (v : ℕ) → v < g.vertex_count → get_or low.first v 0 < g.vertex_count
      first-vertex v l = first-in g gg s o low (edge_count g) s.order w v l

      second-vertex : (v : ℕ) → v < g.vertex_count → get_or low.second v 0 < g.vertex_count
      second-vertex v l = second-in g gg s o low (edge_count g) s.order w v l

      pub low1 : (v : ℕ) → v < g.vertex_count → IsLow1 g t v (get_or t.low1 v 0)
      low1 v l = record {
        own = omega (arith, f.low1.at v l, numbered v, in-order g gg s o size offset children number z k a n (get_or low.first v 0) v v l l (first-above v l) (same g gg s o v) (first-own g gg s o low (edge_count g) s.order w v l));
        least = λ x r.
            let y = reached-from g gg s o low edges number t f v x r in
            omega (arith, f.low1.at v l, numbered y.0, y.2, led v (get_or low.first v 0) y.0 l (first-above v l) y.1 (taken-all v y.0 y.1).first);
        among = elim (w.first_among v l) [
          | inl e ↦ inl (omega (arith, f.low1.at v l, numbered v, ap (λ (i : ℕ). get_or number i 0) e))
          | inr r ↦ inr (subst (IsReached g t v) (omega (arith, f.low1.at v l, numbered (get_or low.first v 0))) (reached-to g gg s o low edges number t f v (get_or low.first v 0) r))
        ];
      }

      pub low2 : (v : ℕ) → v < g.vertex_count → IsLow2 g t v (get_or t.low2 v 0)
      low2 v l = record {
        own = omega (arith, f.low2.at v l, numbered v, in-order g gg s o size offset children number z k a n (get_or low.second v 0) v v l l (second-above v l) (same g gg s o v) (w.own v l));
        least = λ x r d.
            let y = reached-from g gg s o low edges number t f v x r in
            let q = taken-all v y.0 y.1 in
            elim q.second [
              | inl e ↦ absurd (d (omega (arith, f.low1.at v l, numbered y.0, y.2, led v (get_or low.first v 0) y.0 l (first-above v l) y.1 q.first, led-back v (get_or low.first v 0) y.0 l (first-vertex v l) (first-above v l) y.1 (omega (arith, e)))))
              | inr m ↦ omega (arith, f.low2.at v l, numbered y.0, y.2, led v (get_or low.second v 0) y.0 l (second-above v l) y.1 m)
            ];
        among = elim (w.apart v l) [
          | inl e ↦ inl (omega (arith, f.low2.at v l, numbered v, ap (λ (i : ℕ). get_or number i 0) e.1))
          | inr d ↦ elim (w.second_among v l) [
            | inl e ↦ inl (omega (arith, f.low2.at v l, numbered v, ap (λ (i : ℕ). get_or number i 0) e))
            | inr r ↦ inr (
              subst (IsReached g t v) (omega (arith, f.low2.at v l, numbered (get_or low.second v 0))) (reached-to g gg s o low edges number t f v (get_or low.second v 0) r),
              λ q. absurd (omega (arith, q, f.low1.at v l, f.low2.at v l, strictly g gg s o size offset children number z k a n (get_or low.first v 0) (get_or low.second v 0) v (second-vertex v l) l (first-above v l) (second-above v l) d)),
            )
          ]
        ];
      }
