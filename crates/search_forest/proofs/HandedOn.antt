-- The steps of the pass over low vertices, as what the code has before and after them.
use Rattle.std.proofs.Common.{◌≡◌, ℕ, ◌+◌, ◌<◌, false, List, [], length, drop, get_or, sym, ap, ◌∙◌, subst, arith}
use Rattle.multigraph.specs.Graph.{Multigraph, edge_count, IsGraph}
use Rattle.search_forest.specs.Forest.{ForestState, is_tree_edge, upper_end}
use Rattle.search_forest.specs.Searching.{IsOver}
use Rattle.search_forest.specs.Low.{LowVertices, taken, AreLowSoFar, CanTake}
use Rattle.search_forest.proofs.Grown.{parent-in, lower-in, upper-in, order-in}
use Rattle.search_forest.proofs.Lows.{first-in, second-in, edge-taken, handed-on, handed-mid}

module _ (g : Multigraph) (gg : IsGraph g) (s : ForestState) (o : IsOver g s) where
  -- vertices have places
  pub can-take : (low : LowVertices) (k : ℕ) (handed depth : List ℕ) (v x : ℕ) → AreLowSoFar g s low k handed → depth ≡ s.depth → v < g.vertex_count → x < g.vertex_count → CanTake depth low v x
  can-take low k handed depth v x a e l m = record {
    first_within = omega (arith, l, a.first_places);
    second_within = omega (arith, l, a.second_places);
    reached_within = omega (arith, m, n);
    first_deep = omega (arith, first-in g gg s o low k handed a v l, n);
    second_deep = omega (arith, second-in g gg s o low k handed a v l, n);
  }
    where
      n : length depth ≡ g.vertex_count
      n = ap (length {A = ℕ}) e ∙ o.forest.places.depth

  -- a frond can be taken into account
  pub edge-can : (low : LowVertices) (e v x : ℕ) (depth : List ℕ) → AreLowSoFar g s low e [] → e < edge_count g → v ≡ get_or s.lower e 0 → x ≡ upper_end g s e → depth ≡ s.depth → CanTake depth low v x
  edge-can low e v x depth a l ev ex ed = can-take low e [] depth v x a ed (omega (arith, ev, lower-in g gg s o e l)) (omega (arith, ex, upper-in g gg s o e l))

  -- it was taken into account
  pub edge-returns : (low new : LowVertices) (e v x : ℕ) (depth : List ℕ) → AreLowSoFar g s low e [] → e < edge_count g → is_tree_edge s e ≡ false → v ≡ get_or s.lower e 0 → x ≡ upper_end g s e → depth ≡ s.depth → new ≡ taken depth low v x → AreLowSoFar g s new (e + 1) []
  edge-returns low new e v x depth a l f ev ex ed en = subst (λ (z : LowVertices). AreLowSoFar g s z (e + 1) []) (sym (en ∙ (λ i. taken (ed i) low (ev i) (ex i)))) (edge-taken g gg s o low e a l f)

  module _ (low : LowVertices) (k i v p x y : ℕ) (l : i < length s.order) (a : AreLowSoFar g s low k (drop (i + 1) s.order)) (ev : v ≡ get_or s.order i 0) (d : 0 < get_or s.depth v 0) (ep : p ≡ get_or s.parent v 0) (ex : x ≡ get_or low.first v 0) (ey : y ≡ get_or low.second v 0) where
    vl : v < g.vertex_count
    vl = omega (arith, ev, order-in g gg s o i l)

    pl : p < g.vertex_count
    pl = omega (arith, ep, parent-in g gg s o v vl d)

    d' : 0 < get_or s.depth (get_or s.order i 0) 0
    d' = omega (arith, d, ap (λ (z : ℕ). get_or s.depth z 0) ev)

    ep' : p ≡ get_or s.parent (get_or s.order i 0) 0
    ep' = ep ∙ ap (λ (z : ℕ). get_or s.parent z 0) ev

    ex' : x ≡ get_or low.first (get_or s.order i 0) 0
    ex' = ex ∙ ap (λ (z : ℕ). get_or low.first z 0) ev

    ey' : y ≡ get_or low.second (get_or s.order i 0) 0
    ey' = ey ∙ ap (λ (z : ℕ). get_or low.second z 0) ev

    -- the first low vertex can be taken into account at the parent
    pub hand-can : (depth : List ℕ) → depth ≡ s.depth → CanTake depth low p x
    hand-can depth e = can-take low k (drop (i + 1) s.order) depth p x a e pl (omega (arith, ex, first-in g gg s o low k (drop (i + 1) s.order) a v vl))

    -- and then the second
    pub hand-can-second : (mid : LowVertices) (depth depth' : List ℕ) → depth ≡ s.depth → depth' ≡ s.depth → mid ≡ taken depth low p x → CanTake depth' mid p y
    hand-can-second mid depth depth' e e' em =
        can-take mid k (drop (i + 1) s.order) depth' p y
        (subst (λ (z : LowVertices). AreLowSoFar g s z k (drop (i + 1) s.order)) (sym (em ∙ (λ j. taken (e j) low (ep' j) (ex' j)))) (handed-mid g gg s o low k i l a d'))
        e' pl (omega (arith, ey, second-in g gg s o low k (drop (i + 1) s.order) a v vl))

    -- both were handed on
    pub hand-returns : (mid new : LowVertices) (depth depth' : List ℕ) → depth ≡ s.depth → depth' ≡ s.depth → mid ≡ taken depth low p x → new ≡ taken depth' mid p y → AreLowSoFar g s new k (drop i s.order)
    hand-returns mid new depth depth' e e' em en =
        let m : mid ≡ taken s.depth low (get_or s.parent (get_or s.order i 0) 0) (get_or low.first (get_or s.order i 0) 0) = em ∙ (λ j. taken (e j) low (ep' j) (ex' j)) in
        subst (λ (z : LowVertices). AreLowSoFar g s z k (drop i s.order)) (sym (en ∙ (λ j. taken (e' j) (m j) (ep' j) (ey' j)))) (handed-on g gg s o low k i l a d')
