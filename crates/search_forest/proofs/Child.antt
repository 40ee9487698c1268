-- An edge was seen that leads to a vertex not visited before: what holds between turns is kept.
use Rattle.std.proofs.Common.{◌≡◌, ◌≢◌, ℕ, ◌+◌, ◌<◌, ◌≤◌, ◌⊎◌, inl, inr, Bool, true, false, ◌||◌, List, [], ◌∷◌, ◌++◌, length, take, get_or, set, refl, sym, ap, ◌∙◌, subst, arith, length-set, length-append}
use Rattle.std.proofs.lemmas.Bool.{cases_Bool, cases_eq, cases_lt, true≢false}
use Rattle.std.proofs.lemmas.List.{get_or_append_left, get_or_push, take-append-le}
use Rattle.std.proofs.Math.Seq.{take-append_seam}
use Rattle.permutations.specs.Members.{is_member, is_distinct}
use Rattle.permutations.specs.Permutation.{iterate}
use Rattle.permutations.proofs.Members.{member-head, member-append, member-append_right, no_member-cons, distinct-append}
use Rattle.permutations.proofs.Arrangements.{member-at}
use Rattle.multigraph.specs.Graph.{Multigraph, edge_count, is_end, other_end, incident_edges}
use Rattle.multigraph.proofs.OtherEnd.{other_end-is_end}
use Rattle.graph_theory.proofs.Ends.{other-other}
use Rattle.search_forest.specs.Forest.{ForestState, child_noted, IsForest}
use Rattle.multigraph.specs.Marks.{is_marked}
use Rattle.search_forest.specs.Forest.{IsOnPath, IsGrown, IsSeen, IsOrdered, OnPath}
use Rattle.search_forest.proofs.Writes.{number-same, number-other, marked-same, marked-other, marked-cases, marked-kept, marks-differ}
use Rattle.search_forest.proofs.Ancestors.{iterate-kept}

-- a vertex on a path is on it when one more stands at its end
pub on-longer : (path : List ℕ) (w u : ℕ) → OnPath path u → OnPath (path ++ w ∷ []) u
on-longer path w u o = record {
  place = o.place;
  within = omega (arith, o.within, length-append path (w ∷ []));
  is = get_or_append_left path (w ∷ []) 0 o.place o.within ∙ o.is;
}

-- the last of a path with one more at its end
pub on-last : (path : List ℕ) (w : ℕ) → OnPath (path ++ w ∷ []) w
on-last path w = record {
  place = length path;
  within = omega (arith, length-append path (w ∷ []));
  is = get_or_push path w 0 (length path) refl;
}

-- the visited vertices in order, with one more at the end
pub order-longer : (visited : List Bool) (order : List ℕ) (w : ℕ) → w < length visited → is_marked visited w ≡ false → is_distinct order ≡ true → ((v : ℕ) → is_member v order ≡ is_marked visited v) → (is_distinct (order ++ w ∷ []) ≡ true) × ((v : ℕ) → is_member v (order ++ w ∷ []) ≡ is_marked (set visited w true) v)
order-longer visited order w l f d m = (distinct-append order (w ∷ []) d refl apart, members)
  where
    apart : (z : ℕ) → is_member z order ≡ true → is_member z (w ∷ []) ≡ false
    apart z h = no_member-cons z w [] (λ e. true≢false (sym h ∙ (m z ∙ (ap (is_marked visited) (sym e) ∙ f)))) refl

    members : (v : ℕ) → is_member v (order ++ w ∷ []) ≡ is_marked (set visited w true) v
    members v = elim (cases_eq v w) [
      | inl e ↦ subst (λ (z : ℕ). is_member z (order ++ w ∷ []) ≡ is_marked (set visited w true) z) (sym e) (member-append_right w order (w ∷ []) (member-head w []) ∙ sym (marked-same visited w l))
      | inr n ↦
          let none : is_member v (w ∷ []) ≡ false = no_member-cons v w [] (λ e. n (sym e)) refl in
          member-append v order (w ∷ []) ∙ (either (is_member v order) (is_member v (w ∷ [])) none ∙ (m v ∙ sym (marked-other visited w v n)))
    ]
      where
        either : (a b : Bool) → b ≡ false → (a || b) ≡ a
        either a b h = grind (arith, cases_Bool a, h)

-- edge e was seen for the first time at v, the last vertex of the path, and w at its other end was not visited
pub record IsChild (g : Multigraph) (s : ForestState) (v e w k : ℕ) : Type 0 where
  pub edge_in : e < edge_count g
  pub unseen : is_marked s.seen e ≡ false
  pub is_end : is_end g v e ≡ true
  pub leads : other_end g e v ≡ w
  pub vertex_in : v < g.vertex_count
  pub child_in : w < g.vertex_count
  pub unvisited : is_marked s.visited w ≡ false
  pub last : length s.path ≡ k + 1
  pub here : get_or s.path k 0 ≡ v

module _ (g : Multigraph) (s : ForestState) (v e w k : ℕ) (b : IsForest g s) (f : IsChild g s v e w k) where
  visited' : List Bool
  visited' = set s.visited w true

  parent' : List ℕ
  parent' = set s.parent w v

  depth' : List ℕ
  depth' = set s.depth w (get_or s.depth v 0 + 1)

  parent_edge' : List ℕ
  parent_edge' = set s.parent_edge w e

  seen' : List Bool
  seen' = set s.seen e true

  lower' : List ℕ
  lower' = set s.lower e w

  path' : List ℕ
  path' = s.path ++ w ∷ []

  order' : List ℕ
  order' = s.order ++ w ∷ []

  -- a visited vertex is another one, and a seen edge too
  other : (u : ℕ) → is_marked s.visited u ≡ true → u ≢ w
  other u h = marks-differ s.visited u w h f.unvisited

  other-edge : (q : ℕ) → is_marked s.seen q ≡ true → q ≢ e
  other-edge q h = marks-differ s.seen q e h f.unseen

  w-in : w < length s.visited
  w-in = omega (arith, f.child_in, b.places.visited)

  e-in : e < length s.seen
  e-in = omega (arith, f.edge_in, b.places.seen)

  visited-cases : (u : ℕ) → is_marked visited' u ≡ true → (u ≡ w) ⊎ (is_marked s.visited u ≡ true)
  unfolding visited'
  visited-cases u h = marked-cases s.visited w u h

  visited-kept : (u : ℕ) → is_marked s.visited u ≡ true → is_marked visited' u ≡ true
  unfolding visited'
  visited-kept u h = marked-kept s.visited w u w-in h

  visited-child : is_marked visited' w ≡ true
  unfolding visited'
  visited-child = marked-same s.visited w w-in

  seen-cases : (q : ℕ) → is_marked seen' q ≡ true → (q ≡ e) ⊎ (is_marked s.seen q ≡ true)
  unfolding seen'
  seen-cases q h = marked-cases s.seen e q h

  seen-kept : (q : ℕ) → is_marked s.seen q ≡ true → is_marked seen' q ≡ true
  unfolding seen'
  seen-kept q h = marked-kept s.seen e q e-in h

  seen-here : is_marked seen' e ≡ true
  unfolding seen'
  seen-here = marked-same s.seen e e-in

  parent-kept : (u : ℕ) → is_marked s.visited u ≡ true → get_or parent' u 0 ≡ get_or s.parent u 0
  unfolding parent'
  parent-kept u h = number-other s.parent w u v (other u h)

  parent-child : get_or parent' w 0 ≡ v
  unfolding parent'
  parent-child = number-same s.parent w v (omega (arith, f.child_in, b.places.parent))

  depth-kept : (u : ℕ) → is_marked s.visited u ≡ true → get_or depth' u 0 ≡ get_or s.depth u 0
  unfolding depth'
  depth-kept u h = number-other s.depth w u (get_or s.depth v 0 + 1) (other u h)

  depth-child : get_or depth' w 0 ≡ get_or s.depth v 0 + 1
  unfolding depth'
  depth-child = number-same s.depth w (get_or s.depth v 0 + 1) (omega (arith, f.child_in, b.places.depth))

  edge-kept : (u : ℕ) → is_marked s.visited u ≡ true → get_or parent_edge' u 0 ≡ get_or s.parent_edge u 0
  unfolding parent_edge'
  edge-kept u h = number-other s.parent_edge w u e (other u h)

  edge-child : get_or parent_edge' w 0 ≡ e
  unfolding parent_edge'
  edge-child = number-same s.parent_edge w e (omega (arith, f.child_in, b.places.parent_edge))

  lower-kept : (q : ℕ) → is_marked s.seen q ≡ true → get_or lower' q 0 ≡ get_or s.lower q 0
  unfolding lower'
  lower-kept q h = number-other s.lower e q w (other-edge q h)

  lower-here : get_or lower' e 0 ≡ w
  unfolding lower'
  lower-here = number-same s.lower e w (omega (arith, f.edge_in, b.places.lower))

  visited-here : is_marked s.visited v ≡ true
  visited-here = subst (λ (z : ℕ). is_marked s.visited z ≡ true) f.here (b.on_path.visits k (omega (arith, f.last)))

  depth-here : get_or s.depth v 0 ≡ k
  depth-here = ap (λ (z : ℕ). get_or s.depth z 0) (sym f.here) ∙ b.on_path.deep k (omega (arith, f.last))

  child-end : is_end g w e ≡ true
  child-end = subst (λ (z : ℕ). is_end g z e ≡ true) f.leads (other_end-is_end g e v)

  child-leads : other_end g e w ≡ v
  child-leads = ap (other_end g e) (sym f.leads) ∙ other-other g e v f.is_end

  path-length : length path' ≡ length s.path + 1
  unfolding path'
  path-length = length-append s.path (w ∷ [])

  path-kept : (j : ℕ) → j < length s.path → get_or path' j 0 ≡ get_or s.path j 0
  unfolding path'
  path-kept j l = get_or_append_left s.path (w ∷ []) 0 j l

  path-last : get_or path' (length s.path) 0 ≡ w
  unfolding path'
  path-last = get_or_push s.path w 0 (length s.path) refl

  on-kept : (u : ℕ) → OnPath s.path u → OnPath path' u
  unfolding path'
  on-kept u o = on-longer s.path w u o

  on-child : OnPath path' w
  unfolding path'
  on-child = on-last s.path w

  -- a place of the longer path is one of the path or the last one
  place-cases : (j : ℕ) → j < length path' → (j < length s.path) ⊎ (j ≡ length s.path)
  place-cases j l = elim (cases_lt j (length s.path)) [ inl a ↦ inl a | inr c ↦ inr (omega (arith, path-length)) ]

  on_path : IsOnPath g visited' parent' depth' path'
  on_path = record {
    within = λ j l. elim (place-cases j l) [
      | inl a ↦ subst (λ (z : ℕ). z < g.vertex_count) (sym (path-kept j a)) (b.on_path.within j a)
      | inr c ↦ subst (λ (z : ℕ). z < g.vertex_count) (sym (ap (λ (q : ℕ). get_or path' q 0) c ∙ path-last)) f.child_in
    ];
    visits = λ j l. elim (place-cases j l) [
      | inl a ↦ subst (λ (z : ℕ). is_marked visited' z ≡ true) (sym (path-kept j a)) (visited-kept (get_or s.path j 0) (b.on_path.visits j a))
      | inr c ↦ subst (λ (z : ℕ). is_marked visited' z ≡ true) (sym (ap (λ (q : ℕ). get_or path' q 0) c ∙ path-last)) visited-child
    ];
    deep = λ j l. elim (place-cases j l) [
      | inl a ↦ ap (λ (z : ℕ). get_or depth' z 0) (path-kept j a) ∙ (depth-kept (get_or s.path j 0) (b.on_path.visits j a) ∙ b.on_path.deep j a)
      | inr c ↦ ap (λ (z : ℕ). get_or depth' z 0) (ap (λ (q : ℕ). get_or path' q 0) c ∙ path-last) ∙ omega (arith, depth-child, depth-here, f.last)
    ];
    from_parent = λ j l. elim (place-cases (j + 1) l) [
      | inl a ↦
          ap (λ (z : ℕ). get_or parent' z 0) (path-kept (j + 1) a) ∙
          (parent-kept (get_or s.path (j + 1) 0) (b.on_path.visits (j + 1) a) ∙ (b.on_path.from_parent j a ∙ sym (path-kept j (omega arith))))
      | inr c ↦
          let q : j ≡ k = omega (arith, f.last) in
          ap (λ (z : ℕ). get_or parent' z 0) (ap (λ (q : ℕ). get_or path' q 0) c ∙ path-last) ∙
          (parent-child ∙ (sym f.here ∙ (ap (λ (z : ℕ). get_or s.path z 0) (sym q) ∙ sym (path-kept j (omega (arith, f.last))))))
    ];
  }

  -- what is said of a vertex with a parent, of the child and of those visited before
  grown : IsGrown g visited' parent' depth' parent_edge' seen' lower'
  grown = record {
    parent_in = λ u h d. elim (visited-cases u h) [
      | inl q ↦ subst (λ (z : ℕ). get_or parent' z 0 < g.vertex_count) (sym q) (subst (λ (z : ℕ). z < g.vertex_count) (sym parent-child) f.vertex_in)
      | inr o ↦ subst (λ (z : ℕ). z < g.vertex_count) (sym (parent-kept u o)) (b.grown.parent_in u o (omega (arith, depth-kept u o)))
    ];
    parent_visited = λ u h d. elim (visited-cases u h) [
      | inl q ↦ subst (λ (z : ℕ). is_marked visited' (get_or parent' z 0) ≡ true) (sym q) (subst (λ (z : ℕ). is_marked visited' z ≡ true) (sym parent-child) (visited-kept v visited-here))
      | inr o ↦ subst (λ (z : ℕ). is_marked visited' z ≡ true) (sym (parent-kept u o)) (visited-kept (get_or s.parent u 0) (b.grown.parent_visited u o (omega (arith, depth-kept u o))))
    ];
    parent_depth = λ u h d. elim (visited-cases u h) [
      | inl q ↦ subst (λ (z : ℕ). get_or depth' (get_or parent' z 0) 0 + 1 ≡ get_or depth' z 0) (sym q) (subst (λ (z : ℕ). get_or depth' z 0 + 1 ≡ get_or depth' w 0) (sym parent-child) (omega (arith, depth-child, depth-kept v visited-here)))
      | inr o ↦
          let x : 0 < get_or s.depth u 0 = omega (arith, depth-kept u o) in
          subst (λ (z : ℕ). get_or depth' z 0 + 1 ≡ get_or depth' u 0) (sym (parent-kept u o)) (omega (arith, depth-kept u o, depth-kept (get_or s.parent u 0) (b.grown.parent_visited u o x), b.grown.parent_depth u o x))
    ];
    edge_in = λ u h d. elim (visited-cases u h) [
      | inl q ↦ subst (λ (z : ℕ). get_or parent_edge' z 0 < edge_count g) (sym q) (subst (λ (z : ℕ). z < edge_count g) (sym edge-child) f.edge_in)
      | inr o ↦ subst (λ (z : ℕ). z < edge_count g) (sym (edge-kept u o)) (b.grown.edge_in u o (omega (arith, depth-kept u o)))
    ];
    edge_end = λ u h d. elim (visited-cases u h) [
      | inl q ↦ subst (λ (z : ℕ). is_end g z (get_or parent_edge' z 0) ≡ true) (sym q) (subst (λ (z : ℕ). is_end g w z ≡ true) (sym edge-child) child-end)
      | inr o ↦ subst (λ (z : ℕ). is_end g u z ≡ true) (sym (edge-kept u o)) (b.grown.edge_end u o (omega (arith, depth-kept u o)))
    ];
    edge_leads = λ u h d. elim (visited-cases u h) [
      | inl q ↦ subst (λ (z : ℕ). other_end g (get_or parent_edge' z 0) z ≡ get_or parent' z 0) (sym q) (ap (λ (z : ℕ). other_end g z w) edge-child ∙ (child-leads ∙ sym parent-child))
      | inr o ↦ ap (λ (z : ℕ). other_end g z u) (edge-kept u o) ∙ (b.grown.edge_leads u o (omega (arith, depth-kept u o)) ∙ sym (parent-kept u o))
    ];
    edge_seen = λ u h d. elim (visited-cases u h) [
      | inl q ↦ subst (λ (z : ℕ). is_marked seen' (get_or parent_edge' z 0) ≡ true) (sym q) (subst (λ (z : ℕ). is_marked seen' z ≡ true) (sym edge-child) seen-here)
      | inr o ↦ subst (λ (z : ℕ). is_marked seen' z ≡ true) (sym (edge-kept u o)) (seen-kept (get_or s.parent_edge u 0) (b.grown.edge_seen u o (omega (arith, depth-kept u o))))
    ];
    edge_lower = λ u h d. elim (visited-cases u h) [
      | inl q ↦ subst (λ (z : ℕ). get_or lower' (get_or parent_edge' z 0) 0 ≡ z) (sym q) (ap (λ (z : ℕ). get_or lower' z 0) edge-child ∙ lower-here)
      | inr o ↦
          let x : 0 < get_or s.depth u 0 = omega (arith, depth-kept u o) in
          ap (λ (z : ℕ). get_or lower' z 0) (edge-kept u o) ∙ (lower-kept (get_or s.parent_edge u 0) (b.grown.edge_seen u o x) ∙ b.grown.edge_lower u o x)
    ];
  }

  edges : IsSeen g visited' parent' depth' seen' lower'
  edges = record {
    lower_end = λ q h. elim (seen-cases q h) [
      | inl n ↦ subst (λ (z : ℕ). is_end g (get_or lower' z 0) z ≡ true) (sym n) (subst (λ (z : ℕ). is_end g z e ≡ true) (sym lower-here) child-end)
      | inr o ↦ subst (λ (z : ℕ). is_end g z q ≡ true) (sym (lower-kept q o)) (b.edges.lower_end q o)
    ];
    lower_visited = λ q h. elim (seen-cases q h) [
      | inl n ↦ subst (λ (z : ℕ). is_marked visited' (get_or lower' z 0) ≡ true) (sym n) (subst (λ (z : ℕ). is_marked visited' z ≡ true) (sym lower-here) visited-child)
      | inr o ↦ subst (λ (z : ℕ). is_marked visited' z ≡ true) (sym (lower-kept q o)) (visited-kept (get_or s.lower q 0) (b.edges.lower_visited q o))
    ];
    upper_above = λ q h. elim (seen-cases q h) [
      | inl n ↦ subst (λ (z : ℕ). (c : ℕ) × (c < get_or depth' (get_or lower' z 0) 0) × (iterate (λ r. get_or parent' r 0) (c + 1) (get_or lower' z 0) ≡ other_end g z (get_or lower' z 0))) (sym n)
          (subst (λ (z : ℕ). (c : ℕ) × (c < get_or depth' z 0) × (iterate (λ r. get_or parent' r 0) (c + 1) z ≡ other_end g e z)) (sym lower-here) (0, omega (arith, depth-child), parent-child ∙ sym child-leads))
      | inr o ↦ subst (λ (z : ℕ). (c : ℕ) × (c < get_or depth' z 0) × (iterate (λ r. get_or parent' r 0) (c + 1) z ≡ other_end g q z)) (sym (lower-kept q o)) (upper q o)
    ];
  }
    where
      upper : (q : ℕ) → is_marked s.seen q ≡ true → (c : ℕ) × (c < get_or depth' (get_or s.lower q 0) 0) × (iterate (λ r. get_or parent' r 0) (c + 1) (get_or s.lower q 0) ≡ other_end g q (get_or s.lower q 0))
      upper q o =
          let u = b.edges.upper_above q o in
          let h = b.edges.lower_visited q o in
          (u.0, omega (arith, u.1, depth-kept (get_or s.lower q 0) h), iterate-kept g s.visited s.parent s.depth s.parent_edge s.seen s.lower b.grown parent' parent-kept (u.0 + 1) (get_or s.lower q 0) h (omega (arith, u.1)) ∙ u.2)

  ordered : IsOrdered visited' parent' depth' order'
  unfolding visited' order'
  ordered = record {
    distinct = (order-longer s.visited s.order w w-in f.unvisited b.ordered.distinct b.ordered.members).0;
    members = (order-longer s.visited s.order w w-in f.unvisited b.ordered.distinct b.ordered.members).1;
    behind_parent = λ q l d. elim (cases_lt q (length s.order)) [ inl a ↦ before q a d | inr c ↦ last q (omega (arith, length-append s.order (w ∷ []))) ];
  }
    where
      before : (q : ℕ) → q < length s.order → 0 < get_or depth' (get_or (s.order ++ w ∷ []) q 0) 0 → is_member (get_or parent' (get_or (s.order ++ w ∷ []) q 0) 0) (take q (s.order ++ w ∷ [])) ≡ true
      before q a d =
          let at : get_or (s.order ++ w ∷ []) q 0 ≡ get_or s.order q 0 = get_or_append_left s.order (w ∷ []) 0 q a in
          let o : is_marked s.visited (get_or s.order q 0) ≡ true = sym (b.ordered.members (get_or s.order q 0)) ∙ member-at s.order q 0 a in
          let x : 0 < get_or s.depth (get_or s.order q 0) 0 = omega (arith, depth-kept (get_or s.order q 0) o, ap (λ (z : ℕ). get_or depth' z 0) at, d) in
          let p : get_or parent' (get_or (s.order ++ w ∷ []) q 0) 0 ≡ get_or s.parent (get_or s.order q 0) 0 = ap (λ (z : ℕ). get_or parent' z 0) at ∙ parent-kept (get_or s.order q 0) o in
          let le : q ≤ length s.order = omega arith in
          subst (λ (z : ℕ). is_member z (take q (s.order ++ w ∷ [])) ≡ true) (sym p)
          (subst (λ (l : List ℕ). is_member (get_or s.parent (get_or s.order q 0) 0) l ≡ true) (sym (take-append-le q s.order (w ∷ []) le)) (b.ordered.behind_parent q a x))

      last : (q : ℕ) → q ≡ length s.order → is_member (get_or parent' (get_or (s.order ++ w ∷ []) q 0) 0) (take q (s.order ++ w ∷ [])) ≡ true
      last q c =
          let p : get_or parent' (get_or (s.order ++ w ∷ []) q 0) 0 ≡ v = ap (λ (z : ℕ). get_or parent' z 0) (get_or_push s.order w 0 q (sym c)) ∙ parent-child in
          let t : take q (s.order ++ w ∷ []) ≡ s.order = ap (λ (z : ℕ). take z (s.order ++ w ∷ [])) c ∙ take-append_seam s.order (w ∷ []) in
          subst (λ (z : ℕ). is_member z (take q (s.order ++ w ∷ [])) ≡ true) (sym p)
          (subst (λ (l : List ℕ). is_member v l ≡ true) (sym t) (b.ordered.members v ∙ visited-here))

  -- what holds between turns is kept
  pub child-forest : IsForest g (child_noted s v e w)
  unfolding visited' parent' depth' parent_edge' seen' lower' path' order'
  child-forest = record {
    places = record {
      visited = length-set s.visited w true ∙ b.places.visited;
      parent = length-set s.parent w v ∙ b.places.parent;
      depth = length-set s.depth w (get_or s.depth v 0 + 1) ∙ b.places.depth;
      parent_edge = length-set s.parent_edge w e ∙ b.places.parent_edge;
      position = b.places.position;
      seen = length-set s.seen e true ∙ b.places.seen;
      lower = length-set s.lower e w ∙ b.places.lower;
    };
    on_path = on_path;
    grown = grown;
    looked = record {
      within = b.looked.within;
      looked = λ u l q h. seen-kept (get_or (incident_edges g u) q 0) (b.looked.looked u l q h);
      finished = λ u h. elim (visited-cases u h) [
        | inl q ↦ inr (subst (OnPath path') (sym q) on-child)
        | inr o ↦ elim (b.looked.finished u o) [ inl a ↦ inl a | inr p ↦ inr (on-kept u p) ]
      ];
    };
    edges = edges;
    ordered = ordered;
  }

  -- a root that was visited then was one before
  pub child-roots : (u : ℕ) → is_marked (set s.visited w true) u ≡ true → get_or (set s.depth w (get_or s.depth v 0 + 1)) u 0 ≡ 0 → (is_marked s.visited u ≡ true) × (get_or s.depth u 0 ≡ 0)
  unfolding visited' depth'
  child-roots u h d = elim (visited-cases u h) [
    | inl q ↦ absurd (omega (arith, d, depth-child, ap (λ (z : ℕ). get_or depth' z 0) q))
    | inr o ↦ (o, sym (depth-kept u o) ∙ d)
  ]
