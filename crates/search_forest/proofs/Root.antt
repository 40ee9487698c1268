-- A root was visited, while the path was empty: what holds between turns is kept.
use Rattle.std.proofs.Common.{◌≡◌, ◌≢◌, ℕ, ◌+◌, ◌<◌, ◌≤◌, ◌⊎◌, inl, inr, Bool, true, false, List, [], ◌∷◌, ◌++◌, length, take, get_or, set, sym, ap, ◌∙◌, subst, arith, length-set, length-append}
use Rattle.std.proofs.lemmas.Bool.{cases_lt}
use Rattle.std.proofs.lemmas.List.{get_or_append_left, get_or_push, take-append-le}
use Rattle.permutations.specs.Members.{is_member}
use Rattle.permutations.proofs.Arrangements.{member-at}
use Rattle.multigraph.specs.Graph.{Multigraph}
use Rattle.search_forest.specs.Forest.{ForestState, root_noted, IsForest}
use Rattle.multigraph.specs.Marks.{is_marked}
use Rattle.search_forest.specs.Forest.{IsOnPath, IsGrown, IsSeen, IsOrdered, OnPath}
use Rattle.search_forest.proofs.Writes.{number-same, number-other, marked-same, marked-cases, marked-kept, marks-differ}
use Rattle.search_forest.proofs.Child.{on-last, order-longer}

module _ (g : Multigraph) (s : ForestState) (r : ℕ) (b : IsForest g s) (rl : r < g.vertex_count) (unvisited : is_marked s.visited r ≡ false) (empty : s.path ≡ []) where
  visited' : List Bool
  visited' = set s.visited r true

  depth' : List ℕ
  depth' = set s.depth r 0

  path' : List ℕ
  path' = s.path ++ r ∷ []

  r-in : r < length s.visited
  r-in = omega (arith, rl, b.places.visited)

  other : (u : ℕ) → is_marked s.visited u ≡ true → u ≢ r
  other u h = marks-differ s.visited u r h unvisited

  visited-cases : (u : ℕ) → is_marked visited' u ≡ true → (u ≡ r) ⊎ (is_marked s.visited u ≡ true)
  unfolding visited'
  visited-cases u h = marked-cases s.visited r u h

  visited-kept : (u : ℕ) → is_marked s.visited u ≡ true → is_marked visited' u ≡ true
  unfolding visited'
  visited-kept u h = marked-kept s.visited r u r-in h

  visited-root : is_marked visited' r ≡ true
  unfolding visited'
  visited-root = marked-same s.visited r r-in

  depth-kept : (u : ℕ) → is_marked s.visited u ≡ true → get_or depth' u 0 ≡ get_or s.depth u 0
  unfolding depth'
  depth-kept u h = number-other s.depth r u 0 (other u h)

  depth-root : get_or depth' r 0 ≡ 0
  unfolding depth'
  depth-root = number-same s.depth r 0 (omega (arith, rl, b.places.depth))

  -- the path is the root alone
  path-is : path' ≡ r ∷ []
  unfolding path'
  path-is = ap (λ (l : List ℕ). l ++ r ∷ []) empty

  path-first : (j : ℕ) → j < length path' → j ≡ 0
  path-first j l = omega (arith, ap length path-is)

  path-root : (j : ℕ) → j < length path' → get_or path' j 0 ≡ r
  path-root j l = ap (λ (z : ℕ). get_or path' z 0) (path-first j l) ∙ ap (λ (q : List ℕ). get_or q 0 0) path-is

  on-root : OnPath path' r
  unfolding path'
  on-root = on-last s.path r

  -- nothing is on the path before
  off : (u : ℕ) → OnPath s.path u → ⊥
  off u o = absurd (omega (arith, o.within, ap length empty))

  -- a vertex deeper than a root is not the root
  deep-visited : (u : ℕ) → is_marked visited' u ≡ true → 0 < get_or depth' u 0 → is_marked s.visited u ≡ true
  deep-visited u h d = elim (visited-cases u h) [ inl q ↦ absurd (omega (arith, d, depth-root, ap (λ (z : ℕ). get_or depth' z 0) q)) | inr o ↦ o ]

  deep-old : (u : ℕ) → (h : is_marked visited' u ≡ true) → (d : 0 < get_or depth' u 0) → 0 < get_or s.depth u 0
  deep-old u h d = omega (arith, d, depth-kept u (deep-visited u h d))

  on_path : IsOnPath g visited' s.parent depth' path'
  on_path = record {
    within = λ j l. subst (λ (z : ℕ). z < g.vertex_count) (sym (path-root j l)) rl;
    visits = λ j l. subst (λ (z : ℕ). is_marked visited' z ≡ true) (sym (path-root j l)) visited-root;
    deep = λ j l. ap (λ (z : ℕ). get_or depth' z 0) (path-root j l) ∙ (depth-root ∙ sym (path-first j l));
    from_parent = λ j l. absurd (omega (arith, path-first (j + 1) l));
  }

  grown : IsGrown g visited' s.parent depth' s.parent_edge s.seen s.lower
  grown = record {
    parent_in = λ u h d. b.grown.parent_in u (deep-visited u h d) (deep-old u h d);
    parent_visited = λ u h d. visited-kept (get_or s.parent u 0) (b.grown.parent_visited u (deep-visited u h d) (deep-old u h d));
    parent_depth = λ u h d. let o = deep-visited u h d in let x = deep-old u h d in omega (arith, depth-kept u o, depth-kept (get_or s.parent u 0) (b.grown.parent_visited u o x), b.grown.parent_depth u o x);
    edge_in = λ u h d. b.grown.edge_in u (deep-visited u h d) (deep-old u h d);
    edge_end = λ u h d. b.grown.edge_end u (deep-visited u h d) (deep-old u h d);
    edge_leads = λ u h d. b.grown.edge_leads u (deep-visited u h d) (deep-old u h d);
    edge_seen = λ u h d. b.grown.edge_seen u (deep-visited u h d) (deep-old u h d);
    edge_lower = λ u h d. b.grown.edge_lower u (deep-visited u h d) (deep-old u h d);
  }

  edges : IsSeen g visited' s.parent depth' s.seen s.lower
  edges = record {
    lower_end = b.edges.lower_end;
    lower_visited = λ e h. visited-kept (get_or s.lower e 0) (b.edges.lower_visited e h);
    upper_above = λ e h. let u = b.edges.upper_above e h in (u.0, omega (arith, u.1, depth-kept (get_or s.lower e 0) (b.edges.lower_visited e h)), u.2);
  }

  ordered : IsOrdered visited' s.parent depth' (s.order ++ r ∷ [])
  unfolding visited'
  ordered = record {
    distinct = (order-longer s.visited s.order r r-in unvisited b.ordered.distinct b.ordered.members).0;
    members = (order-longer s.visited s.order r r-in unvisited b.ordered.distinct b.ordered.members).1;
    behind_parent = λ q l d. elim (cases_lt q (length s.order)) [ inl a ↦ before q a d | inr c ↦ absurd (last q (omega (arith, length-append s.order (r ∷ []))) d) ];
  }
    where
      before : (q : ℕ) → q < length s.order → 0 < get_or depth' (get_or (s.order ++ r ∷ []) q 0) 0 → is_member (get_or s.parent (get_or (s.order ++ r ∷ []) q 0) 0) (take q (s.order ++ r ∷ [])) ≡ true
      before q a d =
          let at : get_or (s.order ++ r ∷ []) q 0 ≡ get_or s.order q 0 = get_or_append_left s.order (r ∷ []) 0 q a in
          let o : is_marked s.visited (get_or s.order q 0) ≡ true = sym (b.ordered.members (get_or s.order q 0)) ∙ member-at s.order q 0 a in
          let x : 0 < get_or s.depth (get_or s.order q 0) 0 = omega (arith, depth-kept (get_or s.order q 0) o, ap (λ (z : ℕ). get_or depth' z 0) at, d) in
          let le : q ≤ length s.order = omega arith in
          subst (λ (z : ℕ). is_member (get_or s.parent z 0) (take q (s.order ++ r ∷ [])) ≡ true) (sym at)
          (subst (λ (l : List ℕ). is_member (get_or s.parent (get_or s.order q 0) 0) l ≡ true) (sym (take-append-le q s.order (r ∷ []) le)) (b.ordered.behind_parent q a x))

      last : (q : ℕ) → q ≡ length s.order → 0 < get_or depth' (get_or (s.order ++ r ∷ []) q 0) 0 → ⊥
      last q c d = absurd (omega (arith, d, ap (λ (z : ℕ). get_or depth' z 0) (get_or_push s.order r 0 q (sym c)), depth-root))

  -- what holds between turns is kept
  pub root-forest : IsForest g (root_noted s r)
  unfolding visited' depth' path'
  root-forest = record {
    places = record {
      visited = length-set s.visited r true ∙ b.places.visited;
      parent = b.places.parent;
      depth = length-set s.depth r 0 ∙ b.places.depth;
      parent_edge = b.places.parent_edge;
      position = b.places.position;
      seen = b.places.seen;
      lower = b.places.lower;
    };
    on_path = on_path;
    grown = grown;
    looked = record {
      within = b.looked.within;
      looked = b.looked.looked;
      finished = λ u h. elim (visited-cases u h) [
        | inl q ↦ inr (subst (OnPath path') (sym q) on-root)
        | inr o ↦ elim (b.looked.finished u o) [ inl a ↦ inl a | inr p ↦ absurd (off u p) ]
      ];
    };
    edges = edges;
    ordered = ordered;
  }

  -- a root that was visited then is this one or was one before
  pub root-roots : (u : ℕ) → is_marked (set s.visited r true) u ≡ true → get_or (set s.depth r 0) u 0 ≡ 0 → (u ≡ r) ⊎ ((is_marked s.visited u ≡ true) × (get_or s.depth u 0 ≡ 0))
  unfolding visited' depth'
  root-roots u h d = elim (visited-cases u h) [ inl q ↦ inl q | inr o ↦ inr (o, sym (depth-kept u o) ∙ d) ]
