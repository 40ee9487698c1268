-- The last vertex of the path was left: what holds between turns is kept.
use Rattle.std.proofs.Common.{◌≡◌, ℕ, ◌+◌, ◌-◌, ◌<◌, ◌≤◌, ◌⊎◌, inl, inr, true, List, length, take, get_or, sym, ap, ◌∙◌, subst, arith}
use Rattle.std.proofs.lemmas.Bool.{cases_lt}
use Rattle.std.proofs.lemmas.List.{get_or-take, length-take-le}
use Rattle.multigraph.specs.Graph.{Multigraph}
use Rattle.search_forest.specs.Forest.{ForestState, left, IsForest}
use Rattle.multigraph.specs.Marks.{is_marked}
use Rattle.search_forest.specs.Forest.{degree, IsOnPath, IsLooked, OnPath}

-- v is the last vertex of the path, at place k, and all its edges were looked at
pub record IsDone (g : Multigraph) (s : ForestState) (v k : ℕ) : Type 0 where
  pub last : length s.path ≡ k + 1
  pub here : get_or s.path k 0 ≡ v
  pub looked : get_or s.position v 0 ≡ degree g v

module _ (g : Multigraph) (s : ForestState) (v k : ℕ) (b : IsForest g s) (f : IsDone g s v k) where
  path' : List ℕ
  path' = take (length s.path - 1) s.path

  path-length : length path' ≡ k
  unfolding path'
  path-length =
      let le : length s.path - 1 ≤ length s.path = omega arith in
      omega (arith, length-take-le (length s.path - 1) s.path le, f.last)

  path-at : (j : ℕ) → j < k → get_or path' j 0 ≡ get_or s.path j 0
  unfolding path'
  path-at j l =
      let lt : j < length s.path - 1 = omega (arith, f.last) in
      get_or-take (length s.path - 1) s.path j 0 lt

  -- a vertex of the path is the one that is left, or on the shorter path
  on-cases : (u : ℕ) → OnPath s.path u → (u ≡ v) ⊎ OnPath path' u
  on-cases u o = elim (cases_lt o.place k) [
    | inl a ↦ inr (record { place = o.place; within = omega (arith, path-length); is = path-at o.place a ∙ o.is })
    | inr c ↦ let q : o.place ≡ k = omega (arith, o.within, f.last) in inl (sym o.is ∙ (ap (λ (z : ℕ). get_or s.path z 0) q ∙ f.here))
  ]

  on_path : IsOnPath g s.visited s.parent s.depth path'
  on_path = record {
    within = λ j l. let m : j < k = omega (arith, path-length) in subst (λ (z : ℕ). z < g.vertex_count) (sym (path-at j m)) (b.on_path.within j (omega (arith, f.last)));
    visits = λ j l. let m : j < k = omega (arith, path-length) in subst (λ (z : ℕ). is_marked s.visited z ≡ true) (sym (path-at j m)) (b.on_path.visits j (omega (arith, f.last)));
    deep = λ j l. let m : j < k = omega (arith, path-length) in ap (λ (z : ℕ). get_or s.depth z 0) (path-at j m) ∙ b.on_path.deep j (omega (arith, f.last));
    from_parent = λ j l.
        let m : j + 1 < k = omega (arith, path-length) in
        ap (λ (z : ℕ). get_or s.parent z 0) (path-at (j + 1) m) ∙ (b.on_path.from_parent j (omega (arith, f.last)) ∙ sym (path-at j (omega arith)));
  }

  looked : IsLooked g s.visited s.position s.seen path'
  looked = record {
    within = b.looked.within;
    looked = b.looked.looked;
    finished = λ u h. elim (b.looked.finished u h) [
      | inl a ↦ inl a
      | inr o ↦ elim (on-cases u o) [ inl q ↦ inl (subst (λ (z : ℕ). get_or s.position z 0 ≡ degree g z) (sym q) f.looked) | inr p ↦ inr p ]
    ];
  }

  -- what holds between turns is kept
  pub left-forest : IsForest g (left s)
  unfolding path'
  left-forest = record {
    places = record {
      visited = b.places.visited;
      parent = b.places.parent;
      depth = b.places.depth;
      parent_edge = b.places.parent_edge;
      position = b.places.position;
      seen = b.places.seen;
      lower = b.places.lower;
    };
    on_path = on_path;
    grown = b.grown;
    looked = looked;
    edges = b.edges;
    ordered = b.ordered;
  }
