-- One more edge was looked at: what holds between turns is kept, and there is less to look at.
use Rattle.std.proofs.Common.{◌≡◌, ◌≢◌, ℕ, zero, suc, ◌+◌, ◌<◌, ◌≤◌, inl, inr, true, List, length, get_or, set, refl, sym, ap, ◌∙◌, subst, arith, length-set}
use Rattle.std.proofs.lemmas.Bool.{cases_eq}
use Rattle.multigraph.specs.Graph.{Multigraph, incident_edges}
use Rattle.search_forest.specs.Forest.{ForestState, looked_further, IsForest}
use Rattle.multigraph.specs.Marks.{is_marked}
use Rattle.search_forest.specs.Forest.{degree, HasPlaces, IsLooked, OnPath, looks_left}
use Rattle.search_forest.proofs.Writes.{number-same, number-other}

-- the edges looked at, with one more at v, a vertex of the path
further-looked : (g : Multigraph) (s : ForestState) (v : ℕ) → v < g.vertex_count → HasPlaces g s → IsLooked g s.visited s.position s.seen s.path → OnPath s.path v → get_or s.position v 0 < degree g v → is_marked s.seen (get_or (incident_edges g v) (get_or s.position v 0) 0) ≡ true → IsLooked g s.visited (set s.position v (get_or s.position v 0 + 1)) s.seen s.path
further-looked g s v l h k o d e = record {
  within = λ u m. elim (cases_eq u v) [
    | inl i ↦ subst (λ (z : ℕ). get_or (set s.position v (get_or s.position v 0 + 1)) z 0 ≤ degree g z) (sym i) (omega (arith, number-same s.position v (get_or s.position v 0 + 1) w))
    | inr n ↦ omega (arith, number-other s.position v u (get_or s.position v 0 + 1) n, k.within u m)
  ];
  looked = λ u m j t. elim (cases_eq u v) [
    | inl i ↦ at u i j t
    | inr n ↦ k.looked u m j (omega (arith, number-other s.position v u (get_or s.position v 0 + 1) n, t))
  ];
  finished = λ u t. elim (cases_eq u v) [
    | inl i ↦ inr (subst (OnPath s.path) (sym i) o)
    | inr n ↦ elim (k.finished u t) [ inl f ↦ inl (number-other s.position v u (get_or s.position v 0 + 1) n ∙ f) | inr p ↦ inr p ]
  ];
}
  where
    w : v < length s.position
    w = omega (arith, h.position)

    at : (u : ℕ) → u ≡ v → (j : ℕ) → j < get_or (set s.position v (get_or s.position v 0 + 1)) u 0 → is_marked s.seen (get_or (incident_edges g u) j 0) ≡ true
    at u i j t =
        let m : j < get_or s.position v 0 + 1 = omega (arith, t, ap (λ (z : ℕ). get_or (set s.position v (get_or s.position v 0 + 1)) z 0) i, number-same s.position v (get_or s.position v 0 + 1) w) in
        subst (λ (z : ℕ). is_marked s.seen (get_or (incident_edges g z) j 0) ≡ true) (sym i)
        (elim (cases_eq j (get_or s.position v 0)) [
          | inl q ↦ subst (λ (z : ℕ). is_marked s.seen (get_or (incident_edges g v) z 0) ≡ true) (sym q) e
          | inr n ↦ k.looked v l j (omega arith)
        ])

-- what holds between turns is kept
pub further-forest : (g : Multigraph) (s : ForestState) (v : ℕ) → v < g.vertex_count → IsForest g s → OnPath s.path v → get_or s.position v 0 < degree g v → is_marked s.seen (get_or (incident_edges g v) (get_or s.position v 0) 0) ≡ true → IsForest g (looked_further s v)
further-forest g s v l k o d e = record {
  places = record {
    visited = k.places.visited;
    parent = k.places.parent;
    depth = k.places.depth;
    parent_edge = k.places.parent_edge;
    position = length-set s.position v (get_or s.position v 0 + 1) ∙ k.places.position;
    seen = k.places.seen;
    lower = k.places.lower;
  };
  on_path = k.on_path;
  grown = k.grown;
  looked = further-looked g s v l k.places k.looked o d e;
  edges = k.edges;
  ordered = k.ordered;
}

-- the looks left below a number stay where the writing is elsewhere
looks-other : (g : Multigraph) (position : List ℕ) (v x n : ℕ) → n ≤ v → looks_left g (set position v x) n ≡ looks_left g position n
looks-other g position v x zero h = refl
looks-other g position v x (suc n) h =
    let ne : n ≢ v = omega arith in
    omega (arith, looks-other g position v x n (omega arith), number-other position v n x ne)

-- one look fewer is left
pub looks-fewer : (g : Multigraph) (position : List ℕ) (v n : ℕ) → v < n → v < length position → get_or position v 0 < degree g v → looks_left g (set position v (get_or position v 0 + 1)) n + 1 ≡ looks_left g position n
looks-fewer g position v zero h l d = absurd (omega arith)
looks-fewer g position v (suc n) h l d = elim (cases_eq n v) [
  | inl e ↦
      let same : get_or (set position v (get_or position v 0 + 1)) n 0 ≡ get_or position v 0 + 1 = ap (λ (z : ℕ). get_or (set position v (get_or position v 0 + 1)) z 0) e ∙ number-same position v (get_or position v 0 + 1) l in
      omega (arith, same, looks-other g position v (get_or position v 0 + 1) n (omega arith), ap (degree g) e, ap (λ (z : ℕ). get_or position z 0) e)
  | inr ne ↦ omega (arith, looks-fewer g position v n (omega arith) l d, number-other position v n (get_or position v 0 + 1) ne)
]
