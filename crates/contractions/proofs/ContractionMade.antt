-- The contraction of an edge, as it is made, is one.
use Rattle.std.proofs.Common.{◌≡◌, ◌≢◌, ℕ, ◌+◌, ◌-◌, ◌<◌, ◌≤◌, ◌⊎◌, inl, inr, true, length, refl, sym, ap, ◌∙◌, subst, arith}
use Rattle.std.proofs.lemmas.Bool.{cases_eq, cases_lt, eq-eqb, ne_eqb, lt-ltb, le-ltb}
use Rattle.std.proofs.lemmas.List.{length-map, get_or-map, get_or_default}
use Rattle.multigraph.specs.Graph.{Multigraph, edge_count, is_end, other_end, IsGraph}
use Rattle.multigraph.proofs.Below.{filter_below-at, filter_below-has, filter_below-once}
use Rattle.multigraph.proofs.OtherEnd.{other_end-in, other_end-differs, end-in}
use Rattle.contractions.specs.Contraction.{is_kept, IsContraction}
use Rattle.contractions.specs.Contracted.{without_number, contracted_vertex, kept_edges, contracted_edge, contracted_ends, contracted}

-- a number above the one that is left out falls by one
without-above : (y v : ℕ) → y < v → without_number y v + 1 ≡ v
without-above y v l = rw (lt-ltb y v l) (omega arith)

-- another one stays
without-below : (y v : ℕ) → v ≤ y → without_number y v ≡ v
without-below y v l = rw (le-ltb y v l) refl

-- y becomes what x does
vertex-second : (x y : ℕ) → contracted_vertex x y y ≡ without_number y x
vertex-second x y = rw (eq-eqb y y refl) refl

-- the others lose but y's number
vertex-other : (x y v : ℕ) → v ≢ y → contracted_vertex x y v ≡ without_number y v
vertex-other x y v n = rw (ne_eqb v y n) refl

-- numbers that become the same without y's, and are not y, are the same
without-once : (y u v : ℕ) → u ≢ y → v ≢ y → without_number y u ≡ without_number y v → u ≡ v
without-once y u v m n d = elim (cases_lt y u) [
  | inl a ↦ elim (cases_lt y v) [ inl b ↦ omega (arith, without-above y u a, without-above y v b) | inr b ↦ absurd (omega (arith, without-above y u a, without-below y v b)) ]
  | inr a ↦ elim (cases_lt y v) [ inl b ↦ absurd (omega (arith, without-below y u a, without-above y v b)) | inr b ↦ omega (arith, without-below y u a, without-below y v b) ]
]

-- what a vertex other than y becomes is a vertex
without-in : (n y v : ℕ) → y < n → v < n → v ≢ y → without_number y v < n - 1
without-in n y v l m o = elim (cases_lt y v) [ inl a ↦ omega (arith, without-above y v a) | inr a ↦ omega (arith, without-below y v a) ]

-- each number comes from one that is not y
without-met : (n y w : ℕ) → w < n - 1 → (v : ℕ) × (v < n) × (v ≢ y) × (without_number y v ≡ w)
without-met n y w l = elim (cases_lt w y) [
  | inl a ↦ (w, omega arith, (λ d. omega arith), without-below y w (omega arith))
  | inr a ↦ (w + 1, omega arith, (λ d. omega arith), omega (arith, without-above y (w + 1) (omega arith)))
]

-- the contraction of an edge of a graph, as it is made, is one
pub contracted-is : (g : Multigraph) → IsGraph g → (e x y : ℕ) → e < edge_count g → is_end g x e ≡ true → other_end g e x ≡ y
    → IsContraction g (contracted g e x y) e x y (contracted_edge g e x y) (contracted_vertex x y)
contracted-is g i e x y l a b = record {
  edge_in = l;
  first_end = a;
  second_end = b;
  fewer = omega (arith, x_in);
  vertices = λ v m. elim (cases_eq v y) [
    | inl d ↦ subst (λ (q : ℕ). contracted_vertex x y q < g.vertex_count - 1) (sym d) (subst (λ (q : ℕ). q < g.vertex_count - 1) (sym (vertex-second x y)) (without-in g.vertex_count y x y_in x_in apart))
    | inr n ↦ subst (λ (q : ℕ). q < g.vertex_count - 1) (sym (vertex-other x y v n)) (without-in g.vertex_count y v y_in m n)
  ];
  merged = vertex-other x y x apart ∙ sym (vertex-second x y);
  vertices_once = once;
  vertices_met = λ w m. let v = without-met g.vertex_count y w m in (v.0, v.1, v.2, vertex-other x y v.0 v.2 ∙ v.3);
  edges = λ k m. (at k m).0;
  edges_once = λ j k m n d. filter_below-once (is_kept g e x y) (edge_count g) j k 0 (inside j m) (inside k n) d;
  edges_kept = λ k m. (at k m).1;
  edges_met = λ f m k.
      let c = filter_below-has (is_kept g e x y) (edge_count g) f m k in
      (c.0, subst (λ (q : ℕ). c.0 < q) (sym counted) c.1, get_or_default (kept_edges g e x y) c.0 0 f c.1 ∙ c.2);
  first_ends = λ k m. ap (λ (p : ℕ × ℕ). p.0) (get_or-map (contracted_ends g x y) (kept_edges g e x y) k 0 (0, 0) (inside k m));
  second_ends = λ k m. ap (λ (p : ℕ × ℕ). p.1) (get_or-map (contracted_ends g x y) (kept_edges g e x y) k 0 (0, 0) (inside k m));
}
  where
    x_in : x < g.vertex_count
    x_in = end-in g x e i l a

    y_in : y < g.vertex_count
    y_in = subst (λ (q : ℕ). q < g.vertex_count) b (other_end-in g e x i l)

    apart : x ≢ y
    apart d = other_end-differs g e x i l a (b ∙ sym d)

    once : (u v : ℕ) → u < g.vertex_count → v < g.vertex_count → contracted_vertex x y u ≡ contracted_vertex x y v → (u ≡ v) ⊎ (((u ≡ x) × (v ≡ y)) ⊎ ((u ≡ y) × (v ≡ x)))
    once u v m n d = elim (cases_eq u y) [
      | inl p ↦ elim (cases_eq v y) [
        | inl q ↦ inl (p ∙ sym q)
        | inr q ↦ inr (inr (p, sym (without-once y x v apart q (sym (vertex-second x y) ∙ (ap (contracted_vertex x y) (sym p) ∙ (d ∙ vertex-other x y v q))))))
      ]
      | inr p ↦ elim (cases_eq v y) [
        | inl q ↦ inr (inl (without-once y u x p apart (sym (vertex-other x y u p) ∙ (d ∙ (ap (contracted_vertex x y) q ∙ vertex-second x y))), q))
        | inr q ↦ inl (without-once y u v p q (sym (vertex-other x y u p) ∙ (d ∙ vertex-other x y v q)))
      ]
    ]

    counted : edge_count (contracted g e x y) ≡ length (kept_edges g e x y)
    counted = length-map (kept_edges g e x y) (contracted_ends g x y)

    inside : (k : ℕ) → k < edge_count (contracted g e x y) → k < length (kept_edges g e x y)
    inside k m = subst (λ (q : ℕ). k < q) counted m

    at : (k : ℕ) → k < edge_count (contracted g e x y) → (contracted_edge g e x y k < edge_count g) × (is_kept g e x y (contracted_edge g e x y k) ≡ true)
    at k m = filter_below-at (is_kept g e x y) (edge_count g) k 0 (inside k m)
