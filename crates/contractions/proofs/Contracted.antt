-- A contraction of a simple graph is a simple graph, and its edges have the ends that they came from.
use Rattle.std.proofs.Common.{◌≡◌, ◌≢◌, ℕ, ◌<◌, ◌≤◌, inl, inr, true, refl, sym, ap, ◌∙◌, subst, arith}
use Rattle.std.proofs.lemmas.Bool.{both_ways}
use Rattle.permutations.proofs.Count.{count-all}
use Rattle.permutations.proofs.Injection.{count-injection}
use Rattle.multigraph.specs.Graph.{Multigraph, edge_count, ends_of, is_end, other_end, IsGraph, IsWithinLimits}
use Rattle.multigraph.proofs.OtherEnd.{is_end-first, is_end-second, is_end-cases, is_end-from_first, is_end-from_second, other_end-of_first, other_end-of_second, other_end-in, other_end-is_end, other_end-twice, other_end-differs, end-in}
use Rattle.graph_theory.specs.Triconnected.{IsSimple}
use Rattle.contractions.specs.Contraction.{are_adjacent, is_kept, IsContraction}
use Rattle.contractions.proofs.Joined.{joined-from, joined-turned, simple-same, kept-other, kept-apart}

module _ (g h : Multigraph) (i : IsGraph g) (s : IsSimple g) (e x y : ℕ) (edge vertex : ℕ → ℕ) (c : IsContraction g h e x y edge vertex) where
  -- the ends of the contracted edge are vertices
  pub first-in : x < g.vertex_count
  first-in = end-in g x e i c.edge_in c.first_end

  pub second-in : y < g.vertex_count
  second-in = subst (λ (q : ℕ). q < g.vertex_count) c.second_end (other_end-in g e x i c.edge_in)

  -- two different ones
  pub ends-apart : x ≢ y
  ends-apart = λ d. other_end-differs g e x i c.edge_in c.first_end (c.second_end ∙ sym d)

  -- the second is an end, and the other one from there is the first
  pub second-end : is_end g y e ≡ true
  second-end = subst (λ (q : ℕ). is_end g q e ≡ true) c.second_end (other_end-is_end g e x)

  pub second-other : other_end g e y ≡ x
  second-other = ap (other_end g e) (sym c.second_end) ∙ other_end-twice g e x i c.edge_in c.first_end

  -- no edge that stays joins the two
  kept-not_first : (f p : ℕ) → f < edge_count g → is_kept g e x y f ≡ true → is_end g p f ≡ true → p ≡ x → other_end g f p ≡ y → ⊥
  kept-not_first f p l k o a b = kept-other g e x y f k (simple-same g s f e x l c.edge_in (subst (λ (q : ℕ). is_end g q f ≡ true) a o) c.first_end
      (ap (other_end g f) (sym a) ∙ (b ∙ sym c.second_end)))

  kept-not_second : (f p : ℕ) → f < edge_count g → is_kept g e x y f ≡ true → is_end g p f ≡ true → p ≡ y → other_end g f p ≡ x → ⊥
  kept-not_second f p l k o a b = kept-other g e x y f k (simple-same g s f e y l c.edge_in (subst (λ (q : ℕ). is_end g q f ≡ true) a o) second-end
      (ap (other_end g f) (sym a) ∙ (b ∙ sym second-other)))

  -- from no vertex two edges that stay lead to x and to y
  never_both : (f k p : ℕ) → f < edge_count g → k < edge_count g → is_kept g e x y k ≡ true → is_end g p f ≡ true → is_end g p k ≡ true → other_end g f p ≡ x → other_end g k p ≡ y → ⊥
  never_both f k p l m kk a b fx ky =
      let back : other_end g k y ≡ p = ap (other_end g k) (sym ky) ∙ other_end-twice g k p i m b in
      let j : are_adjacent g x p ≡ true = joined-turned g i p x (subst (λ (q : ℕ). are_adjacent g p q ≡ true) fx (joined-from g f p l a)) in
      both_ways (are_adjacent g x (other_end g k y))
      (kept-apart g e x y k kk (subst (λ (q : ℕ). is_end g q k ≡ true) ky (other_end-is_end g k p)))
      (subst (λ (q : ℕ). are_adjacent g x q ≡ true) (sym back) j)

  -- edges that stay with ends that become the same are one
  kept-once : (f k p q : ℕ) → f < edge_count g → k < edge_count g → is_kept g e x y f ≡ true → is_kept g e x y k ≡ true → is_end g p f ≡ true → is_end g q k ≡ true
      → vertex p ≡ vertex q → vertex (other_end g f p) ≡ vertex (other_end g k q) → f ≡ k
  kept-once f k p q l m kf kk a b v w = elim (c.vertices_once p q (end-in g p f i l a) (end-in g q k i m b) v) [
    | inl d ↦ elim (c.vertices_once (other_end g f p) (other_end g k q) (other_end-in g f p i l) (other_end-in g k q i m) w) [
      | inl o ↦ simple-same g s f k p l m a (subst (λ (r : ℕ). is_end g r k ≡ true) (sym d) b) (o ∙ ap (other_end g k) (sym d))
      | inr n ↦ elim n [
        | inl o ↦ absurd (never_both f k p l m kk a (subst (λ (r : ℕ). is_end g r k ≡ true) (sym d) b) o.0 (ap (other_end g k) d ∙ o.1))
        | inr o ↦ absurd (never_both k f p m l kf (subst (λ (r : ℕ). is_end g r k ≡ true) (sym d) b) a (ap (other_end g k) d ∙ o.1) o.0)
      ]
    ]
    | inr d ↦ elim (c.vertices_once (other_end g f p) (other_end g k q) (other_end-in g f p i l) (other_end-in g k q i m) w) [
      | inl o ↦
          let fb : other_end g f (other_end g f p) ≡ p = other_end-twice g f p i l a in
          let kb : other_end g k (other_end g f p) ≡ q = ap (other_end g k) o ∙ other_end-twice g k q i m b in
          let fe : is_end g (other_end g f p) f ≡ true = other_end-is_end g f p in
          let ke : is_end g (other_end g f p) k ≡ true = subst (λ (r : ℕ). is_end g r k ≡ true) (sym o) (other_end-is_end g k q) in
          elim d [
            | inl r ↦ absurd (never_both f k (other_end g f p) l m kk fe ke (fb ∙ r.0) (kb ∙ r.1))
            | inr r ↦ absurd (never_both k f (other_end g f p) m l kf ke fe (kb ∙ r.1) (fb ∙ r.0))
          ]
      | inr n ↦ absurd (elim d [
        | inl r ↦ elim n [
          | inl o ↦ other_end-differs g f p i l a (o.0 ∙ sym r.0)
          | inr o ↦ kept-not_first f p l kf a r.0 o.0
        ]
        | inr r ↦ elim n [
          | inl o ↦ kept-not_second f p l kf a r.0 o.0
          | inr o ↦ other_end-differs g f p i l a (o.0 ∙ sym r.0)
        ]
      ])
    ]
  ]

  -- an edge that stays is no loop
  no_loop : (f p : ℕ) → f < edge_count g → is_kept g e x y f ≡ true → is_end g p f ≡ true → vertex p ≢ vertex (other_end g f p)
  no_loop f p l k a v = elim (c.vertices_once p (other_end g f p) (end-in g p f i l a) (other_end-in g f p i l) v) [
    | inl d ↦ other_end-differs g f p i l a (sym d)
    | inr n ↦ elim n [ inl o ↦ kept-not_first f p l k a o.0 o.1 | inr o ↦ kept-not_second f p l k a o.0 o.1 ]
  ]

  -- there are no more edges than before
  edge_count-contracted : edge_count h ≤ edge_count g
  edge_count-contracted = omega (
    arith,
    count-injection (edge_count h) (edge_count g) (λ k. true) (λ k. true) edge (λ k l t. c.edges k l) (λ k l t. refl) (λ j k l m t r d. c.edges_once j k l m d),
    count-all (edge_count h) (λ k. true) (λ k l. refl),
    count-all (edge_count g) (λ k. true) (λ k l. refl),
  )

  -- the contraction is a graph
  pub graph-contracted : IsGraph h
  graph-contracted = record {
    first_in = λ k l. subst (λ (q : ℕ). q < h.vertex_count) (sym (c.first_ends k l)) (c.vertices (ends_of g (edge k)).0 (i.first_in (edge k) (c.edges k l)));
    second_in = λ k l. subst (λ (q : ℕ). q < h.vertex_count) (sym (c.second_ends k l)) (c.vertices (ends_of g (edge k)).1 (i.second_in (edge k) (c.edges k l)));
    no_loop = λ k l d. no_loop (edge k) (ends_of g (edge k)).0 (c.edges k l) (c.edges_kept k l) (is_end-first g (edge k))
        (sym (c.first_ends k l) ∙ (d ∙ (c.second_ends k l ∙ ap vertex (sym (other_end-of_first g (edge k) (ends_of g (edge k)).0 refl)))));
  }

  -- and no larger
  pub limits-contracted : IsWithinLimits g → IsWithinLimits h
  limits-contracted limits = record {
    few_vertices = omega (arith, limits.few_vertices, c.fewer);
    few_edges = omega (arith, limits.few_edges, edge_count-contracted);
  }

  -- an end of an edge becomes an end of it
  pub end-forth : (k p : ℕ) → k < edge_count h → is_end g p (edge k) ≡ true → is_end h (vertex p) k ≡ true
  end-forth k p l a = elim (is_end-cases g p (edge k) a) [
    | inl d ↦ is_end-from_first h (vertex p) k (c.first_ends k l ∙ ap vertex d)
    | inr d ↦ is_end-from_second h (vertex p) k (c.second_ends k l ∙ ap vertex d)
  ]

  -- and the other end becomes the other one
  pub other-forth : (k p : ℕ) → k < edge_count h → is_end g p (edge k) ≡ true → other_end h k (vertex p) ≡ vertex (other_end g (edge k) p)
  other-forth k p l a = elim (is_end-cases g p (edge k) a) [
    | inl d ↦ other_end-of_first h k (vertex p) (c.first_ends k l ∙ ap vertex d) ∙ (c.second_ends k l ∙ ap vertex (sym (other_end-of_first g (edge k) p d)))
    | inr d ↦ other_end-of_second h k (vertex p) (c.second_ends k l ∙ ap vertex d) (graph-contracted.no_loop k l)
        ∙ (c.first_ends k l ∙ ap vertex (sym (other_end-of_second g (edge k) p d (i.no_loop (edge k) (c.edges k l)))))
  ]

  -- the contraction is simple
  pub simple-contracted : IsSimple h
  simple-contracted j k l m d = elim d [
    | inl r ↦ c.edges_once j k l m (kept-once (edge j) (edge k) (ends_of g (edge j)).0 (ends_of g (edge k)).0 (c.edges j l) (c.edges k m) (c.edges_kept j l) (c.edges_kept k m)
        (is_end-first g (edge j)) (is_end-first g (edge k))
        (sym (c.first_ends j l) ∙ (r.0 ∙ c.first_ends k m))
        (ap vertex (other_end-of_first g (edge j) (ends_of g (edge j)).0 refl) ∙ (sym (c.second_ends j l) ∙ (r.1 ∙ (c.second_ends k m ∙ ap vertex (sym (other_end-of_first g (edge k) (ends_of g (edge k)).0 refl)))))))
    | inr r ↦ c.edges_once j k l m (kept-once (edge j) (edge k) (ends_of g (edge j)).0 (ends_of g (edge k)).1 (c.edges j l) (c.edges k m) (c.edges_kept j l) (c.edges_kept k m)
        (is_end-first g (edge j)) (is_end-second g (edge k))
        (sym (c.first_ends j l) ∙ (r.0 ∙ c.second_ends k m))
        (ap vertex (other_end-of_first g (edge j) (ends_of g (edge j)).0 refl) ∙ (sym (c.second_ends j l) ∙ (r.1 ∙ (c.first_ends k m ∙ ap vertex (sym (other_end-of_second g (edge k) (ends_of g (edge k)).1 refl (i.no_loop (edge k) (c.edges k m)))))))))
  ]
