-- Systems of paths between vertices, which meet only in these vertices; and how a system of a graph with an edge contracted is
-- lifted to the graph.
use Rattle.std.proofs.Common.{◌≡◌, ◌≢◌, ℕ, ◌<◌, ◌⊎◌, inl, inr, Bool, true, List, map, sym, ap, ◌∙◌, subst}
use Rattle.std.proofs.lemmas.Bool.{cases_eq}
use Rattle.permutations.specs.Members.{is_member}
use Rattle.multigraph.specs.Graph.{Multigraph, IsGraph}
use Rattle.graph_theory.specs.Path.{walk_vertices, IsPath}
use Rattle.contractions.specs.Contraction.{IsContraction}
use Rattle.planarity.specs.Lift.{touches, lifted}
use Rattle.planarity.proofs.LiftPath.{IsLift, lift-walk, lift-path, merged-across}

-- the pairs i, j and k, l are the same, in either order
abbrev pub SamePair : ℕ → ℕ → ℕ → ℕ → Type 0
SamePair i j k l = ((i ≡ k) × (j ≡ l)) ⊎ ((i ≡ l) × (j ≡ k))

-- z is one of the n vertices
abbrev pub IsBranch : ℕ → (ℕ → ℕ) → ℕ → Type 0
IsBranch n at z = (m : ℕ) × (m < n) × (at m ≡ z)

-- n different vertices, and a path for each two of them that are to be joined, which meet only in these vertices, where they end
pub record IsPathSystem (g : Multigraph) (n : ℕ) (joined : ℕ → ℕ → Bool) (at : ℕ → ℕ) (path : ℕ → ℕ → List ℕ) : Type 0 where
  pub branch_in : (i : ℕ) → i < n → at i < g.vertex_count
  pub branch_once : (i j : ℕ) → i < n → j < n → at i ≡ at j → i ≡ j
  pub are_paths : (i j : ℕ) → i < n → j < n → joined i j ≡ true → IsPath g (at i) (path i j) (at j)
  pub off_branch : (i j k : ℕ) → i < n → j < n → k < n → joined i j ≡ true → is_member (at k) (walk_vertices g (at i) (path i j)) ≡ true → (k ≡ i) ⊎ (k ≡ j)
  pub apart : (i j k l z : ℕ) → i < n → j < n → k < n → l < n → joined i j ≡ true → joined k l ≡ true
      → is_member z (walk_vertices g (at i) (path i j)) ≡ true → is_member z (walk_vertices g (at k) (path k l)) ≡ true → SamePair i j k l ⊎ IsBranch n at z

-- the vertex is an end of the contracted edge
abbrev pub IsContractedEnd : ℕ → ℕ → ℕ → Type 0
IsContractedEnd x y z = (z ≡ x) ⊎ (z ≡ y)

-- or it is not
pub merged-cases : (x y z : ℕ) → IsContractedEnd x y z ⊎ ((z ≢ x) × (z ≢ y))
merged-cases x y z = elim (cases_eq z x) [
  | inl a ↦ inl (inl a)
  | inr a ↦ elim (cases_eq z y) [ inl b ↦ inl (inr b) | inr b ↦ inr (a, b) ]
]

module _ (g h : Multigraph) (e x y : ℕ) (edge vertex : ℕ → ℕ) (og : IsGraph g) (oh : IsGraph h) (c : IsContraction g h e x y edge vertex)
    (n : ℕ) (joined : ℕ → ℕ → Bool) (at : ℕ → ℕ) (path : ℕ → ℕ → List ℕ) (s : IsPathSystem h n joined at path)
    (k : ℕ) (linked : ℕ → ℕ → Bool) (over : ℕ → ℕ) (place : ℕ → ℕ)
    (over_in : (i : ℕ) → i < k → over i < n) (place_in : (i : ℕ) → i < k → place i < g.vertex_count) (place_once : (i j : ℕ) → i < k → j < k → place i ≡ place j → i ≡ j)
    (stands : (i : ℕ) → i < k → vertex (place i) ≡ at (over i)) (links : (i j : ℕ) → i < k → j < k → linked i j ≡ true → joined (over i) (over j) ≡ true)
    (own : (i j m : ℕ) → i < k → j < k → m < k → linked i j ≡ true → IsContractedEnd x y (place m) → touches g (place m) (map edge (path (over i) (over j))) ≡ true → (m ≡ i) ⊎ (m ≡ j))
    (once : (i j p q z : ℕ) → i < k → j < k → p < k → q < k → linked i j ≡ true → linked p q ≡ true → IsContractedEnd x y z
    → touches g z (map edge (path (over i) (over j))) ≡ true → touches g z (map edge (path (over p) (over q))) ≡ true → SamePair i j p q ⊎ IsBranch k place z)
    (same : (i j p q : ℕ) → i < k → j < k → p < k → q < k → linked i j ≡ true → linked p q ≡ true → SamePair (over i) (over j) (over p) (over q) → SamePair i j p q)
  where
    -- the path from i to j, lifted
    abbrev pub raised : ℕ → ℕ → List ℕ
    raised i j = lifted g e (place i) (map edge (path (over i) (over j))) (place j)

    -- it is a path of h between the vertices that place i and place j become
    below : (i j : ℕ) → i < k → j < k → linked i j ≡ true → IsPath h (vertex (place i)) (path (over i) (over j)) (vertex (place j))
    below i j a b t = subst (λ u. IsPath h u (path (over i) (over j)) (vertex (place j))) (sym (stands i a))
        (subst (λ u. IsPath h (at (over i)) (path (over i) (over j)) u) (sym (stands j b)) (s.are_paths (over i) (over j) (over_in i a) (over_in j b) (links i j a b t)))

    lift : (i j : ℕ) → i < k → j < k → linked i j ≡ true → IsLift g h e x y edge vertex og oh c (place i) (path (over i) (over j)) (place j) (raised i j)
    lift i j a b t = let w = below i j a b t in lift-walk g h e x y edge vertex og oh c (place i) (path (over i) (over j)) (place j) (place_in i a) (place_in j b) w.walk w.arrives

    -- a vertex met becomes one that is met in h
    meets : (i j z : ℕ) → i < k → j < k → linked i j ≡ true → is_member z (walk_vertices g (place i) (raised i j)) ≡ true → (z < g.vertex_count) × (is_member (vertex z) (walk_vertices h (at (over i)) (path (over i) (over j))) ≡ true)
    meets i j z a b t m = let w = (lift i j a b t).met z m in (w.0, subst (λ u. is_member (vertex z) (walk_vertices h u (path (over i) (over j))) ≡ true) (stands i a) w.1)

    -- a vertex that becomes what place i becomes is place i, or an end of the contracted edge
    place-back : (i z : ℕ) → i < k → z < g.vertex_count → at (over i) ≡ vertex z → (z ≡ place i) ⊎ IsContractedEnd x y z
    place-back i z a l q = elim (cases_eq z (place i)) [
      | inl u ↦ inl u
      | inr u ↦ inr ((merged-across g h e x y edge vertex og oh c z (place i) l (place_in i a) (sym q ∙ sym (stands i a)) u).2)
    ]

    raised-off_branch : (i j m : ℕ) → i < k → j < k → m < k → linked i j ≡ true → is_member (place m) (walk_vertices g (place i) (raised i j)) ≡ true → (m ≡ i) ⊎ (m ≡ j)
    raised-off_branch i j m a b d t u = elim ((lift i j a b t).near (place m) u) [
      | inl q ↦ inl (place_once m i d a q)
      | inr v ↦ elim v [
        | inl q ↦ inr (place_once m j d b q)
        | inr w ↦ elim (s.off_branch (over i) (over j) (over m) (over_in i a) (over_in j b) (over_in m d) (links i j a b t) (subst (λ z. is_member z (walk_vertices h (at (over i)) (path (over i) (over j))) ≡ true) (stands m d) ((meets i j (place m) a b t u).1))) [
          | inl q ↦ elim (place-back i (place m) a (place_in m d) (ap at (sym q) ∙ sym (stands m d))) [ inl p ↦ inl (place_once m i d a p) | inr p ↦ own i j m a b d t p w ]
          | inr q ↦ elim (place-back j (place m) b (place_in m d) (ap at (sym q) ∙ sym (stands m d))) [ inl p ↦ inr (place_once m j d b p) | inr p ↦ own i j m a b d t p w ]
        ]
      ]
    ]

    -- a vertex met that becomes a branch vertex is a branch vertex, or an end of the contracted edge
    branch-back : (i j m z : ℕ) → i < k → j < k → m < n → linked i j ≡ true → at m ≡ vertex z → is_member z (walk_vertices g (place i) (raised i j)) ≡ true → IsBranch k place z ⊎ IsContractedEnd x y z
    branch-back i j m z a b d t q u = elim (s.off_branch (over i) (over j) m (over_in i a) (over_in j b) d (links i j a b t) (subst (λ v. is_member v (walk_vertices h (at (over i)) (path (over i) (over j))) ≡ true) (sym q) w.1)) [
      | inl p ↦ elim (place-back i z a w.0 (ap at (sym p) ∙ q)) [ inl v ↦ inl (i, a, sym v) | inr v ↦ inr v ]
      | inr p ↦ elim (place-back j z b w.0 (ap at (sym p) ∙ q)) [ inl v ↦ inl (j, b, sym v) | inr v ↦ inr v ]
    ]
      where
        w : (z < g.vertex_count) × (is_member (vertex z) (walk_vertices h (at (over i)) (path (over i) (over j))) ≡ true)
        w = meets i j z a b t u

    raised-apart : (i j p q z : ℕ) → i < k → j < k → p < k → q < k → linked i j ≡ true → linked p q ≡ true
        → is_member z (walk_vertices g (place i) (raised i j)) ≡ true → is_member z (walk_vertices g (place p) (raised p q)) ≡ true → SamePair i j p q ⊎ IsBranch k place z
    raised-apart i j p q z a b d f t u v w = elim (merged-cases x y z) [
      | inl m ↦ merged m
      | inr m ↦ elim (s.apart (over i) (over j) (over p) (over q) (vertex z) (over_in i a) (over_in j b) (over_in p d) (over_in q f) (links i j a b t) (links p q d f u) ((meets i j z a b t v).1) ((meets p q z d f u w).1)) [
        | inl r ↦ inl (same i j p q a b d f t u r)
        | inr r ↦ elim (branch-back i j r.0 z a b r.1 t r.2 v) [
          | inl o ↦ inr o
          | inr o ↦ absurd (elim o [ inl l ↦ m.0 l | inr l ↦ m.1 l ])
        ]
      ]
    ]
      where
        merged : IsContractedEnd x y z → SamePair i j p q ⊎ IsBranch k place z
        merged m = elim ((lift i j a b t).near z v) [
          | inl r ↦ inr (i, a, sym r)
          | inr r ↦ elim r [
            | inl l ↦ inr (j, b, sym l)
            | inr l ↦ elim ((lift p q d f u).near z w) [
              | inl r ↦ inr (p, d, sym r)
              | inr r ↦ elim r [ inl o ↦ inr (q, f, sym o) | inr o ↦ once i j p q z a b d f t u m l o ]
            ]
          ]
        ]

    -- the paths lifted are a system of paths of g
    pub lift-system : IsPathSystem g k linked place raised
    lift-system = record {
      branch_in = place_in;
      branch_once = place_once;
      are_paths = λ i j a b t. lift-path g h e x y edge vertex og oh c (place i) (path (over i) (over j)) (place j) (place_in i a) (place_in j b) (below i j a b t);
      off_branch = raised-off_branch;
      apart = raised-apart;
    }
