-- Single edges of a graph, and the lifted parts of a cycle that avoids the merged vertex, are a system of paths.
use Rattle.std.proofs.Common.{◌≡◌, ◌≢◌, ℕ, ◌<◌, ◌⊎◌, inl, inr, Bool, true, false, List, [], ◌∷◌, length, map, reverse, refl, sym, ap, ◌∙◌, subst}
use Rattle.std.proofs.lemmas.Bool.{cases_eq, both_ways}
use Rattle.permutations.specs.Members.{is_member}
use Rattle.permutations.proofs.Members.{member-cases, no_member-cons, distinct-cons}
use Rattle.multigraph.specs.Graph.{Multigraph, IsGraph, edge_count, is_end, other_end}
use Rattle.multigraph.proofs.OtherEnd.{other_end-differs}
use Rattle.graph_theory.specs.Path.{walk_vertices, IsPath}
use Rattle.graph_theory.proofs.Paths.{path-reverse, path-reverse-met}
use Rattle.contractions.specs.Contraction.{IsContraction}
use Rattle.planarity.specs.Lift.{lifted}
use Rattle.planarity.specs.Circle.{IsCircle}
use Rattle.planarity.proofs.LiftSystem.{SamePair, IsBranch, IsPathSystem, IsContractedEnd}
use Rattle.planarity.proofs.LiftPath.{IsLift, lift-walk, lift-path, merged-across}
use Rattle.planarity.proofs.LiftSpokes.{merged-vertex}
use Rattle.planarity.proofs.FoundRim.{start_at, edges_at, after, after-in, rim-path, rim-avoids, rim-start, rim-common, start-once, start-avoids}

-- one edge from the one vertex to the other
pub record IsWire (g : Multigraph) (p q : ℕ) (path : List ℕ) : Type 0 where
  pub edge : ℕ
  pub alone : path ≡ edge ∷ []
  pub is_edge : edge < edge_count g
  pub leaves : is_end g p edge ≡ true
  pub arrives : other_end g edge p ≡ q

-- it is a path
wire-path : (g : Multigraph) → IsGraph g → (p q : ℕ) (path : List ℕ) → IsWire g p q path → IsPath g p path q
wire-path g ok p q path v = subst (λ l. IsPath g p l q) (sym v.alone) (record {
  walk = ((v.is_edge, v.leaves), tt);
  arrives = v.arrives;
  vertices = distinct-cons p (other_end g v.edge p ∷ []) (no_member-cons p (other_end g v.edge p) [] (other_end-differs g v.edge p ok v.is_edge v.leaves) refl) refl;
})

-- and has no other vertex
wire-met : (g : Multigraph) (p q : ℕ) (path : List ℕ) → IsWire g p q path → (z : ℕ) → is_member z (walk_vertices g p path) ≡ true → (p ≡ z) ⊎ (q ≡ z)
wire-met g p q path v z m = elim (member-cases z p (other_end g v.edge p ∷ []) (subst (λ l. is_member z (walk_vertices g p l) ≡ true) v.alone m)) [
  | inl a ↦ inl a
  | inr b ↦ elim (member-cases z (other_end g v.edge p) [] b) [ inl a ↦ inr (sym v.arrives ∙ a) | inr o ↦ absurd (both_ways false refl o) ]
]

module _ (g h : Multigraph) (e x y : ℕ) (edge vertex : ℕ → ℕ) (og : IsGraph g) (oh : IsGraph h) (ic : IsContraction g h e x y edge vertex)
    (first : ℕ × List ℕ) (others : List (ℕ × List ℕ)) (c : IsCircle h (vertex x) first.0 (first ∷ others)) (two : 0 < length others)
    (spot : ℕ → ℕ) (spot_in : (k : ℕ) → k < length (first ∷ others) → spot k < g.vertex_count) (spot_is : (k : ℕ) → k < length (first ∷ others) → vertex (spot k) ≡ start_at first.0 (first ∷ others) k) where
  abbrev start : ℕ → ℕ
  start = start_at first.0 (first ∷ others)

  abbrev edges : ℕ → List ℕ
  edges = edges_at first.0 (first ∷ others)

  abbrev follow : ℕ → ℕ
  follow = after h (vertex x) first others c two

  -- a path over part k of the cycle
  pub record IsArc (p q : ℕ) (path : List ℕ) : Type 0 where
    pub part : ℕ
    pub part_in : part < length (first ∷ others)
    pub is_path : IsPath g p path q
    pub over : (z : ℕ) → is_member z (walk_vertices g p path) ≡ true → (z < g.vertex_count) × (is_member (vertex z) (walk_vertices h (start_at first.0 (first ∷ others) part) (edges_at first.0 (first ∷ others) part)) ≡ true)
    pub ends : SamePair p q (spot part) (spot (after h (vertex x) first others c two part))

  -- the part lifted
  pub arc-forth : (k : ℕ) → k < length (first ∷ others) → IsArc (spot k) (spot (after h (vertex x) first others c two k)) (lifted g e (spot k) (map edge (edges_at first.0 (first ∷ others) k)) (spot (after h (vertex x) first others c two k)))
  arc-forth k l = record {
    part = k;
    part_in = l;
    is_path = lift-path g h e x y edge vertex og oh ic (spot k) (edges k) (spot (follow k)) (spot_in k l) (spot_in (follow k) l') there;
    over = λ z m. let v = r.met z m in (v.0, subst (λ u. is_member (vertex z) (walk_vertices h u (edges k)) ≡ true) (spot_is k l) v.1);
    ends = inl (refl, refl);
  }
    where
      l' : follow k < length (first ∷ others)
      l' = after-in h (vertex x) first others c two k l

      there : IsPath h (vertex (spot k)) (edges k) (vertex (spot (follow k)))
      there = subst (λ u. IsPath h u (edges k) (vertex (spot (follow k)))) (sym (spot_is k l)) (subst (IsPath h (start k) (edges k)) (sym (spot_is (follow k) l')) (rim-path h (vertex x) first others c two k l))

      r : IsLift g h e x y edge vertex og oh ic (spot k) (edges k) (spot (follow k)) (lifted g e (spot k) (map edge (edges k)) (spot (follow k)))
      r = lift-walk g h e x y edge vertex og oh ic (spot k) (edges k) (spot (follow k)) (spot_in k l) (spot_in (follow k) l') there.walk there.arrives

  -- and turned round
  pub arc-back : (k : ℕ) → k < length (first ∷ others) → IsArc (spot (after h (vertex x) first others c two k)) (spot k) (reverse (lifted g e (spot k) (map edge (edges_at first.0 (first ∷ others) k)) (spot (after h (vertex x) first others c two k))))
  unfolding arc-forth
  arc-back k l = record {
    part = k;
    part_in = l;
    is_path = path-reverse g (spot k) (lifted g e (spot k) (map edge (edges k)) (spot (follow k))) (spot (follow k)) r.is_path;
    over = λ z m. r.over z (path-reverse-met g (spot k) (lifted g e (spot k) (map edge (edges k)) (spot (follow k))) (spot (follow k)) r.is_path z m);
    ends = inr (refl, refl);
  }
    where
      r : IsArc (spot k) (spot (follow k)) (lifted g e (spot k) (map edge (edges k)) (spot (follow k)))
      r = arc-forth k l

  -- a vertex that becomes the start of a part is that spot
  spot-back : (k z : ℕ) → k < length (first ∷ others) → z < g.vertex_count → start k ≡ vertex z → z ≡ spot k
  spot-back k z l m q = elim (cases_eq z (spot k)) [
    | inl a ↦ a
    | inr a ↦ absurd (start-avoids h (vertex x) first others c two k l (q ∙ merged-vertex g h e x y edge vertex og oh ic z ((merged-across g h e x y edge vertex og oh ic z (spot k) m (spot_in k l) (sym q ∙ sym (spot_is k l)) a).2)))
  ]

  -- different parts begin at different spots
  pub spot-differ : (k j : ℕ) → k < length (first ∷ others) → j < length (first ∷ others) → k ≢ j → spot k ≢ spot j
  spot-differ k j l i d q = d (start-once h (vertex x) first others c two k j l i (sym (spot_is k l) ∙ ap vertex q ∙ spot_is j i))

  -- which are no ends of the contracted edge
  pub spot-unmerged : (k z : ℕ) → k < length (first ∷ others) → IsContractedEnd x y z → spot k ≢ z
  spot-unmerged k z l o q = start-avoids h (vertex x) first others c two k l (sym (spot_is k l) ∙ ap vertex q ∙ merged-vertex g h e x y edge vertex og oh ic z o)

  module _ (n : ℕ) (joined : ℕ → ℕ → Bool) (at : ℕ → ℕ) (path : ℕ → ℕ → List ℕ) (at_in : (i : ℕ) → i < n → at i < g.vertex_count) (at_once : (i j : ℕ) → i < n → j < n → at i ≡ at j → i ≡ j)
      (which : (i : ℕ) → i < n → IsContractedEnd x y (at i) ⊎ ((k : ℕ) × (k < length (first ∷ others)) × (at i ≡ spot k)))
      (spots : (k : ℕ) → k < length (first ∷ others) → IsBranch n at (spot k))
      (kinds : (i j : ℕ) → i < n → j < n → joined i j ≡ true → IsWire g (at i) (at j) (path i j) ⊎ IsArc (at i) (at j) (path i j)) where
    are_paths : (i j : ℕ) → i < n → j < n → joined i j ≡ true → IsPath g (at i) (path i j) (at j)
    are_paths i j a b t = elim (kinds i j a b t) [ inl v ↦ wire-path g og (at i) (at j) (path i j) v | inr v ↦ v.is_path ]

    -- the spots of an arc are its ends
    arc-ends : (i j : ℕ) → (v : IsArc (at i) (at j) (path i j)) → (k m : ℕ) → m < n → i < n → j < n → at m ≡ spot k → (k ≡ v.part) ⊎ (k ≡ follow v.part) → (m ≡ i) ⊎ (m ≡ j)
    arc-ends i j v k m d a b q s = by v.ends s
      where
        by : SamePair (at i) (at j) (spot v.part) (spot (follow v.part)) → (k ≡ v.part) ⊎ (k ≡ follow v.part) → (m ≡ i) ⊎ (m ≡ j)
        by (inl p) (inl r) = inl (at_once m i d a (q ∙ ap spot r ∙ sym p.0))
        by (inl p) (inr r) = inr (at_once m j d b (q ∙ ap spot r ∙ sym p.1))
        by (inr p) (inl r) = inr (at_once m j d b (q ∙ ap spot r ∙ sym p.1))
        by (inr p) (inr r) = inl (at_once m i d a (q ∙ ap spot r ∙ sym p.0))

    off_branch : (i j m : ℕ) → i < n → j < n → m < n → joined i j ≡ true → is_member (at m) (walk_vertices g (at i) (path i j)) ≡ true → (m ≡ i) ⊎ (m ≡ j)
    off_branch i j m a b d t u = elim (kinds i j a b t) [
      | inl v ↦ elim (wire-met g (at i) (at j) (path i j) v (at m) u) [ inl q ↦ inl (at_once m i d a (sym q)) | inr q ↦ inr (at_once m j d b (sym q)) ]
      | inr v ↦ elim (which m d) [
        | inl o ↦ absurd (rim-avoids h (vertex x) first others c two v.part (vertex (at m)) v.part_in ((v.over (at m) u).1) (merged-vertex g h e x y edge vertex og oh ic (at m) o))
        | inr o ↦ arc-ends i j v o.0 m d a b o.2 (rim-start h (vertex x) first others c two v.part o.0 v.part_in o.1 (subst (λ z. is_member z (walk_vertices h (start v.part) (edges v.part)) ≡ true) (ap vertex o.2 ∙ spot_is o.0 o.1) ((v.over (at m) u).1)))
      ]
    ]

    -- arcs over one part have the same ends
    one_part : (i j p q : ℕ) → i < n → j < n → p < n → q < n → (v : IsArc (at i) (at j) (path i j)) → (u : IsArc (at p) (at q) (path p q)) → v.part ≡ u.part → SamePair i j p q
    one_part i j p q a b d f v u o = by v.ends (subst (λ k. SamePair (at p) (at q) (spot k) (spot (follow k))) (sym o) u.ends)
      where
        by : SamePair (at i) (at j) (spot v.part) (spot (follow v.part)) → SamePair (at p) (at q) (spot v.part) (spot (follow v.part)) → SamePair i j p q
        by (inl r) (inl s) = inl (at_once i p a d (r.0 ∙ sym s.0), at_once j q b f (r.1 ∙ sym s.1))
        by (inl r) (inr s) = inr (at_once i q a f (r.0 ∙ sym s.1), at_once j p b d (r.1 ∙ sym s.0))
        by (inr r) (inl s) = inr (at_once i q a f (r.0 ∙ sym s.1), at_once j p b d (r.1 ∙ sym s.0))
        by (inr r) (inr s) = inl (at_once i p a d (r.0 ∙ sym s.0), at_once j q b f (r.1 ∙ sym s.1))

    apart : (i j p q z : ℕ) → i < n → j < n → p < n → q < n → joined i j ≡ true → joined p q ≡ true
        → is_member z (walk_vertices g (at i) (path i j)) ≡ true → is_member z (walk_vertices g (at p) (path p q)) ≡ true → SamePair i j p q ⊎ IsBranch n at z
    apart i j p q z a b d f t u m k = elim (kinds i j a b t) [
      | inl v ↦ elim (wire-met g (at i) (at j) (path i j) v z m) [ inl r ↦ inr (i, a, r) | inr r ↦ inr (j, b, r) ]
      | inr v ↦ elim (kinds p q d f u) [
        | inl o ↦ elim (wire-met g (at p) (at q) (path p q) o z k) [ inl r ↦ inr (p, d, r) | inr r ↦ inr (q, f, r) ]
        | inr o ↦ elim (cases_eq v.part o.part) [
          | inl r ↦ inl (one_part i j p q a b d f v o r)
          | inr r ↦
              let s = rim-common h (vertex x) first others c two v.part o.part (vertex z) v.part_in o.part_in r ((v.over z m).1) ((o.over z k).1) in
              inr (subst (IsBranch n at) (sym (spot-back s.0 z s.1 ((v.over z m).0) s.2)) (spots s.0 s.1))
        ]
      ]
    ]

    -- edges and arcs are a system of paths
    pub found-system : IsPathSystem g n joined at path
    found-system = record {
      branch_in = at_in;
      branch_once = at_once;
      are_paths = are_paths;
      off_branch = off_branch;
      apart = apart;
    }
