-- The rest at an item: there is one only, it depends on the other items alone, and how great it can be.
use Rattle.std.proofs.Common.{◌≡◌, ◌≢◌, ℕ, ◌+◌, ◌*◌, ◌/◌, ◌<◌, ◌≤◌, ◌⊎◌, Bool, true, false, cond, List, length, inl, inr, refl, sym, ap, ◌∙◌, subst, arith, max}
use Rattle.std.proofs.lemmas.Bool.{cases_Bool, cases_eq, cases_lt, true≢false, both_ways}
use Rattle.std.proofs.Math.Nat.{max-eq_left, max-eq_right}
use Rattle.permutations.specs.Count.{sum_below}
use Rattle.permutations.proofs.Orbits.{orbit-equivalence}
use Rattle.permutations.proofs.Sums.{sum_below-le}
use Rattle.multigraph.specs.Graph.{Multigraph, edge_count}
use Rattle.dart_maps.specs.Map.{twin, face, same_face}
use Rattle.dart_maps.proofs.Darts.{twin-even}
use Rattle.faces.specs.Euler.{IsPlane}
use Rattle.faces.specs.Maps.{dart_after}
use Rattle.pair_split.specs.Tutte.{Node, node_at, node_item}
use Rattle.pair_split.specs.declared.components.Kind.{Kind}
use Rattle.pair_split.specs.declared.components.Kind.TheVariants.{S, P, R, B}
use Rattle.pair_split.specs.declared.components.What.TheVariants.{Real, Link}
use Rattle.pair_split.proofs.Groups.{what-cases}
use Rattle.skeletons.specs.Items.{IsBlockTree}
use Rattle.skeletons.specs.Families.{skeleton_graph, system_at, AreSkeletonSystems}
use Rattle.skeleton_runs.proofs.SkeletonGraph.{graph-edges}
use Rattle.skeleton_planes.proofs.SkeletonDarts.{item-dart}
use Rattle.skeleton_faces.specs.Faces.{face_weight}
use Rattle.face_weights.specs.Rests.{IsFaceRest, IsRest}
use Rattle.face_weights.proofs.Terms.{two-terms}
use Rattle.face_weights.proofs.FaceBounds.{face-same, face-bounded, face-twice, face-other, part}
use Rattle.face_weights.proofs.LinkFaces.{link-faces}

-- whether a kind is that of bonds
abbrev pub is_bond : Kind → Bool
is_bond S = false
is_bond P = true
is_bond R = false
is_bond B = false

-- a node is a bond or not
pub bond-or : (kind : Kind) → (kind ≡ P) ⊎ (kind ≢ P)
bond-or S = inr (λ e. true≢false (sym (ap is_bond e)))
bond-or P = inl refl
bond-or R = inr (λ e. true≢false (sym (ap is_bond e)))
bond-or B = inr (λ e. true≢false (sym (ap is_bond e)))

-- the rest from the weights of the faces of both darts
pub rest-from_both : (g : Multigraph) (r : List (List ℕ)) (w : ℕ → ℕ) (i rest s t : ℕ) → s ≡ face_weight g r w (2 * i) → t ≡ face_weight g r w (2 * i + 1) → i < edge_count g → rest + w i ≡ max s t → IsFaceRest g r w i rest
rest-from_both g r w i rest s t first second l e = record { reached = reached; bounds = bounds }
  where
    reached : (x : ℕ) × (x < 2 * edge_count g) × (x / 2 ≡ i) × (face_weight g r w x ≡ w i + rest)
    reached = elim (cases_lt s t) [
      | inl a ↦ (2 * i + 1, omega (arith, l), omega arith, let q : max s t ≡ t = max-eq_right (omega (arith, a)) in omega (arith, q, e, second))
      | inr a ↦ (2 * i, omega (arith, l), omega arith, let q : max s t ≡ s = max-eq_left a in omega (arith, q, e, first))
    ]

    both : (s ≤ w i + rest) × (t ≤ w i + rest)
    both = elim (cases_lt s t) [
      | inl a ↦ let q : max s t ≡ t = max-eq_right (omega (arith, a)) in (omega (arith, q, e, a), omega (arith, q, e))
      | inr a ↦ let q : max s t ≡ s = max-eq_left a in (omega (arith, q, e), omega (arith, q, e, a))
    ]

    which : (x : ℕ) → x / 2 ≡ i → (x ≡ 2 * i) ⊎ (x ≡ 2 * i + 1)
    which x q = elim (cases_eq x (2 * i)) [ inl a ↦ inl a | inr a ↦ inr (omega (arith, q, a)) ]

    bounds : (x : ℕ) → x < 2 * edge_count g → x / 2 ≡ i → face_weight g r w x ≤ w i + rest
    bounds x m q = elim (which x q) [
      | inl a ↦ omega (arith, both.0, first, ap (face_weight g r w) a)
      | inr a ↦ omega (arith, both.1, second, ap (face_weight g r w) a)
    ]

-- there is one rest only
pub rest-once : (nodes : List Node) (family : List (List (List ℕ))) (k : ℕ) (w : ℕ → ℕ) (i a c : ℕ) → IsRest nodes family k w i a → IsRest nodes family k w i c → a ≡ c
rest-once nodes family k w i a c x y = elim (bond-or (node_at nodes k).kind) [
  | inl p ↦ let u = x.other p in let v = y.other p in
      let s : w (u.reached.0) ≤ c = v.bounds (u.reached.0) (u.reached.1) (u.reached.2) in
      let t : w (v.reached.0) ≤ a = u.bounds (v.reached.0) (v.reached.1) (v.reached.2) in
      omega (arith, s, t, u.reached.3, v.reached.3)
  | inr n ↦ let u = x.face n in let v = y.face n in
      omega (arith, v.bounds (u.reached.0) (u.reached.1) (u.reached.2), u.bounds (v.reached.0) (v.reached.1) (v.reached.2), u.reached.3, v.reached.3)
]

-- weights that agree have the same rests
pub rest-same : (nodes : List Node) (family : List (List (List ℕ))) (k : ℕ) (w v : ℕ → ℕ) (i rest : ℕ) → edge_count (skeleton_graph nodes k) ≡ length (node_at nodes k).items
    → ((h : ℕ) → h < length (node_at nodes k).items → w h ≡ v h) → i < length (node_at nodes k).items → IsRest nodes family k w i rest → IsRest nodes family k v i rest
rest-same nodes family k w v i rest count same l x = record {
  face = λ n. let u = x.face n in record {
    reached = (u.reached.0, u.reached.1, u.reached.2, sym (face-same (skeleton_graph nodes k) (system_at family k) w v (u.reached.0) all) ∙ u.reached.3 ∙ ap (λ z. z + rest) (same i l));
    bounds = λ d m e. omega (arith, u.bounds d m e, face-same (skeleton_graph nodes k) (system_at family k) w v d all, same i l);
  };
  other = λ p. let u = x.other p in record {
    reached = (u.reached.0, u.reached.1, u.reached.2, sym (same (u.reached.0) (u.reached.1)) ∙ u.reached.3);
    bounds = λ h m n. subst (λ z. z ≤ rest) (same h m) (u.bounds h m n);
  };
}
  where
    all : (h : ℕ) → h < edge_count (skeleton_graph nodes k) → w h ≡ v h
    all h a = same h (subst (λ n. h < n) count a)

-- a block with its tree and a plane family
module _ (g : Multigraph) (nodes : List Node) (b : IsBlockTree g nodes) (family : List (List (List ℕ))) (systems : AreSkeletonSystems nodes family)
    (plane : (k : ℕ) → k < length nodes → IsPlane (skeleton_graph nodes k) (system_at family k)) (k : ℕ) (l : k < length nodes) where
  abbrev number : ℕ
  number = length (node_at nodes k).items

  -- an item is an edge of the skeleton
  few : (i : ℕ) → i < edge_count (skeleton_graph nodes k) → i < length (node_at nodes k).items
  few i m = subst (λ n. i < n) (graph-edges g nodes b k l) m

  -- the rest at a link does not depend on the weight of the link
  pub rest-other : (w v : ℕ → ℕ) (i j rest : ℕ) → (node_item nodes k i).what ≡ Link j → ((h : ℕ) → h < length (node_at nodes k).items → h ≢ i → w h ≡ v h) → IsRest nodes family k w i rest → IsRest nodes family k v i rest
  rest-other w v i j rest link same x = record {
    face = λ n. let u = x.face n in record {
      reached = (u.reached.0, u.reached.1, u.reached.2, omega (arith, u.reached.3, moved (u.reached.0) (u.reached.1) (u.reached.2)));
      bounds = λ d m e. omega (arith, u.bounds d m e, moved d m e);
    };
    other = λ p. let u = x.other p in record {
      reached = (u.reached.0, u.reached.1, u.reached.2, sym (same (u.reached.0) (u.reached.1) (u.reached.2)) ∙ u.reached.3);
      bounds = λ h m n. subst (λ z. z ≤ rest) (same h m n) (u.bounds h m n);
    };
  }
    where
      moved : (d : ℕ) → d < 2 * edge_count (skeleton_graph nodes k) → d / 2 ≡ i → face_weight (skeleton_graph nodes k) (system_at family k) w d + v i ≡ face_weight (skeleton_graph nodes k) (system_at family k) v d + w i
      moved d m e =
          let q = face-other (skeleton_graph nodes k) (system_at family k) w v d m (link-faces g nodes b family systems plane k d j l m (ap (λ n. (node_item nodes k n).what) e ∙ link)) (λ h a n. same h (few h a) (λ z. n (z ∙ sym e))) in
          subst (λ n. face_weight (skeleton_graph nodes k) (system_at family k) w d + v n ≡ face_weight (skeleton_graph nodes k) (system_at family k) v d + w n) e q

  -- with the item it is at most twice the sum of all weights
  pub rest-total : (w : ℕ → ℕ) (i rest : ℕ) → i < length (node_at nodes k).items → IsRest nodes family k w i rest → w i + rest ≤ 2 * sum_below (length (node_at nodes k).items) w
  rest-total w i rest m x = elim (bond-or (node_at nodes k).kind) [
    | inl p ↦ let u = x.other p in omega (arith, two-terms number w i (u.reached.0) m (u.reached.1) (u.reached.2), u.reached.3)
    | inr n ↦ let u = x.face n in
        omega (arith, u.reached.3, subst (λ z. face_weight (skeleton_graph nodes k) (system_at family k) w (u.reached.0) ≤ 2 * sum_below z w) (graph-edges g nodes b k l) (face-twice (skeleton_graph nodes k) (system_at family k) w (u.reached.0)))
  ]

  -- where bounds are given, twice the weight for an edge and once for a link, at most their sum
  pub rest-light : (w u : ℕ → ℕ) (i rest : ℕ) → i < length (node_at nodes k).items → IsRest nodes family k w i rest
      → ((h e : ℕ) → h < length (node_at nodes k).items → (node_item nodes k h).what ≡ Real e → 2 * w h ≤ u h) → ((h j : ℕ) → h < length (node_at nodes k).items → (node_item nodes k h).what ≡ Link j → w h ≤ u h)
      → w i + rest ≤ sum_below (length (node_at nodes k).items) u
  rest-light w u i rest m x edges links = elim (bond-or (node_at nodes k).kind) [
    | inl p ↦ let y = x.other p in omega (arith, two-terms number w i (y.reached.0) m (y.reached.1) (y.reached.2), y.reached.3, sum_below-le number w u each)
    | inr n ↦ let y = x.face n in
        omega (
          arith,
          y.reached.3,
          subst (λ z. face_weight (skeleton_graph nodes k) (system_at family k) w (y.reached.0) ≤ sum_below z u) (graph-edges g nodes b k l)
              (face-bounded (skeleton_graph nodes k) (system_at family k) w u (y.reached.0) (λ h a. sides (y.reached.0) h (few h a))),
        )
  ]
    where
      each : (h : ℕ) → h < length (node_at nodes k).items → w h ≤ u h
      each h a = elim (what-cases (node_item nodes k h).what) [
        | inl e ↦ omega (arith, edges h e.0 a e.1)
        | inr j ↦ links h j.0 a j.1
      ]

      on : ℕ → ℕ → Bool
      on = same_face (edge_count (skeleton_graph nodes k)) (dart_after (skeleton_graph nodes k) (system_at family k))

      -- the darts of a link are not both on the face
      apart : (x h j : ℕ) → h < length (node_at nodes k).items → (node_item nodes k h).what ≡ Link j → on x (2 * h) ≡ true → on x (2 * h + 1) ≡ true → ⊥
      apart x h j a e s t =
          let c = orbit-equivalence (2 * edge_count (skeleton_graph nodes k)) (face (dart_after (skeleton_graph nodes k) (system_at family k))) in
          let half : (2 * h) / 2 ≡ h = omega arith in
          let other : twin (2 * h) ≡ 2 * h + 1 = twin-even (2 * h) (omega arith) in
          both_ways (on (2 * h) (twin (2 * h)))
          (link-faces g nodes b family systems plane k (2 * h) j l (item-dart g nodes b k l (2 * h) (subst (λ n. n < number) (sym half) a)) (ap (λ n. (node_item nodes k n).what) half ∙ e))
          (ap (on (2 * h)) other ∙ c.transitive (2 * h) x (2 * h + 1) (c.symmetric x (2 * h) s) t)

      one : (s t : Bool) (a : ℕ) → (s ≡ true → t ≡ true → ⊥) → cond s a 0 + cond t a 0 ≤ a
      one s t a n = elim (cases_Bool s) [
        | inl p ↦ elim (cases_Bool t) [ inl q ↦ absurd (n p q) | inr q ↦ rw (p, q) (omega arith) ]
        | inr p ↦ elim (cases_Bool t) [ inl q ↦ rw (p, q) (omega arith) | inr q ↦ rw (p, q) (omega arith) ]
      ]

      sides : (x h : ℕ) → h < length (node_at nodes k).items → cond (on x (2 * h)) (w h) 0 + cond (on x (2 * h + 1)) (w h) 0 ≤ u h
      sides x h a = elim (what-cases (node_item nodes k h).what) [
        | inl e ↦ omega (arith, edges h e.0 a e.1, part (skeleton_graph nodes k) (system_at family k) (on x (2 * h)) (w h), part (skeleton_graph nodes k) (system_at family k) (on x (2 * h + 1)) (w h))
        | inr j ↦ let s : cond (on x (2 * h)) (w h) 0 + cond (on x (2 * h + 1)) (w h) 0 ≤ w h = one (on x (2 * h)) (on x (2 * h + 1)) (w h) (apart x h j.0 a j.1) in omega (arith, s, links h j.0 a j.1)
      ]
