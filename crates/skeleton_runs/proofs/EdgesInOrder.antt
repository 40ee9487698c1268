-- Four edges met in this order round a vertex: their darts are met in this order in each restriction that keeps them.
use Rattle.std.proofs.Common.{◌≡◌, ◌≢◌, ℕ, ◌*◌, ◌/◌, ◌<◌, inl, inr, Bool, true, false, ◌||◌, ◌==◌, List, [], ◌∷◌, refl, sym, ap, ◌∙◌, subst, arith}
use Rattle.std.proofs.lemmas.Bool.{cases_lt, eq-eqb, eqb-true, ne_eqb}
use Rattle.permutations.specs.Members.{is_member, is_distinct}
use Rattle.permutations.specs.Cyclic.{successor, FollowsAround}
use Rattle.permutations.specs.Exchange.{restricted}
use Rattle.permutations.proofs.Members.{member-head, member-tail, distinct-head, distinct-tail, no_member-head, no_member-tail}
use Rattle.permutations.proofs.Relation.{same-tests}
use Rattle.permutations.proofs.CyclicOrder.{around-member, around-distinct, around-successor}
use Rattle.permutations.proofs.Orbits.{orbit-equivalence, orbit-outside}
use Rattle.permutations.proofs.Restriction.{restricted-twice}
use Rattle.multigraph.specs.Graph.{Multigraph, edge_count, is_end, IsGraph}
use Rattle.rotations.specs.Rotation.{order_at, IsRotationSystem}
use Rattle.rotations.proofs.Membership.{member-edge, member-end}
use Rattle.dart_maps.specs.Map.{IsMap, same_vertex}
use Rattle.dart_maps.specs.Order.{one_of_four, MetInOrder}
use Rattle.dart_maps.proofs.FourDarts.{four-cases}
use Rattle.dart_maps.proofs.Noncrossing.{restricted-more}
use Rattle.faces.specs.Euler.{tail, dart_from, dart_count}
use Rattle.faces.specs.Maps.{dart_after, dart_before}
use Rattle.faces.proofs.DartLemmas.{dart_from-edge, dart_from-below, dart_from-tail, dart_from-of_dart, order-distinct, member-incident}
use Rattle.faces.proofs.MapSteps.{map-permutes}
use Rattle.faces.proofs.MapVertices.{vertex-tail}
use Rattle.faces.proofs.MapRestricted.{dart_from-once, restricted-order}

-- what is of one orbit with a number below n is below n
orbit-below : (n : ℕ) (f g : ℕ → ℕ) → IsMap n f g → (x z : ℕ) → x < 2 * n → same_vertex n f x z ≡ true → z < 2 * n
orbit-below n f g b x z l t = elim (cases_lt z (2 * n)) [
  | inl k ↦ k
  | inr k ↦ subst (λ y. y < 2 * n) (sym (orbit-outside (2 * n) f b.forth z x k ((orbit-equivalence (2 * n) f).symmetric x z t))) l
]

module _ (g : Multigraph) (r : List (List ℕ)) (ok : IsGraph g) (s : IsRotationSystem g r) (u a b c d : ℕ) (l : u < g.vertex_count) (o : FollowsAround (order_at r u) (a ∷ b ∷ c ∷ d ∷ [])) where
  -- the four
  abbrev these : List ℕ
  these = a ∷ b ∷ c ∷ d ∷ []

  -- the dart of an edge from the vertex
  abbrev dart : ℕ → ℕ
  dart e = dart_from g u e

  -- whether a dart is that of one of them
  abbrev one : ℕ → Bool
  one z = one_of_four (dart a) (dart b) (dart c) (dart d) z

  distinct : is_distinct these ≡ true
  distinct = around-distinct (order_at r u) these o (order-distinct g r u s l)

  -- each stands round the vertex
  round : (x : ℕ) → is_member x these ≡ true → is_member x (order_at r u) ≡ true
  round x m = around-member (order_at r u) these x o m

  -- and is an edge at it
  pub met-edge : (x : ℕ) → is_member x these ≡ true → x < edge_count g
  met-edge x m = member-edge g u x (member-incident g r u x s l (round x m))

  pub met-end : (x : ℕ) → is_member x these ≡ true → is_end g u x ≡ true
  met-end x m = member-end g u x (member-incident g r u x s l (round x m))

  -- looking at the four edges alone, each dart is followed by that of the next edge
  step-edges : (x y : ℕ) → is_member x these ≡ true → successor these x ≡ y → restricted (dart_count g) (λ z. is_member (z / 2) these) (dart_after g r) (dart x) ≡ dart y
  step-edges x y m q = restricted-order g r ok s (λ z. is_member z these) u x l (round x m) m
      ∙ ap dart (around-successor (λ z. is_member z these) (order_at r u) these x (order-distinct g r u s l) (λ z k. refl) o ∙ q)

  -- a dart from the vertex is that of an edge exactly where its edge is this one
  same-dart : (e x : ℕ) → (dart e == dart x) ≡ (x == e)
  same-dart e x = same-tests (dart e == dart x) (x == e)
      (λ t. eq-eqb x e (sym (dart_from-once g u e x (eqb-true (dart e) (dart x) t))))
      (λ t. eq-eqb (dart e) (dart x) (ap dart (sym (eqb-true x e t))))

  -- so it is one of the four exactly where its edge is
  one-edge : (e : ℕ) → one (dart e) ≡ is_member e these
  one-edge e = four (dart e == dart a) (dart e == dart b) (dart e == dart c) (dart e == dart d) (a == e) (b == e) (c == e) (d == e) (same-dart e a) (same-dart e b) (same-dart e c) (same-dart e d)
    where
      four : (p q v w p' q' v' w' : Bool) → p ≡ p' → q ≡ q' → v ≡ v' → w ≡ w' → (p || q || v || w) ≡ (p' || (q' || (v' || (w' || false))))
      four p q v w p' q' v' w' i j k m = grind (arith, i, j, k, m)

  one-here : (x z : ℕ) → is_member x these ≡ true → same_vertex (edge_count g) (dart_after g r) (dart x) z ≡ true → one z ≡ is_member (z / 2) these
  one-here x z m t =
      let below : z < dart_count g = orbit-below (edge_count g) (dart_after g r) (dart_before g r) (map-permutes g r ok s) (dart x) z (dart_from-below g u x (met-edge x m)) t in
      let from : tail g z ≡ u = sym (vertex-tail g r ok s (dart x) z t) ∙ dart_from-tail g u x (met-end x m) in
      let is : dart (z / 2) ≡ z = ap (λ v. dart_from g v (z / 2)) (sym from) ∙ dart_from-of_dart g z ok below in
      ap one (sym is) ∙ one-edge (z / 2)

  -- looking at the four darts alone
  step-darts : (x y : ℕ) → is_member x these ≡ true → successor these x ≡ y → restricted (dart_count g) one (dart_after g r) (dart x) ≡ dart y
  step-darts x y m q = restricted-more (edge_count g) (dart_after g r) (dart_before g r) (map-permutes g r ok s) (λ z. is_member (z / 2) these) one (dart x) (dart x) (dart y)
      (dart_from-below g u x (met-edge x m)) ((orbit-equivalence (dart_count g) (dart_after g r)).reflexive (dart x)) (λ z t. one-here x z m t)
      (ap (λ e. is_member e these) (dart_from-edge g u x) ∙ m) (step-edges x y m q)

  -- also in a restriction that keeps them
  module _ (keep : ℕ → Bool) (kept : (x : ℕ) → is_member x these ≡ true → keep x ≡ true) where
    one-kept : (z : ℕ) → one z ≡ true → keep (z / 2) ≡ true
    one-kept z t = elim (four-cases (dart a) (dart b) (dart c) (dart d) z t) [
      | inl q ↦ at a (member-head a (b ∷ c ∷ d ∷ [])) q
      | inr t ↦ elim t [
        | inl q ↦ at b (member-tail b a (b ∷ c ∷ d ∷ []) (member-head b (c ∷ d ∷ []))) q
        | inr t ↦ elim t [
          | inl q ↦ at c (member-tail c a (b ∷ c ∷ d ∷ []) (member-tail c b (c ∷ d ∷ []) (member-head c (d ∷ [])))) q
          | inr q ↦ at d (member-tail d a (b ∷ c ∷ d ∷ []) (member-tail d b (c ∷ d ∷ []) (member-tail d c (d ∷ []) (member-head d [])))) q
        ]
      ]
    ]
      where
        at : (x : ℕ) → is_member x these ≡ true → z ≡ dart x → keep (z / 2) ≡ true
        at x m q = ap keep (ap (λ y. y / 2) q ∙ dart_from-edge g u x) ∙ kept x m

    abbrev left : ℕ → ℕ
    left = restricted (dart_count g) (λ z. keep (z / 2)) (dart_after g r)

    step-left : (x y : ℕ) → is_member x these ≡ true → successor these x ≡ y → restricted (dart_count g) one left (dart x) ≡ dart y
    step-left x y m q = restricted-twice (dart_count g) (λ z. keep (z / 2)) one (dart_after g r) (dart_before g r) (map-permutes g r ok s) one-kept (dart x) (dart_from-below g u x (met-edge x m)) ∙ step-darts x y m q

    in-a : is_member a these ≡ true
    in-a = member-head a (b ∷ c ∷ d ∷ [])

    in-b : is_member b these ≡ true
    in-b = member-tail b a (b ∷ c ∷ d ∷ []) (member-head b (c ∷ d ∷ []))

    in-c : is_member c these ≡ true
    in-c = member-tail c a (b ∷ c ∷ d ∷ []) (member-tail c b (c ∷ d ∷ []) (member-head c (d ∷ [])))

    in-d : is_member d these ≡ true
    in-d = member-tail d a (b ∷ c ∷ d ∷ []) (member-tail d b (c ∷ d ∷ []) (member-tail d c (d ∷ []) (member-head d [])))

    ab : a ≢ b
    ab q = no_member-head a b (c ∷ d ∷ []) (distinct-head a (b ∷ c ∷ d ∷ []) distinct) (sym q)

    ac : a ≢ c
    ac q = no_member-head a c (d ∷ []) (no_member-tail a b (c ∷ d ∷ []) (distinct-head a (b ∷ c ∷ d ∷ []) distinct)) (sym q)

    ad : a ≢ d
    ad q = no_member-head a d [] (no_member-tail a c (d ∷ []) (no_member-tail a b (c ∷ d ∷ []) (distinct-head a (b ∷ c ∷ d ∷ []) distinct))) (sym q)

    bc : b ≢ c
    bc q = no_member-head b c (d ∷ []) (distinct-head b (c ∷ d ∷ []) (distinct-tail a (b ∷ c ∷ d ∷ []) distinct)) (sym q)

    bd : b ≢ d
    bd q = no_member-head b d [] (no_member-tail b c (d ∷ []) (distinct-head b (c ∷ d ∷ []) (distinct-tail a (b ∷ c ∷ d ∷ []) distinct))) (sym q)

    cd : c ≢ d
    cd q = no_member-head c d [] (distinct-head c (d ∷ []) (distinct-tail b (c ∷ d ∷ []) (distinct-tail a (b ∷ c ∷ d ∷ []) distinct))) (sym q)

    pub edges-in_order : MetInOrder (edge_count g) (restricted (dart_count g) (λ z. keep (z / 2)) (dart_after g r)) (dart_from g u a) (dart_from g u b) (dart_from g u c) (dart_from g u d)
    edges-in_order = record {
      darts = (dart_from-below g u a (met-edge a in-a), dart_from-below g u b (met-edge b in-b), dart_from-below g u c (met-edge c in-c), dart_from-below g u d (met-edge d in-d));
      different = λ q. ac (dart_from-once g u a c q);
      first = step-left a b in-a (rw (eq-eqb a a refl) refl);
      second = step-left b c in-b (rw (ne_eqb a b ab, eq-eqb b b refl) refl);
      third = step-left c d in-c (rw (ne_eqb a c ac, ne_eqb b c bc, eq-eqb c c refl) refl);
      fourth = step-left d a in-d (rw (ne_eqb a d ad, ne_eqb b d bd, ne_eqb c d cd, eq-eqb d d refl) refl);
    }
