-- Connected simple plane maps with three vertices or more: the darts at a vertex, and no face with fewer than three darts.
use Rattle.std.proofs.Common.{◌≡◌, ◌≢◌, ℕ, ◌*◌, ◌/◌, ◌<◌, ◌≤◌, inl, inr, Bool, true, false, not, ◌&&◌, ◌||◌, ◌==◌, All, refl, sym, ap, ◌∙◌, subst, arith}
use Rattle.std.proofs.lemmas.Bool.{cases_eq, both_ways, eq-eqb, eqb-true, ne_eqb, or_cases, or_left, or_right, or_from, and_from, and_parts, not_from_false, false_from_ne_true, true_from_ne_false}
use Rattle.std.proofs.lemmas.List.Elements.{All-from_get_or}
use Rattle.permutations.proofs.Relation.{same-tests, connected-closed}
use Rattle.permutations.proofs.Search.{some-from, some-witness}
use Rattle.permutations.proofs.Permutations.{permutes-one-to-one}
use Rattle.permutations.proofs.Orbits.{orbit-step, orbit-kept}
use Rattle.dart_maps.specs.Map.{twin, face, same_vertex}
use Rattle.dart_maps.proofs.Darts.{twin-twin, twin-below, twin-even, face-permutes}
use Rattle.multigraph.specs.Graph.{Multigraph, ends_of}
use Rattle.multigraph.proofs.OtherEnd.{other_end-differs}
use Rattle.faces.specs.Euler.{tail, dart_count}
use Rattle.faces.proofs.DartLemmas.{dart-edge, tail-end, tail-first, tail-second}
use Rattle.faces.proofs.MapSteps.{tail-twin}
use Rattle.triangulations.specs.Triangulation.{IsSimpleMap}
use Rattle.triangulations.specs.Cutting.{are_joined, second_head, can_cut}

-- a number below n, which is 3 or more, that is neither of two
pub third-number : (a b n : ℕ) → 3 ≤ n → (w : ℕ) × (w < n) × (w ≢ a) × (w ≢ b)
third-number a b n l = elim (cases_eq a 0) [
  | inl i ↦ elim (cases_eq b 1) [ inl j ↦ (2, omega (arith, l), (λ e. omega (arith, i, e)), (λ e. omega (arith, j, e))) | inr j ↦ (1, omega (arith, l), (λ e. omega (arith, i, e)), λ e. j (sym e)) ]
  | inr i ↦ elim (cases_eq b 0) [
    | inl j ↦ elim (cases_eq a 1) [ inl k ↦ (2, omega (arith, l), (λ e. omega (arith, k, e)), (λ e. omega (arith, j, e))) | inr k ↦ (1, omega (arith, l), (λ e. k (sym e)), (λ e. omega (arith, j, e))) ]
    | inr j ↦ (0, omega (arith, l), (λ e. i (sym e)), λ e. j (sym e))
  ]
]

module _ (m : ℕ) (h : Multigraph) (next previous : ℕ → ℕ) (s : IsSimpleMap m h next previous) where
  -- a dart of the map is one of the graph
  dart-in : (d : ℕ) → d < 2 * m → d < dart_count h
  dart-in d l = let e = s.drawn.edges in omega (arith, l, e)

  -- the twin
  pub twin-in : (d : ℕ) → d < 2 * m → twin d < 2 * m
  twin-in = twin-below m

  -- the dart that follows
  pub next-in : (d : ℕ) → d < 2 * m → next d < 2 * m
  next-in = s.drawn.map.forth

  -- and the one along the face
  pub face-in : (d : ℕ) → d < 2 * m → face next d < 2 * m
  face-in d l = next-in (twin d) (twin-in d l)

  -- darts of one vertex of the map leave one vertex of the graph
  pub one-tail : (c d : ℕ) → c < 2 * m → d < 2 * m → same_vertex m next c d ≡ true → tail h c ≡ tail h d
  one-tail c d l k t = eqb-true (tail h c) (tail h d) (sym (s.drawn.told c d l k) ∙ t)

  -- and the other way round
  pub one-vertex : (c d : ℕ) → c < 2 * m → d < 2 * m → tail h c ≡ tail h d → same_vertex m next c d ≡ true
  one-vertex c d l k t = s.drawn.told c d l k ∙ eq-eqb (tail h c) (tail h d) t

  -- the dart that follows leaves the same vertex
  pub tail-next : (d : ℕ) → d < 2 * m → tail h (next d) ≡ tail h d
  tail-next d l = sym (one-tail d (next d) l (next-in d l) (orbit-step (2 * m) next d l))

  -- so does the one before
  pub tail-previous : (d : ℕ) → d < 2 * m → tail h (previous d) ≡ tail h d
  tail-previous d l = sym (tail-next (previous d) (s.drawn.map.back d l)) ∙ ap (tail h) (s.drawn.map.forth_back d l)

  -- a step along the face leaves the vertex where the dart arrives
  pub tail-face : (d : ℕ) → d < 2 * m → tail h (face next d) ≡ tail h (twin d)
  tail-face d l = tail-next (twin d) (twin-in d l)

  -- no edge is a loop
  pub no-loop : (d : ℕ) → d < 2 * m → tail h d ≡ tail h (twin d) → ⊥
  no-loop d l e = other_end-differs h (d / 2) (tail h d) s.graph (dart-edge h d (dart-in d l)) (tail-end h d) (sym (tail-twin h d s.graph (dart-in d l)) ∙ sym e)

  -- steps along faces from different darts are different
  pub face-one : (c d : ℕ) → c < 2 * m → d < 2 * m → face next c ≡ face next d → c ≡ d
  face-one = permutes-one-to-one (2 * m) (face next) (λ z. twin (previous z)) (face-permutes m next previous s.drawn.map)

  -- a dart that follows itself is the only one at its vertex
  pub only-dart : (d c : ℕ) → d < 2 * m → c < 2 * m → next d ≡ d → tail h c ≡ tail h d → c ≡ d
  only-dart d c l k e t = eqb-true c d (sym (orbit-kept (2 * m) next previous s.drawn.map (λ z. z == d) (λ z i j. eq-eqb (next z) d (ap next (eqb-true z d j) ∙ e)) d c (one-vertex d c l k (sym t))) ∙ eq-eqb d d refl)

  -- a dart that leads back is the twin
  pub back-twin : (c d : ℕ) → c < 2 * m → d < 2 * m → tail h c ≡ tail h (twin d) → tail h (twin c) ≡ tail h d → c ≡ twin d
  back-twin c d l k p q = s.simple c (twin d) l (twin-in d k) p (q ∙ ap (tail h) (sym (twin-twin d)))

  -- no face has one dart
  pub face-moves : (d : ℕ) → d < 2 * m → face next d ≡ d → ⊥
  face-moves d l e = no-loop d l (ap (tail h) (sym e) ∙ tail-face d l)

  -- where both darts of an edge are the only ones at their vertices there is no third vertex
  lone-edge : (d : ℕ) → d < 2 * m → next d ≡ d → next (twin d) ≡ twin d → ⊥
  lone-edge d l e f =
      let w = third-number (tail h d) (tail h (twin d)) h.vertex_count s.three in
      let one : at (tail h d) ≡ at w.0 = connected-closed h.ends at links (tail h d) w.0 (s.connected (tail h d) w.0 (s.drawn.inside d l) w.1) in
      both_ways (at w.0) (or_from (w.0 == tail h d) (w.0 == tail h (twin d)) (ne_eqb w.0 (tail h d) w.2) (ne_eqb w.0 (tail h (twin d)) w.3))
      (sym one ∙ or_left (tail h d == tail h d) (tail h d == tail h (twin d)) (eq-eqb (tail h d) (tail h d) refl))
    where
      at : ℕ → Bool
      at v = (v == tail h d) || (v == tail h (twin d))

      across : (c : ℕ) → c < 2 * m → at (tail h c) ≡ true → at (tail h (twin c)) ≡ true
      across c k t = elim (or_cases (tail h c == tail h d) (tail h c == tail h (twin d)) t) [
        | inl i ↦ let q : c ≡ d = only-dart d c l k e (eqb-true (tail h c) (tail h d) i) in
            or_right (tail h (twin c) == tail h d) (tail h (twin c) == tail h (twin d)) (eq-eqb (tail h (twin c)) (tail h (twin d)) (ap (λ z. tail h (twin z)) q))
        | inr i ↦ let q : c ≡ twin d = only-dart (twin d) c (twin-in d l) k f (eqb-true (tail h c) (tail h (twin d)) i) in
            or_left (tail h (twin c) == tail h d) (tail h (twin c) == tail h (twin d)) (eq-eqb (tail h (twin c)) (tail h d) (ap (λ z. tail h (twin z)) q ∙ ap (tail h) (twin-twin d)))
      ]

      both : (c : ℕ) → c < 2 * m → at (tail h c) ≡ at (tail h (twin c))
      both c k = same-tests (at (tail h c)) (at (tail h (twin c))) (across c k) (λ t. subst (λ z. at (tail h z) ≡ true) (twin-twin c) (across (twin c) (twin-in c k) t))

      links : All (λ link. at link.0 ≡ at link.1) h.ends
      links = All-from_get_or (λ (link : ℕ × ℕ). at link.0 ≡ at link.1) h.ends (0, 0) (λ i k. let c = s.drawn.edges in
          subst (λ z. at z ≡ at (ends_of h i).1) (tail-first h i)
          (subst (λ z. at (tail h (2 * i)) ≡ at z) (ap (tail h) (twin-even (2 * i) (omega arith)) ∙ tail-second h i) (both (2 * i) (omega (arith, k, c)))))

  -- no face has two darts
  pub face-returns : (d : ℕ) → d < 2 * m → face next (face next d) ≡ d → ⊥
  face-returns d l e =
      let i : face next d ≡ twin d = back-twin (face next d) d (face-in d l) l (tail-face d l) (sym (tail-face (face next d) (face-in d l)) ∙ ap (tail h) e) in
      lone-edge d l (ap next (sym (ap twin i ∙ twin-twin d)) ∙ e) i

  -- where some dart leads from u to v they are joined
  pub joined-from : (c u v : ℕ) → c < 2 * m → tail h c ≡ u → tail h (twin c) ≡ v → are_joined h u v ≡ true
  joined-from c u v l p q = some-from (dart_count h) (λ d. (tail h d == u) && (tail h (twin d) == v)) c (dart-in c l) (and_from (tail h c == u) (tail h (twin c) == v) (eq-eqb (tail h c) u p) (eq-eqb (tail h (twin c)) v q))

  -- and where they are joined here is a dart
  pub joined-dart : (u v : ℕ) → are_joined h u v ≡ true → (c : ℕ) × (c < 2 * m) × (tail h c ≡ u) × (tail h (twin c) ≡ v)
  joined-dart u v t =
      let w = some-witness (dart_count h) (λ d. (tail h d == u) && (tail h (twin d) == v)) t in
      let p = and_parts (tail h w.0 == u) (tail h (twin w.0) == v) w.2 in
      let e = s.drawn.edges in (w.0, omega (arith, w.1, e), eqb-true (tail h w.0) u p.0, eqb-true (tail h (twin w.0)) v p.1)

  -- when an edge can be added
  pub can-cut : (d : ℕ) → (tail h d ≡ second_head h next d → ⊥) → (are_joined h (tail h d) (second_head h next d) ≡ true → ⊥) → can_cut h next d ≡ true
  can-cut d a b = and_from (not (tail h d == second_head h next d)) (not (are_joined h (tail h d) (second_head h next d))) (not_from_false (tail h d == second_head h next d) (ne_eqb (tail h d) (second_head h next d) a))
      (not_from_false (are_joined h (tail h d) (second_head h next d)) (false_from_ne_true (are_joined h (tail h d) (second_head h next d)) b))

  -- where it cannot, and the vertices differ, they are joined
  pub cannot-cut : (d : ℕ) → can_cut h next d ≡ false → (tail h d ≡ second_head h next d → ⊥) → are_joined h (tail h d) (second_head h next d) ≡ true
  cannot-cut d f a = true_from_ne_false (are_joined h (tail h d) (second_head h next d)) (λ t. both_ways (can_cut h next d) f (can-cut d a (λ u. both_ways (are_joined h (tail h d) (second_head h next d)) t u)))

  -- after a dart that leads to a vertex of one edge, an edge can be added
  pub spur-cut : (d : ℕ) → d < 2 * m → tail h d ≡ second_head h next d → can_cut h next (face next d) ≡ true
  spur-cut d l a = can-cut e (λ q. face-returns d l (s.simple g d lg l (there ∙ sym a) (sym q ∙ tail-face d l))) (λ t. let c = joined-dart (tail h e) (second_head h next e) t in
      no-loop g lg (there ∙ sym a ∙ ap (tail h) (sym (twin-twin d)) ∙ sym (ap (λ z. tail h (twin z)) (only-dart (twin d) c.0 (twin-in d l) c.1 i (c.2 ∙ tail-face d l))) ∙ c.3))
    where
      e : ℕ
      e = face next d

      g : ℕ
      g = face next e

      le : face next d < 2 * m
      le = face-in d l

      lg : face next (face next d) < 2 * m
      lg = face-in (face next d) le

      there : tail h (face next (face next d)) ≡ tail h (twin (face next d))
      there = tail-face (face next d) le

      i : next (twin d) ≡ twin d
      i = back-twin (face next d) d le l (tail-face d l) (sym a)
