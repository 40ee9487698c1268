-- Two faces of a plane map that pass a common vertex: one such vertex has two darts between their corners.
use Rattle.std.proofs.Common.{◌≡◌, ◌≢◌, ℕ, ◌/◌, ◌<◌, ◌⊎◌, inl, inr, Bool, true, false, not, ◌&&◌, ◌||◌, ◌==◌, refl, sym, ap, ap₂, ◌∙◌, subst}
use Rattle.std.proofs.lemmas.Bool.{cases_Bool, both_ways, and_from, and_parts, not-true, not_from_false, or_left, or_right, or_cases, eq-eqb, eqb-true, ne_eqb, cases_eq}
use Rattle.permutations.specs.Count.{some}
use Rattle.permutations.specs.Relation.{IsEquivalence}
use Rattle.permutations.proofs.Relation.{same-tests}
use Rattle.permutations.proofs.Search.{some-witness, some-from}
use Rattle.permutations.proofs.Orbits.{orbit-equivalence, orbit-kept}
use Rattle.multigraph.specs.Graph.{Multigraph, edge_count}
use Rattle.dart_maps.specs.Map.{twin, face, same_vertex, same_face}
use Rattle.dart_maps.proofs.Darts.{twin-twin, twin-below}
use Rattle.dart_maps.proofs.Components.{component-test}
use Rattle.faces.specs.Euler.{tail, dart_count}
use Rattle.path_separation.specs.Drawn.{passes}
use Rattle.path_separation.proofs.DrawnMap.{IsDrawnMap, CornerOn, corner-passes, passes-corner, drawn-twin, next-drawn, corner-face, leaves-corner}

-- corners of one vertex on the faces of p and of q, with two darts or more from the one to the other
pub record IsFork (g : Multigraph) (drawn : ℕ → Bool) (next : ℕ → ℕ) (p q c d : ℕ) : Type 0 where
  pub c_in : c < dart_count g
  pub d_in : d < dart_count g
  pub c_drawn : drawn (c / 2) ≡ true
  pub d_drawn : drawn (d / 2) ≡ true
  pub one : tail g c ≡ tail g d
  pub long : next c ≢ d
  pub c_face : same_face (edge_count g) next p (twin c) ≡ true
  pub d_face : same_face (edge_count g) next q (twin d) ≡ true

-- p and q are on different faces, both of which pass the vertex of the drawn dart a; somewhere there are three drawn darts
module _ (g : Multigraph) (drawn : ℕ → Bool) (next previous : ℕ → ℕ) (s : IsDrawnMap g drawn next previous) (p q a b : ℕ)
    (apart : same_face (edge_count g) next p q ≡ false)
    (a_in : a < dart_count g) (a_drawn : drawn (a / 2) ≡ true) (p_passes : passes g drawn next p (tail g a) ≡ true) (q_passes : passes g drawn next q (tail g a) ≡ true)
    (b_in : b < dart_count g) (b_drawn : drawn (b / 2) ≡ true) (three : next (next b) ≢ b) where
  faces : IsEquivalence (same_face (edge_count g) next)
  faces = orbit-equivalence (dart_count g) (face next)

  abbrev common : ℕ → Bool
  common v = passes g drawn next p v && passes g drawn next q v

  -- a drawn dart at a vertex that both faces pass, with two others
  abbrev branches : ℕ → Bool
  branches z = (drawn (z / 2) && common (tail g z)) && not (next (next z) == z)

  -- where two steps lead from x back to x, its vertex has x and the dart after x alone
  two-darts : (x z : ℕ) → next (next x) ≡ x → same_vertex (edge_count g) next x z ≡ true → (z ≡ x) ⊎ (z ≡ next x)
  two-darts x z h t = elim (or_cases (z == x) (z == next x) (sym (orbit-kept (dart_count g) next previous s.permutes either kept x z t) ∙ or_left (x == x) (x == next x) (eq-eqb x x refl))) [
    | inl e ↦ inl (eqb-true z x e)
    | inr e ↦ inr (eqb-true z (next x) e)
  ]
    where
      either : ℕ → Bool
      either y = (y == x) || (y == next x)

      kept : (y : ℕ) → y < dart_count g → either y ≡ true → either (next y) ≡ true
      kept y l u = elim (or_cases (y == x) (y == next x) u) [
        | inl e ↦ or_right (next y == x) (next y == next x) (eq-eqb (next y) (next x) (ap next (eqb-true y x e)))
        | inr e ↦ or_left (next y == x) (next y == next x) (eq-eqb (next y) x (ap next (eqb-true y (next x) e) ∙ h))
      ]

  -- corners on different faces are different
  corners-differ : (c d : ℕ) → same_face (edge_count g) next p (twin c) ≡ true → same_face (edge_count g) next q (twin d) ≡ true → c ≢ d
  corners-differ c d h i e = both_ways (same_face (edge_count g) next p q) apart
      (faces.transitive p (twin c) q h (faces.symmetric q (twin c) (subst (λ z. same_face (edge_count g) next q (twin z) ≡ true) (sym e) i)))

  -- where the corner d follows the corner c, both faces pass the other end of d
  follows-on : (f h c d : ℕ) → c < dart_count g → d < dart_count g → drawn (d / 2) ≡ true → same_face (edge_count g) next f (twin c) ≡ true → same_face (edge_count g) next h (twin d) ≡ true → d ≡ next c
      → (passes g drawn next f (tail g (twin d)) ≡ true) × (passes g drawn next h (tail g (twin d)) ≡ true)
  follows-on f h c d l k i t u e = (
    corner-passes g drawn next f (tail g (twin d)) (
      twin d,
      twin-below (edge_count g) d k,
      drawn-twin drawn d ∙ i,
      refl,
      subst (λ z. same_face (edge_count g) next f z ≡ true) (sym e ∙ sym (twin-twin d)) (faces.transitive f (twin c) (next c) t (corner-face g drawn next previous s c l)),
    ),
    corner-passes g drawn next h (tail g (twin d)) (leaves-corner g drawn next previous s h (tail g (twin d)) (twin d, twin-below (edge_count g) d k, drawn-twin drawn d ∙ i, refl, u)),
  )

  common-parts : (v : ℕ) → common v ≡ true → (passes g drawn next p v ≡ true) × (passes g drawn next q v ≡ true)
  common-parts v h = and_parts (passes g drawn next p v) (passes g drawn next q v) h

  common-from : (v : ℕ) → (passes g drawn next p v ≡ true) × (passes g drawn next q v ≡ true) → common v ≡ true
  common-from v h = and_from (passes g drawn next p v) (passes g drawn next q v) h.0 h.1

  -- where no such vertex has three darts, both faces pass the other end of each dart there
  module _ (none : (z : ℕ) → z < dart_count g → branches z ≡ true → ⊥) where
    returns : (z : ℕ) → z < dart_count g → drawn (z / 2) ≡ true → common (tail g z) ≡ true → next (next z) ≡ z
    returns z l h i = elim (cases_eq (next (next z)) z) [
      | inl e ↦ e
      | inr n ↦ absurd (none z l (and_from (drawn (z / 2) && common (tail g z)) (not (next (next z) == z)) (and_from (drawn (z / 2)) (common (tail g z)) h i) (not_from_false (next (next z) == z) (ne_eqb (next (next z)) z n))))
    ]

    over : (z : ℕ) → z < dart_count g → drawn (z / 2) ≡ true → common (tail g z) ≡ true → common (tail g (twin z)) ≡ true
    over z l h i =
        let w = common-parts (tail g z) i in
        let c : CornerOn g drawn next p (tail g z) = passes-corner g drawn next p (tail g z) w.0 in
        let d : CornerOn g drawn next q (tail g z) = passes-corner g drawn next q (tail g z) w.1 in
        let c_back : next (next c.0) ≡ c.0 = returns c.0 c.1 c.2 (ap common c.3 ∙ i) in
        let d_back : next (next d.0) ≡ d.0 = returns d.0 d.1 d.2 (ap common d.3 ∙ i) in
        let n : c.0 ≢ d.0 = corners-differ c.0 d.0 c.4 d.4 in
        let d_is : d.0 ≡ next c.0 = elim (two-darts c.0 d.0 c_back (s.vertices c.0 d.0 c.1 d.1 c.2 d.2 (c.3 ∙ sym d.3))) [ inl e ↦ absurd (n (sym e)) | inr e ↦ e ] in
        let c_is : c.0 ≡ next d.0 = elim (two-darts d.0 c.0 d_back (s.vertices d.0 c.0 d.1 c.1 d.2 c.2 (d.3 ∙ sym c.3))) [ inl e ↦ absurd (n e) | inr e ↦ e ] in
        let at_d = follows-on p q c.0 d.0 c.1 d.1 d.2 c.4 d.4 d_is in
        let at_c = follows-on q p d.0 c.0 d.1 c.1 c.2 d.4 c.4 c_is in
        elim (two-darts c.0 z c_back (s.vertices c.0 z c.1 l c.2 h c.3)) [
          | inl e ↦ subst (λ y. common (tail g (twin y)) ≡ true) (sym e) (common-from (tail g (twin c.0)) (at_c.1, at_c.0))
          | inr e ↦ subst (λ y. common (tail g (twin y)) ≡ true) (d_is ∙ sym e) (common-from (tail g (twin d.0)) at_d)
        ]

    -- a dart is undrawn, or both faces pass its vertex
    abbrev within : ℕ → Bool
    within z = not (drawn (z / 2)) || common (tail g z)

    drawn-next : (z : ℕ) → z < dart_count g → drawn (next z / 2) ≡ drawn (z / 2)
    drawn-next z l = elim (cases_Bool (drawn (z / 2))) [
      | inl t ↦ next-drawn g drawn next previous s z l t ∙ sym t
      | inr u ↦ ap (λ y. drawn (y / 2)) (s.alone z l u)
    ]

    by-next : (z : ℕ) → z < dart_count g → within (next z) ≡ within z
    by-next z l = ap₂ (λ x y. not x || common y) (drawn-next z l) (s.tails z l)

    forth : (z : ℕ) → z < dart_count g → within z ≡ true → within (twin z) ≡ true
    forth z l t = elim (or_cases (not (drawn (z / 2))) (common (tail g z)) t) [
      | inl u ↦ or_left (not (drawn (twin z / 2))) (common (tail g (twin z))) (ap not (drawn-twin drawn z) ∙ u)
      | inr u ↦ elim (cases_Bool (drawn (z / 2))) [
        | inl h ↦ or_right (not (drawn (twin z / 2))) (common (tail g (twin z))) (over z l h u)
        | inr h ↦ or_left (not (drawn (twin z / 2))) (common (tail g (twin z))) (ap not (drawn-twin drawn z) ∙ not_from_false (drawn (z / 2)) h)
      ]
    ]

    by-twin : (z : ℕ) → z < dart_count g → within (twin z) ≡ within z
    by-twin z l = same-tests (within (twin z)) (within z)
        (λ t. subst (λ y. within y ≡ true) (twin-twin z) (forth (twin z) (twin-below (edge_count g) z l) t))
        (forth z l)

    nowhere : ⊥
    nowhere =
        let t : within b ≡ true = sym (component-test (edge_count g) next within by-next by-twin a b (s.joined a b a_in b_in a_drawn b_drawn))
        ∙ or_right (not (drawn (a / 2))) (common (tail g a)) (common-from (tail g a) (p_passes, q_passes)) in
        elim (or_cases (not (drawn (b / 2))) (common (tail g b)) t) [
          | inl u ↦ both_ways (drawn (b / 2)) (not-true (drawn (b / 2)) u) b_drawn
          | inr u ↦ three (returns b b_in b_drawn u)
        ]

  -- so some vertex that both faces pass has three darts
  branching : (z : ℕ) × (z < dart_count g) × (branches z ≡ true)
  branching = elim (cases_Bool (some (dart_count g) branches)) [
    | inl t ↦ some-witness (dart_count g) branches t
    | inr u ↦ absurd (nowhere (λ z l h. both_ways (some (dart_count g) branches) u (some-from (dart_count g) branches z l h)))
  ]

  -- and its corners on the two faces have two darts between them, in one order or the other
  pub fork : (c d : ℕ) × (IsFork g drawn next p q c d ⊎ IsFork g drawn next q p c d)
  fork =
      let z = branching in
      let w = and_parts (drawn (z.0 / 2) && common (tail g z.0)) (not (next (next z.0) == z.0)) z.2 in
      let v = and_parts (drawn (z.0 / 2)) (common (tail g z.0)) w.0 in
      let u = common-parts (tail g z.0) v.1 in
      let c : CornerOn g drawn next p (tail g z.0) = passes-corner g drawn next p (tail g z.0) u.0 in
      let d : CornerOn g drawn next q (tail g z.0) = passes-corner g drawn next q (tail g z.0) u.1 in
      elim (cases_eq (next c.0) d.0) [
        | inr n ↦ (c.0, d.0, inl (record { c_in = c.1; d_in = d.1; c_drawn = c.2; d_drawn = d.2; one = c.3 ∙ sym d.3; long = n; c_face = c.4; d_face = d.4 }))
        | inl e ↦ elim (cases_eq (next d.0) c.0) [
          | inr n ↦ (d.0, c.0, inr (record { c_in = d.1; d_in = c.1; c_drawn = d.2; d_drawn = c.2; one = d.3 ∙ sym c.3; long = n; c_face = d.4; d_face = c.4 }))
          | inl i ↦ absurd (both_ways (next (next z.0) == z.0) (not-true (next (next z.0) == z.0) w.1) (eq-eqb (next (next z.0)) z.0
              (elim (two-darts c.0 z.0 (ap next e ∙ i) (s.vertices c.0 z.0 c.1 z.1 c.2 v.0 c.3)) [
                | inl f ↦ ap (λ y. next (next y)) f ∙ ap next e ∙ i ∙ sym f
                | inr f ↦ ap (λ y. next (next y)) (f ∙ e) ∙ ap next i ∙ e ∙ sym (f ∙ e)
              ])))
        ]
      ]
