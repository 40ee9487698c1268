-- Renumbering: a map and its copy within another are plane together.
use Rattle.std.proofs.Common.{◌≡◌, ℕ, zero, suc, ◌+◌, ◌*◌, ◌/◌, ◌%◌, ◌<◌, inl, inr, Bool, true, false, cond, not, ◌&&◌, ◌==◌, refl, sym, ap, ◌∙◌, subst, subst₂, arith, eqb-true, eq-eqb}
use Rattle.std.proofs.lemmas.Bool.{cases_Bool, both_ways, false_from_ne_true, and_parts, and_from, and_left, and_right, ne_eqb}
use Rattle.permutations.specs.Count.{count}
use Rattle.permutations.specs.Relation.{IsEquivalence, class_count}
use Rattle.permutations.specs.Permutation.{same_orbit}
use Rattle.permutations.proofs.Relation.{same-tests}
use Rattle.permutations.proofs.Orbits.{orbit-least, orbit-equivalence, orbit-step, orbit-test}
use Rattle.dart_maps.specs.Map.{twin, face, IsMap, same_vertex, same_face, same_component, vertex_count, face_count, component_count, IsPlane}
use Rattle.dart_maps.proofs.Darts.{twin-even, twin-cases, twin-below, twin-edge, face-twin}
use Rattle.dart_maps.proofs.Components.{component-equivalence, component-next, component-twin, component-least, component-test}
use Rattle.permutations.specs.Relation.{leads_in, class_count_in}
use Rattle.permutations.proofs.Count.{count-ext, count-split, count-all, count-yes, count-no}
use Rattle.permutations.proofs.Injection.{count-bijection}
use Rattle.permutations.proofs.Leaders.{leads_in-from, leads_in-member, leads_in-before}
use Rattle.permutations.proofs.Classes.{class_count-closed, class_count_in-all, classes-transfer}
use Rattle.permutations.proofs.Unlinking.{alone-orbit}
use Rattle.permutations.proofs.Renaming.{equivalence-through}
use Rattle.dart_maps.specs.Renumbering.{IsRenumbering}

-- related where both are live and their images are, or where both are dead
pub copied : (ℕ → Bool) → (ℕ → ℕ) → (ℕ → ℕ → Bool) → ℕ → ℕ → Bool
copied live back r u v = cond (live u) (live v && r (back u) (back v)) (not (live v))

-- this is an equivalence
pub copied-equivalence : (live : ℕ → Bool) (back : ℕ → ℕ) (r : ℕ → ℕ → Bool) → IsEquivalence r → IsEquivalence (copied live back r)
unfolding copied
copied-equivalence live back r e = record {
  reflexive = λ x. grind (arith, e.reflexive (back x), cases_Bool (live x));
  symmetric = λ x y h. grind (arith, e.symmetric (back x) (back y), cases_Bool (live x), cases_Bool (live y));
  transitive = λ x y z h k. grind (arith, e.transitive (back x) (back y) (back z), cases_Bool (live x), cases_Bool (live y), cases_Bool (live z));
}

-- both live and related
pub copied-live : (live : ℕ → Bool) (back : ℕ → ℕ) (r : ℕ → ℕ → Bool) (u v : ℕ) → live u ≡ true → live v ≡ true → r (back u) (back v) ≡ true → copied live back r u v ≡ true
unfolding copied
copied-live live back r u v a c h = rw (a, c, h) refl

-- both dead
pub copied-dead : (live : ℕ → Bool) (back : ℕ → ℕ) (r : ℕ → ℕ → Bool) (u v : ℕ) → live u ≡ false → live v ≡ false → copied live back r u v ≡ true
unfolding copied
copied-dead live back r u v a c = rw (a, c) refl

-- what it says of live numbers
pub copied-says : (live : ℕ → Bool) (back : ℕ → ℕ) (r : ℕ → ℕ → Bool) (u v : ℕ) → live u ≡ true → copied live back r u v ≡ true → r (back u) (back v) ≡ true
unfolding copied
copied-says live back r u v a h = (and_parts (live v) (r (back u) (back v)) (rw a at h)).1

-- of numbers that come in pairs, as darts do, half are even
pub paired-count : (m : ℕ) (t : ℕ → Bool) → ((d : ℕ) → d < 2 * m → t (twin d) ≡ t d) → count (2 * m) t ≡ 2 * count (2 * m) (λ d. t d && (d % 2 == 0))
paired-count zero t h = refl
paired-count (suc m) t h = paired-step m t (paired-count m t (λ d l. h d (omega arith))) (ap t (sym (twin-even (2 * m) (omega arith))) ∙ h (2 * m) (omega arith))
  where
    paired-step : (m : ℕ) (t : ℕ → Bool) → count (2 * m) t ≡ 2 * count (2 * m) (λ d. t d && (d % 2 == 0)) → t (2 * m + 1) ≡ t (2 * m) → count (2 * suc m) t ≡ 2 * count (2 * suc m) (λ d. t d && (d % 2 == 0))
    paired-step m t i c = let e : 2 * suc m ≡ (2 * m + 1) + 1 = omega arith in
        let even : ((2 * m) % 2 == 0) ≡ true = eq-eqb ((2 * m) % 2) 0 (omega arith) in
        let odd : ((2 * m + 1) % 2 == 0) ≡ false = ne_eqb ((2 * m + 1) % 2) 0 (λ q. omega arith) in
        let s : ℕ → Bool = λ d. t d && (d % 2 == 0) in
        let no : count ((2 * m + 1) + 1) s ≡ count (2 * m + 1) s = count-no (2 * m + 1) s (and_right (t (2 * m + 1)) ((2 * m + 1) % 2 == 0) odd) in
        elim (cases_Bool (t (2 * m))) [
          | inl a ↦ let u : count (2 * m + 1) s ≡ count (2 * m) s + 1 = count-yes (2 * m) s (and_from (t (2 * m)) ((2 * m) % 2 == 0) a even) in
              ap (λ (n : ℕ). count n t) e ∙ count-yes (2 * m + 1) t (c ∙ a) ∙ ap (λ (n : ℕ). n + 1) (count-yes (2 * m) t a ∙ ap (λ (n : ℕ). n + 1) i) ∙ omega (arith, u, no) ∙ ap (λ (n : ℕ). 2 * count n s) (sym e)
          | inr a ↦ let u : count (2 * m + 1) s ≡ count (2 * m) s = count-no (2 * m) s (and_left (t (2 * m)) ((2 * m) % 2 == 0) a) in
              ap (λ (n : ℕ). count n t) e ∙ count-no (2 * m + 1) t (c ∙ a) ∙ count-no (2 * m) t a ∙ i ∙ omega (arith, u, no) ∙ ap (λ (n : ℕ). 2 * count n s) (sym e)
        ]

-- dead darts of which each is related to its twin alone: half of them lead
pub dead-classes : (m : ℕ) (t : ℕ → Bool) (r : ℕ → ℕ → Bool) → ((x y : ℕ) → t y ≡ true → r y x ≡ true → x / 2 ≡ y / 2) → ((d : ℕ) → d < 2 * m → t d ≡ true → r (twin d) d ≡ true) → ((d : ℕ) → d < 2 * m → t (twin d) ≡ t d) → class_count_in (2 * m) t r ≡ count (2 * m) (λ d. t d && (d % 2 == 0))
dead-classes m t r near pair whole = count-ext (2 * m) (leads_in t r) (λ d. t d && (d % 2 == 0)) first
  where
    first : (d : ℕ) → d < 2 * m → leads_in t r d ≡ (t d && (d % 2 == 0))
    first d l = elim (cases_Bool (t d)) [
      | inl h ↦ elim (twin-cases d) [
        | inl a ↦ leads_in-from t r d h (λ y k i. false_from_ne_true (r y d) (λ u. let q : d / 2 ≡ y / 2 = near d y i u in omega (arith, a.0))) ∙ sym (and_from (t d) (d % 2 == 0) h (eq-eqb (d % 2) 0 (a.0)))
        | inr a ↦ false_from_ne_true (leads_in t r d) (λ u. both_ways (r (twin d) d) (leads_in-before t r d (twin d) u (omega (arith, a.1)) (whole d l ∙ h)) (pair d l h)) ∙ sym (and_right (t d) (d % 2 == 0) (ne_eqb (d % 2) 0 (λ q. omega (arith, a.0))))
      ]
      | inr h ↦ false_from_ne_true (leads_in t r d) (λ u. both_ways (t d) h (leads_in-member t r d u)) ∙ sym (and_left (t d) (d % 2 == 0) h)
    ]

-- darts that are alone and related to themselves only: each leads
pub alone-classes : (n : ℕ) (t : ℕ → Bool) (r : ℕ → ℕ → Bool) → ((x y : ℕ) → y < n → t y ≡ true → r y x ≡ true → y ≡ x) → class_count_in n t r ≡ count n t
alone-classes n t r own = count-ext n (leads_in t r) t (λ d l. elim (cases_Bool (t d)) [
  | inl h ↦ leads_in-from t r d h (λ y k i. false_from_ne_true (r y d) (λ u. let q : y ≡ d = own d y (omega arith) i u in omega arith)) ∙ sym h
  | inr h ↦ false_from_ne_true (leads_in t r d) (λ u. both_ways (t d) h (leads_in-member t r d u)) ∙ sym h
])

-- a map within another
module _ (k : ℕ) (h i : ℕ → ℕ) (small : IsMap k h i) (m : ℕ) (f g : ℕ → ℕ) (big : IsMap m f g) (live : ℕ → Bool) (into back : ℕ → ℕ) (z : IsRenumbering k h m f live into back) where
  -- the step of the outer map keeps what is live
  live-step : (d : ℕ) → d < 2 * m → live (f d) ≡ live d
  live-step d l = elim (cases_Bool (live d)) [
    | inl t ↦ ap (λ (u : ℕ). live (f u)) (sym (z.into_back d l t)) ∙ ap live (sym (z.steps (back d) (z.darts_back d l t))) ∙ z.lives (h (back d)) (small.forth (back d) (z.darts_back d l t)) ∙ sym t
    | inr t ↦ ap live (z.others_alone d l t)
  ]

  -- so does the step along a face
  live-face : (d : ℕ) → d < 2 * m → live (face f d) ≡ live d
  live-face d l = live-step (twin d) (twin-below m d l) ∙ z.whole_edges d l

  -- the step of a live dart, seen in the inner map
  back-step : (d : ℕ) → d < 2 * m → live d ≡ true → back (f d) ≡ h (back d)
  back-step d l t = ap (λ (u : ℕ). back (f u)) (sym (z.into_back d l t)) ∙ ap back (sym (z.steps (back d) (z.darts_back d l t))) ∙ z.back_into (h (back d)) (small.forth (back d) (z.darts_back d l t))

  -- and its twin
  back-twin : (d : ℕ) → d < 2 * m → live d ≡ true → back (twin d) ≡ twin (back d)
  back-twin d l t = ap (λ (u : ℕ). back (twin u)) (sym (z.into_back d l t)) ∙ ap back (sym (z.twins (back d) (z.darts_back d l t))) ∙ z.back_into (twin (back d)) (twin-below k (back d) (z.darts_back d l t))

  -- orbits of a step that both maps share
  orbits : (s r : ℕ → ℕ) → ((d : ℕ) → d < 2 * k → into (r d) ≡ s (into d)) → ((d : ℕ) → d < 2 * m → live (s d) ≡ live d) → ((d : ℕ) → d < 2 * m → live d ≡ true → back (s d) ≡ r (back d)) → (x y : ℕ) → x < 2 * k → y < 2 * k → same_orbit (2 * k) r x y ≡ same_orbit (2 * m) s (into x) (into y)
  orbits s r there keeps here x y a c = same-tests (same_orbit (2 * k) r x y) (same_orbit (2 * m) s (into x) (into y))
      (orbit-least (2 * k) r (λ u v. same_orbit (2 * m) s (into u) (into v)) (equivalence-through (same_orbit (2 * m) s) into (orbit-equivalence (2 * m) s))
      (λ d l. subst (λ (w : ℕ). same_orbit (2 * m) s (into d) w ≡ true) (sym (there d l)) (orbit-step (2 * m) s (into d) (z.darts d l))) x y)
      (λ t. subst₂ (λ (u v : ℕ). same_orbit (2 * k) r u v ≡ true) (z.back_into x a) (z.back_into y c) (copied-says live back (same_orbit (2 * k) r) (into x) (into y) (z.lives x a)
      (orbit-least (2 * m) s (copied live back (same_orbit (2 * k) r)) (copied-equivalence live back (same_orbit (2 * k) r) (orbit-equivalence (2 * k) r))
      (λ d l. elim (cases_Bool (live d)) [
        | inl w ↦ copied-live live back (same_orbit (2 * k) r) d (s d) w (keeps d l ∙ w) (subst (λ (u : ℕ). same_orbit (2 * k) r (back d) u ≡ true) (sym (here d l w)) (orbit-step (2 * k) r (back d) (z.darts_back d l w)))
        | inr w ↦ copied-dead live back (same_orbit (2 * k) r) d (s d) w (keeps d l ∙ w)
      ]) (into x) (into y) t)))

  -- the components that both maps share
  components : (x y : ℕ) → x < 2 * k → y < 2 * k → same_component k h x y ≡ same_component m f (into x) (into y)
  components x y a c = same-tests (same_component k h x y) (same_component m f (into x) (into y))
      (component-least k h (λ u v. same_component m f (into u) (into v)) (equivalence-through (same_component m f) into (component-equivalence m f))
      (λ d l. subst (λ (w : ℕ). same_component m f (into d) w ≡ true) (sym (z.steps d l)) (component-next m f (into d) (z.darts d l)))
      (λ d l. subst (λ (w : ℕ). same_component m f (into d) w ≡ true) (sym (z.twins d l)) (component-twin m f (into d) (z.darts d l))) x y)
      (λ t. subst₂ (λ (u v : ℕ). same_component k h u v ≡ true) (z.back_into x a) (z.back_into y c) (copied-says live back (same_component k h) (into x) (into y) (z.lives x a)
      (component-least m f (copied live back (same_component k h)) (copied-equivalence live back (same_component k h) (component-equivalence k h))
      (λ d l. elim (cases_Bool (live d)) [
        | inl w ↦ copied-live live back (same_component k h) d (f d) w (live-step d l ∙ w) (subst (λ (u : ℕ). same_component k h (back d) u ≡ true) (sym (back-step d l w)) (component-next k h (back d) (z.darts_back d l w)))
        | inr w ↦ copied-dead live back (same_component k h) d (f d) w (live-step d l ∙ w)
      ])
      (λ d l. elim (cases_Bool (live d)) [
        | inl w ↦ copied-live live back (same_component k h) d (twin d) w (z.whole_edges d l ∙ w) (subst (λ (u : ℕ). same_component k h (back d) u ≡ true) (sym (back-twin d l w)) (component-twin k h (back d) (z.darts_back d l w)))
        | inr w ↦ copied-dead live back (same_component k h) d (twin d) w (z.whole_edges d l ∙ w)
      ]) (into x) (into y) t)))

  -- the live classes of the outer map are the classes of the inner one
  live-classes : (r s : ℕ → ℕ → Bool) → IsEquivalence s → ((x y : ℕ) → x < 2 * k → y < 2 * k → r x y ≡ s (into x) (into y)) → class_count_in (2 * m) live s ≡ class_count (2 * k) r
  live-classes r s e c = sym (sym (class_count_in-all (2 * k) (λ d. true) r (λ d l. refl)) ∙ classes-transfer (2 * k) (2 * m) (λ d. true) live r s into e
      (λ d l t. z.darts d l) (λ d l t. z.lives d l) (λ x y a b t u. c x y a b)
      (λ d l t. (back d, z.darts_back d l t, refl, subst (λ (u : ℕ). s u d ≡ true) (sym (z.into_back d l t)) (e.reflexive d))))

  -- dead darts
  abbrev dead : ℕ → Bool
  dead d = not (live d)

  -- a dead dart fails the test
  dead-not : (d : ℕ) → dead d ≡ true → live d ≡ false
  dead-not d t = grind (arith, cases_Bool (live d))

  -- dead edges are whole
  dead-whole : (d : ℕ) → d < 2 * m → dead (twin d) ≡ dead d
  dead-whole d l = ap not (z.whole_edges d l)

  -- darts of one dead edge
  abbrev of_edge : ℕ → ℕ → Bool
  of_edge y x = not (live x) && (x / 2 == y / 2)

  -- a step that keeps what is live and each dead edge keeps this
  of-edge-step : (s : ℕ → ℕ) → ((d : ℕ) → d < 2 * m → live (s d) ≡ live d) → ((d : ℕ) → d < 2 * m → live d ≡ false → s d / 2 ≡ d / 2) → (y d : ℕ) → d < 2 * m → of_edge y (s d) ≡ of_edge y d
  of-edge-step s keeps stays y d l = elim (cases_Bool (live d)) [
    | inl t ↦ rw (keeps d l, t) refl
    | inr t ↦ rw (keeps d l, t, stays d l t) refl
  ]

  -- the vertices: each dead dart is one
  vertices-more : vertex_count m f ≡ vertex_count k h + count (2 * m) (λ d. not (live d))
  vertices-more = omega (
    arith,
    class_count-closed (2 * m) live (same_vertex m f) (orbit-test (2 * m) f live live-step),
    live-classes (same_vertex k h) (same_vertex m f) (orbit-equivalence (2 * m) f) (orbits f h z.steps live-step back-step),
    alone-classes (2 * m) dead (same_vertex m f) (λ x y l t u. alone-orbit (2 * m) y f g big l (z.others_alone y l (dead-not y t)) x u),
  )

  -- the faces: each dead edge is one
  faces-more : face_count m f ≡ face_count k h + count (2 * m) (λ d. not (live d) && (d % 2 == 0))
  faces-more = omega (
    arith,
    class_count-closed (2 * m) live (same_face m f) (orbit-test (2 * m) (face f) live live-face),
    live-classes (same_face k h) (same_face m f) (orbit-equivalence (2 * m) (face f)) (orbits (face f) (face h)
        (λ d l. z.steps (twin d) (twin-below k d l) ∙ ap f (z.twins d l)) live-face
        (λ d l t. back-step (twin d) (twin-below m d l) (z.whole_edges d l ∙ t) ∙ ap h (back-twin d l t))),
    dead-classes m dead (same_face m f) (λ x y t u. eqb-true (x / 2) (y / 2) (and_parts (not (live x)) (x / 2 == y / 2) (sym (orbit-test (2 * m) (face f) (of_edge y) (of-edge-step (face f) live-face (λ d l w. ap (λ (v : ℕ). v / 2) (z.others_alone (twin d) (twin-below m d l) (z.whole_edges d l ∙ w)) ∙ twin-edge d) y) y x u) ∙ and_from (not (live y)) (y / 2 == y / 2) t (eq-eqb (y / 2) (y / 2) refl))).1)
        (λ d l t. subst (λ (u : ℕ). same_face m f (twin d) u ≡ true) (face-twin f d ∙ z.others_alone d l (dead-not d t)) (orbit-step (2 * m) (face f) (twin d) (twin-below m d l))) dead-whole,
  )

  -- the components: each dead edge is one
  components-more : component_count m f ≡ component_count k h + count (2 * m) (λ d. not (live d) && (d % 2 == 0))
  components-more = omega (
    arith,
    class_count-closed (2 * m) live (same_component m f) (component-test m f live live-step z.whole_edges),
    live-classes (same_component k h) (same_component m f) (component-equivalence m f) components,
    dead-classes m dead (same_component m f) (λ x y t u. eqb-true (x / 2) (y / 2) (and_parts (not (live x)) (x / 2 == y / 2) (sym (component-test m f (of_edge y) (of-edge-step f live-step (λ d l w. ap (λ (v : ℕ). v / 2) (z.others_alone d l w)) y) (of-edge-step twin z.whole_edges (λ d l w. twin-edge d) y) y x u) ∙ and_from (not (live y)) (y / 2 == y / 2) t (eq-eqb (y / 2) (y / 2) refl))).1)
        (λ d l t. (component-equivalence m f).symmetric d (twin d) (component-twin m f d l)) dead-whole,
  )

  -- the edges
  edges-more : m ≡ k + count (2 * m) (λ d. not (live d) && (d % 2 == 0))
  edges-more = omega (
    arith,
    count-split (2 * m) (λ d. true) live,
    count-all (2 * m) (λ d. true) (λ d l. refl),
    paired-count m dead dead-whole,
    count-bijection (2 * k) (2 * m) (λ d. true) live into back (λ d l t. z.darts d l) (λ d l t. z.lives d l) (λ d l t. z.back_into d l) (λ d l t. z.darts_back d l t) (λ d l t. refl) (λ d l t. z.into_back d l t),
    count-all (2 * k) (λ d. true) (λ d l. refl),
  )

  -- the dead darts are twice as many as the dead edges
  dead-count : count (2 * m) (λ d. not (live d)) ≡ 2 * count (2 * m) (λ d. not (live d) && (d % 2 == 0))
  dead-count = paired-count m dead dead-whole

  -- the outer map is plane where the inner one is
  pub renumber-plane : IsPlane k h → IsPlane m f
  renumber-plane p = omega (arith, vertices-more, faces-more, components-more, edges-more, dead-count)

  -- and the inner where the outer is
  pub renumber-plane-back : IsPlane m f → IsPlane k h
  renumber-plane-back p = omega (arith, vertices-more, faces-more, components-more, edges-more, dead-count)
