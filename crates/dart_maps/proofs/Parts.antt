-- A map in two parts without connection: it is plane exactly where both parts are.
use Rattle.std.proofs.Common.{◌≡◌, ℕ, ◌+◌, ◌*◌, ◌/◌, ◌%◌, ◌<◌, inl, inr, Bool, true, false, not, ◌&&◌, ◌==◌, refl, sym, ap, ◌∙◌, subst, arith, eqb-true, eq-eqb}
use Rattle.std.proofs.lemmas.Bool.{cases_Bool, and_parts, and_from}
use Rattle.permutations.specs.Count.{count}
use Rattle.permutations.specs.Permutation.{same_orbit}
use Rattle.permutations.proofs.Relation.{same-tests}
use Rattle.permutations.proofs.Orbits.{orbit-least, orbit-equivalence, orbit-step, orbit-test}
use Rattle.dart_maps.specs.Map.{twin, face, IsMap, same_vertex, same_face, same_component, vertex_count, face_count, component_count, IsPlane}
use Rattle.dart_maps.proofs.Darts.{twin-below, twin-edge, face-twin}
use Rattle.dart_maps.proofs.Components.{component-equivalence, component-next, component-twin, component-least, component-test}
use Rattle.permutations.specs.Relation.{class_count_in}
use Rattle.permutations.specs.Exchange.{restricted}
use Rattle.permutations.proofs.Count.{count-split, count-all}
use Rattle.permutations.proofs.Classes.{class_count-closed, class_count_in-ext}
use Rattle.permutations.proofs.Unlinking.{alone-orbit}
use Rattle.permutations.proofs.Restriction.{restricted-alone, restricted-next, restricted-permutes}
use Rattle.dart_maps.proofs.Plane.{restricted-plane}
use Rattle.dart_maps.proofs.Renumber.{copied-equivalence, copied-live, copied-dead, copied-says, copied, paired-count, dead-classes, alone-classes}

-- two steps that agree where a test passes and both keep the test: there one's orbits lie within the other's
part-within : (n : ℕ) (t : ℕ → Bool) (a s : ℕ → ℕ) → ((z : ℕ) → z < n → t (a z) ≡ t z) → ((z : ℕ) → z < n → t z ≡ true → a z ≡ s z) → (x y : ℕ) → t x ≡ true → same_orbit n a x y ≡ true → same_orbit n s x y ≡ true
part-within n t a s keep same x y h k = copied-says t (λ z. z) (same_orbit n s) x y h (orbit-least n a (copied t (λ z. z) (same_orbit n s)) (copied-equivalence t (λ z. z) (same_orbit n s) (orbit-equivalence n s)) (λ z l. elim (cases_Bool (t z)) [
  | inl w ↦ copied-live t (λ z. z) (same_orbit n s) z (a z) w (keep z l ∙ w) (subst (λ (u : ℕ). same_orbit n s z u ≡ true) (sym (same z l w)) (orbit-step n s z l))
  | inr w ↦ copied-dead t (λ z. z) (same_orbit n s) z (a z) w (keep z l ∙ w)
]) x y k)

-- so they are the same there
part-orbit : (n : ℕ) (t : ℕ → Bool) (a s : ℕ → ℕ) → ((z : ℕ) → z < n → t (a z) ≡ t z) → ((z : ℕ) → z < n → t (s z) ≡ t z) → ((z : ℕ) → z < n → t z ≡ true → a z ≡ s z) → (x y : ℕ) → t x ≡ true → same_orbit n a x y ≡ same_orbit n s x y
part-orbit n t a s keep stay same x y h = same-tests (same_orbit n a x y) (same_orbit n s x y) (part-within n t a s keep same x y h) (part-within n t s a stay (λ z l w. sym (same z l w)) x y h)

-- the same for components
component-part : (m : ℕ) (t : ℕ → Bool) (a s : ℕ → ℕ) → ((z : ℕ) → z < 2 * m → t (a z) ≡ t z) → ((z : ℕ) → z < 2 * m → t (twin z) ≡ t z) → ((z : ℕ) → z < 2 * m → t z ≡ true → a z ≡ s z) → (x y : ℕ) → t x ≡ true → same_component m a x y ≡ true → same_component m s x y ≡ true
component-part m t a s keep whole same x y h k = copied-says t (λ z. z) (same_component m s) x y h (component-least m a (copied t (λ z. z) (same_component m s)) (copied-equivalence t (λ z. z) (same_component m s) (component-equivalence m s))
    (λ z l. elim (cases_Bool (t z)) [
      | inl w ↦ copied-live t (λ z. z) (same_component m s) z (a z) w (keep z l ∙ w) (subst (λ (u : ℕ). same_component m s z u ≡ true) (sym (same z l w)) (component-next m s z l))
      | inr w ↦ copied-dead t (λ z. z) (same_component m s) z (a z) w (keep z l ∙ w)
    ])
    (λ z l. elim (cases_Bool (t z)) [
      | inl w ↦ copied-live t (λ z. z) (same_component m s) z (twin z) w (whole z l ∙ w) (component-twin m s z l)
      | inr w ↦ copied-dead t (λ z. z) (same_component m s) z (twin z) w (whole z l ∙ w)
    ]) x y k)

-- a map and a part of it that is not connected with the rest
module _ (m : ℕ) (f g : ℕ → ℕ) (b : IsMap m f g) (t : ℕ → Bool) (keep : (d : ℕ) → d < 2 * m → t (f d) ≡ t d) (whole : (d : ℕ) → d < 2 * m → t (twin d) ≡ t d) where
  -- the part alone
  abbrev part : ℕ → ℕ
  part = restricted (2 * m) t f

  -- it is a map
  part-map : IsMap m (restricted (2 * m) t f) (restricted (2 * m) t g)
  part-map = restricted-permutes (2 * m) t f g b

  -- inside it is the map
  inside : (d : ℕ) → d < 2 * m → t d ≡ true → part d ≡ f d
  inside d l h = restricted-next (2 * m) t f g b d l h (keep d l ∙ h)

  -- outside all darts are alone
  outside : (d : ℕ) → t d ≡ false → part d ≡ d
  outside d h = restricted-alone (2 * m) t f d h

  -- its steps keep the part
  part-keeps : (d : ℕ) → d < 2 * m → t (part d) ≡ t d
  part-keeps d l = elim (cases_Bool (t d)) [ inl h ↦ ap t (inside d l h) ∙ keep d l | inr h ↦ ap t (outside d h) ]

  -- so do the steps along faces of the part
  part-face-keeps : (d : ℕ) → d < 2 * m → t (face part d) ≡ t d
  part-face-keeps d l = part-keeps (twin d) (twin-below m d l) ∙ whole d l

  -- and of the map
  face-keeps : (d : ℕ) → d < 2 * m → t (face f d) ≡ t d
  face-keeps d l = keep (twin d) (twin-below m d l) ∙ whole d l

  -- the darts outside
  abbrev dead : ℕ → Bool
  dead d = not (t d)

  -- fail the test
  dead-not : (d : ℕ) → dead d ≡ true → t d ≡ false
  dead-not d h = grind (arith, cases_Bool (t d))

  -- and are whole edges
  dead-whole : (d : ℕ) → d < 2 * m → dead (twin d) ≡ dead d
  dead-whole d l = ap not (whole d l)

  -- darts of one edge outside
  abbrev of_edge : ℕ → ℕ → Bool
  of_edge y x = not (t x) && (x / 2 == y / 2)

  -- a step that keeps the part and each edge outside keeps this
  of-edge-step : (s : ℕ → ℕ) → ((d : ℕ) → d < 2 * m → t (s d) ≡ t d) → ((d : ℕ) → d < 2 * m → t d ≡ false → s d / 2 ≡ d / 2) → (y d : ℕ) → d < 2 * m → of_edge y (s d) ≡ of_edge y d
  of-edge-step s keeps stays y d l = elim (cases_Bool (t d)) [
    | inl h ↦ rw (keeps d l, h) refl
    | inr h ↦ rw (keeps d l, h, stays d l h) refl
  ]

  -- what is of one edge outside is of one edge
  of-edge-says : (y x : ℕ) → dead y ≡ true → of_edge y x ≡ of_edge y y → x / 2 ≡ y / 2
  of-edge-says y x h e = eqb-true (x / 2) (y / 2) (and_parts (not (t x)) (x / 2 == y / 2) (e ∙ and_from (not (t y)) (y / 2 == y / 2) h (eq-eqb (y / 2) (y / 2) refl))).1

  -- the vertices of the part: those inside, and each dart outside
  pub part-vertices : vertex_count m (restricted (2 * m) t f) ≡ class_count_in (2 * m) t (same_vertex m f) + count (2 * m) (λ d. not (t d))
  part-vertices = omega (
    arith,
    class_count-closed (2 * m) t (same_vertex m part) (orbit-test (2 * m) part t part-keeps),
    class_count_in-ext (2 * m) t t (same_vertex m part) (same_vertex m f) (λ x l. refl) (λ x y l k h i. part-orbit (2 * m) t part f part-keeps keep inside x y h),
    alone-classes (2 * m) dead (same_vertex m part) (λ x y l h i. alone-orbit (2 * m) y part (restricted (2 * m) t g) part-map l (outside y (dead-not y h)) x i),
  )

  -- the faces: those inside, and each edge outside
  pub part-faces : face_count m (restricted (2 * m) t f) ≡ class_count_in (2 * m) t (same_face m f) + count (2 * m) (λ d. not (t d) && (d % 2 == 0))
  part-faces = omega (
    arith,
    class_count-closed (2 * m) t (same_face m part) (orbit-test (2 * m) (face part) t part-face-keeps),
    class_count_in-ext (2 * m) t t (same_face m part) (same_face m f) (λ x l. refl) (λ x y l k h i. part-orbit (2 * m) t (face part) (face f) part-face-keeps face-keeps (λ z j w. inside (twin z) (twin-below m z j) (whole z j ∙ w)) x y h),
    dead-classes m dead (same_face m part)
        (λ x y h i. of-edge-says y x h (sym (orbit-test (2 * m) (face part) (of_edge y) (of-edge-step (face part) part-face-keeps (λ d l w. ap (λ (v : ℕ). v / 2) (outside (twin d) (whole d l ∙ w)) ∙ twin-edge d) y) y x i)))
        (λ d l h. subst (λ (u : ℕ). same_face m part (twin d) u ≡ true) (face-twin part d ∙ outside d (dead-not d h)) (orbit-step (2 * m) (face part) (twin d) (twin-below m d l))) dead-whole,
  )

  -- the components: those inside, and each edge outside
  pub part-components : component_count m (restricted (2 * m) t f) ≡ class_count_in (2 * m) t (same_component m f) + count (2 * m) (λ d. not (t d) && (d % 2 == 0))
  part-components = omega (
    arith,
    class_count-closed (2 * m) t (same_component m part) (component-test m part t part-keeps whole),
    class_count_in-ext (2 * m) t t (same_component m part) (same_component m f) (λ x l. refl) (λ x y l k h i. same-tests (same_component m part x y) (same_component m f x y) (component-part m t part f part-keeps whole inside x y h) (component-part m t f part keep whole (λ z j w. sym (inside z j w)) x y h)),
    dead-classes m dead (same_component m part)
        (λ x y h i. of-edge-says y x h (sym (component-test m part (of_edge y) (of-edge-step part part-keeps (λ d l w. ap (λ (v : ℕ). v / 2) (outside d w)) y) (of-edge-step twin whole (λ d l w. twin-edge d) y) y x i)))
        (λ d l h. (component-equivalence m part).symmetric d (twin d) (component-twin m part d l)) dead-whole,
  )

-- a map falls into a part and the rest: what is counted in the two, beside the dead darts, is what is counted in the map
module _ (m : ℕ) (f g : ℕ → ℕ) (b : IsMap m f g) (t : ℕ → Bool) (keep : (d : ℕ) → d < 2 * m → t (f d) ≡ t d) (whole : (d : ℕ) → d < 2 * m → t (twin d) ≡ t d) where
  -- the rest
  abbrev rest : ℕ → Bool
  rest d = not (t d)

  -- its steps keep it
  rest-keep : (d : ℕ) → d < 2 * m → rest (f d) ≡ rest d
  rest-keep d l = ap not (keep d l)

  -- and it has whole edges
  rest-whole : (d : ℕ) → d < 2 * m → rest (twin d) ≡ rest d
  rest-whole d l = ap not (whole d l)

  -- vertices: each dart is dead in one of the two
  pub parts-vertices : vertex_count m (restricted (2 * m) t f) + vertex_count m (restricted (2 * m) (λ d. not (t d)) f) ≡ vertex_count m f + 2 * m
  parts-vertices = omega (arith, part-vertices m f g b t keep whole, part-vertices m f g b rest rest-keep rest-whole, class_count-closed (2 * m) t (same_vertex m f) (orbit-test (2 * m) f t keep), all-darts)
    where
      all-darts : count (2 * m) (λ d. not (t d)) + count (2 * m) (λ d. not (not (t d))) ≡ 2 * m
      all-darts = sym (count-split (2 * m) (λ d. true) (λ d. not (t d))) ∙ count-all (2 * m) (λ d. true) (λ d l. refl)

  -- the dead edges of the two are all edges
  all-edges : count (2 * m) (λ d. not (t d) && (d % 2 == 0)) + count (2 * m) (λ d. not (not (t d)) && (d % 2 == 0)) ≡ m
  all-edges = omega (arith, sym (count-split (2 * m) (λ d. true) (λ d. not (t d))) ∙ count-all (2 * m) (λ d. true) (λ d l. refl), paired-count m rest rest-whole, paired-count m (λ d. not (not (t d))) (λ d l. ap not (rest-whole d l)))

  -- faces
  pub parts-faces : face_count m (restricted (2 * m) t f) + face_count m (restricted (2 * m) (λ d. not (t d)) f) ≡ face_count m f + m
  parts-faces = omega (arith, part-faces m f g b t keep whole, part-faces m f g b rest rest-keep rest-whole, class_count-closed (2 * m) t (same_face m f) (orbit-test (2 * m) (face f) t (λ d l. keep (twin d) (twin-below m d l) ∙ whole d l)), all-edges)

  -- components
  pub parts-components : component_count m (restricted (2 * m) t f) + component_count m (restricted (2 * m) (λ d. not (t d)) f) ≡ component_count m f + m
  parts-components = omega (arith, part-components m f g b t keep whole, part-components m f g b rest rest-keep rest-whole, class_count-closed (2 * m) t (same_component m f) (component-test m f t keep whole), all-edges)

  -- a map is plane where both parts are
  pub parts-plane : IsPlane m (restricted (2 * m) t f) → IsPlane m (restricted (2 * m) (λ d. not (t d)) f) → IsPlane m f
  parts-plane p q = omega (arith, p, q, parts-vertices, parts-faces, parts-components)

  -- and both parts are where the map is
  pub parts-plane-back : IsPlane m f → IsPlane m (restricted (2 * m) t f) × IsPlane m (restricted (2 * m) (λ d. not (t d)) f)
  parts-plane-back p = (restricted-plane m f g b p t, restricted-plane m f g b p (λ d. not (t d)))
