-- Chords of a face of a plane map do not cross. The chord is contracted, and the map is split at the two corners of the face that were
-- at its ends: so it falls apart, and what is on one side of the chord is not connected with what is on the other.
use Rattle.std.proofs.Common.{◌≡◌, ◌≢◌, ℕ, ◌*◌, ◌<◌, inl, inr, Bool, true, false, ◌||◌, ◌==◌, List, [], ◌∷◌, ◌++◌, map, refl, sym, ap, ◌∙◌, subst, append_assoc, arith}
use Rattle.std.proofs.lemmas.Bool.{cases_Bool, both_ways, true≢false, eq-eqb, ne_eqb, eqb-true, or_from}
use Rattle.permutations.specs.Members.{is_member, is_distinct}
use Rattle.permutations.specs.Exchange.{exchange}
use Rattle.std.proofs.lemmas.List.{map-append}
use Rattle.permutations.proofs.Members.{member-head, member-tail, member-cases, member-append_left, member-append_right, member-append_cases, distinct-append_right}
use Rattle.permutations.proofs.Relation.{join-across}
use Rattle.permutations.proofs.Permutations.{exchange-other}
use Rattle.permutations.proofs.Orbits.{orbit-equivalence, orbit-step}
use Rattle.permutations.proofs.Unlinking.{before-orbit}
use Rattle.dart_maps.specs.Map.{twin, face, IsMap, same_vertex, same_face, same_component, IsPlane}
use Rattle.dart_maps.specs.Order.{frozen}
use Rattle.dart_maps.specs.Changes.{dropped, contracted}
use Rattle.dart_maps.proofs.Darts.{twin-twin, twin-below, twin-back}
use Rattle.dart_maps.proofs.Steps.{back_after}
use Rattle.dart_maps.proofs.Components.{component-equivalence, component-next, component-twin, component-finer}
use Rattle.dart_maps.proofs.Plane.{corner-cut}
use Rattle.dart_maps.proofs.Contract.{contracted-other, contracted-map, contracted-vertex, contract-plane}
use Rattle.dart_maps.proofs.FourDarts.{frozen-here, frozen-elsewhere}
use Rattle.faces.proofs.RestrictedConnection.{opened-vertex}
use Rattle.canonical_orders.specs.Contours.{Successive}
use Rattle.canonical_orders.proofs.ChordLists.{successive-tail, successive-left, successive-right, successive-before, successive-related, values-apart}

-- a plane map some of whose darts are kept, the others being alone, with a number for each vertex, which all its darts have
pub record IsKeptMap (m : ℕ) (f g : ℕ → ℕ) (keep : ℕ → Bool) (t : ℕ → ℕ) : Type 0 where
  pub map : IsMap m f g
  pub plane : IsPlane m f
  pub twins : (d : ℕ) → keep (twin d) ≡ keep d
  pub stays : (d : ℕ) → d < 2 * m → keep d ≡ true → keep (f d) ≡ true
  pub alone : (d : ℕ) → keep d ≡ false → f d ≡ d
  pub told : (c d : ℕ) → c < 2 * m → d < 2 * m → keep c ≡ true → keep d ≡ true → same_vertex m f c d ≡ (t c == t d)

-- a dart that is kept
abbrev pub IsKept : ℕ → (ℕ → Bool) → ℕ → Type 0
IsKept m keep d = (d < 2 * m) × (keep d ≡ true)

-- the step along the face that leads from y to x
abbrev pub FaceStep : (ℕ → ℕ) → ℕ → ℕ → Type 0
FaceStep f x y = f (twin y) ≡ x

-- the step around a vertex leads to a dart of the same vertex
pub turn-tail : (m : ℕ) (f g : ℕ → ℕ) (keep : ℕ → Bool) (t : ℕ → ℕ) → IsKeptMap m f g keep t → (d : ℕ) → IsKept m keep d → t (f d) ≡ t d
turn-tail m f g keep t k d i = sym (eqb-true (t d) (t (f d)) (sym (k.told d (f d) i.0 (k.map.forth d i.0) i.1 (k.stays d i.0 i.1)) ∙ orbit-step (2 * m) f d i.0))

-- the twin of a dart that is kept
pub twin-kept : (m : ℕ) (f g : ℕ → ℕ) (keep : ℕ → Bool) (t : ℕ → ℕ) → IsKeptMap m f g keep t → (d : ℕ) → IsKept m keep d → IsKept m keep (twin d)
twin-kept m f g keep t k d i = (twin-below m d i.0, k.twins d ∙ i.1)

-- the step along a face leads to a dart of the vertex where its dart arrives
pub step-tail : (m : ℕ) (f g : ℕ → ℕ) (keep : ℕ → Bool) (t : ℕ → ℕ) → IsKeptMap m f g keep t → (x y : ℕ) → IsKept m keep y → FaceStep f x y → t (twin y) ≡ t x
step-tail m f g keep t k x y i s = sym (turn-tail m f g keep t k (twin y) (twin-kept m f g keep t k y i)) ∙ ap t s

-- a chord, and two darts of the face, start and finish, whose twins leave its two ends
module _ (m : ℕ) (f g : ℕ → ℕ) (keep : ℕ → Bool) (t : ℕ → ℕ) (k : IsKeptMap m f g keep t)
    (chord : ℕ) (kept_chord : IsKept m keep chord) (ends : t chord ≢ t (twin chord))
    (start finish : ℕ) (first : IsKept m keep start) (second : IsKept m keep finish) (at_first : t (twin start) ≡ t chord) (at_second : t (twin finish) ≡ t (twin chord))
    (start_other : start ≢ chord) (start_twin : start ≢ twin chord) (finish_other : finish ≢ chord) (finish_twin : finish ≢ twin chord) where
  -- the map with the chord contracted
  abbrev short : ℕ → ℕ
  short = contracted chord f

  -- and split at the two corners
  abbrev split : ℕ → ℕ
  split = exchange (twin start) (twin finish) (contracted chord f)

  -- the chord joins two vertices
  two-vertices : same_vertex m f chord (twin chord) ≡ false
  two-vertices = k.told chord (twin chord) kept_chord.0 (twin-below m chord kept_chord.0) kept_chord.1 (k.twins chord ∙ kept_chord.1) ∙ ne_eqb (t chord) (t (twin chord)) ends

  -- the twin of start leaves the first end of the chord
  first-end : same_vertex m f (twin start) (g chord) ≡ true
  first-end =
      let e = orbit-equivalence (2 * m) f in
      e.transitive (twin start) chord (g chord)
      (k.told (twin start) chord (twin-below m start first.0) kept_chord.0 (k.twins start ∙ first.1) kept_chord.1 ∙ eq-eqb (t (twin start)) (t chord) at_first)
      (e.symmetric (g chord) chord (before-orbit (2 * m) chord f g k.map kept_chord.0))

  -- the twin of finish leaves the second
  second-end : same_vertex m f (twin chord) (twin finish) ≡ true
  second-end = k.told (twin chord) (twin finish) (twin-below m chord kept_chord.0) (twin-below m finish second.0) (k.twins chord ∙ kept_chord.1) (k.twins finish ∙ second.1) ∙ eq-eqb (t (twin chord)) (t (twin finish)) (sym at_second)

  -- so both leave the vertex that the chord is contracted to
  one-vertex : same_vertex m short (twin start) (twin finish) ≡ true
  one-vertex = contracted-vertex m f g k.map chord kept_chord.0 two-vertices (twin start) (twin finish)
      (λ e. start_twin (twin-back start chord e)) (λ e. start_other (twin-back start (twin chord) e ∙ twin-twin chord)) (λ e. finish_twin (twin-back finish chord e)) (λ e. finish_other (twin-back finish (twin chord) e ∙ twin-twin chord))
      ∙ join-across (same_vertex m f) (g chord) (twin chord) (twin start) (twin finish) first-end second-end

  -- where start and finish are on one face, the split map falls apart
  falls-apart : same_face m short start finish ≡ true → same_component m split (twin start) (twin finish) ≡ false
  falls-apart w = corner-cut m short (dropped chord (back_after (g chord) (twin chord) g)) (contracted-map m f g k.map chord kept_chord.0 two-vertices) (contract-plane m f g k.map chord kept_chord.0 two-vertices k.plane)
      (twin start) (twin finish) (twin-below m start first.0) (twin-below m finish second.0) (λ e. ends (sym at_first ∙ ap t e ∙ at_second)) one-vertex
      (subst (λ (z : ℕ). same_face m short z (twin (twin finish)) ≡ true) (sym (twin-twin start)) (subst (λ (z : ℕ). same_face m short start z ≡ true) (sym (twin-twin finish)) w))

  -- a dart that leaves an end of the chord
  abbrev at_end : ℕ → Bool
  at_end d = (t d == t chord) || (t d == t (twin chord))

  -- a dart with the number of an end leaves this end
  first_at_end : (d : ℕ) → t d ≡ t chord → at_end d ≡ true
  first_at_end d e = grind (arith, eq-eqb (t d) (t chord) e)

  second_at_end : (d : ℕ) → t d ≡ t (twin chord) → at_end d ≡ true
  second_at_end d e = grind (arith, eq-eqb (t d) (t (twin chord)) e)

  -- a dart that leaves no end differs from one that does
  end-differs : (d e : ℕ) → at_end d ≡ false → at_end e ≡ true → d ≢ e
  end-differs d e a c i = both_ways (at_end d) a (ap at_end i ∙ c)

  -- the steps around vertices keep to these and to the others
  end-turn : (d : ℕ) → d < 2 * m → at_end (f d) ≡ at_end d
  end-turn d l = elim (cases_Bool (keep d)) [
    | inl a ↦ ap (λ v. (v == t chord) || (v == t (twin chord))) (turn-tail m f g keep t k d (l, a))
    | inr a ↦ ap at_end (k.alone d a)
  ]

  -- elsewhere the split map is as before
  split-other : (d : ℕ) → d < 2 * m → at_end d ≡ false → split d ≡ f d
  split-other d l a =
      exchange-other (twin start) (twin finish) short d (end-differs d (twin start) a (first_at_end (twin start) at_first)) (end-differs d (twin finish) a (second_at_end (twin finish) at_second))
      ∙ contracted-other chord f d (end-differs d chord a (first_at_end chord refl)) (end-differs d (twin chord) a (second_at_end (twin chord) refl))
      (end-differs (f d) chord (end-turn d l ∙ a) (first_at_end chord refl)) (end-differs (f d) (twin chord) (end-turn d l ∙ a) (second_at_end (twin chord) refl))

  -- what is connected without passing the ends of the chord is connected in the split map
  opened-split : (x y : ℕ) → same_component m (frozen at_end f) x y ≡ true → same_component m split x y ≡ true
  opened-split = component-finer m (frozen at_end f) split (λ d l. elim (cases_Bool (at_end d)) [
    | inl a ↦ subst (λ (z : ℕ). same_component m split d z ≡ true) (sym (frozen-here at_end f d a)) ((component-equivalence m split).reflexive d)
    | inr a ↦ subst (λ (z : ℕ). same_component m split d z ≡ true) (split-other d l a ∙ sym (frozen-elsewhere at_end f d a)) (component-next m split d l)
  ])

  -- the darts of another vertex
  vertex-split : (c d : ℕ) → IsKept m keep c → IsKept m keep d → t c ≡ t d → at_end c ≡ false → same_component m split c d ≡ true
  vertex-split c d i j e a = opened-split c d (opened-vertex m f g k.map at_end end-turn c d i.0 (k.told c d i.0 j.0 i.1 j.1 ∙ eq-eqb (t c) (t d) e) a)

  -- a step along the face that passes another vertex
  step-split : (x y : ℕ) → IsKept m keep y → FaceStep f x y → at_end x ≡ false → same_component m split x y ≡ true
  step-split x y i s a =
      let e = component-equivalence m split in
      let here : at_end (twin y) ≡ false = sym (end-turn (twin y) (twin-below m y i.0)) ∙ ap at_end s ∙ a in
      e.symmetric y x (e.transitive y (twin y) x (component-twin m split y i.0)
      (subst (λ (z : ℕ). same_component m split (twin y) z ≡ true) (split-other (twin y) (twin-below m y i.0) here ∙ s) (component-next m split (twin y) (twin-below m y i.0))))

  -- a stretch of the face that passes other vertices only
  stretch-split : (a : ℕ) (l : List ℕ) → Successive (FaceStep f) (a ∷ l) → ((e : ℕ) → is_member e (a ∷ l) ≡ true → IsKept m keep e × (at_end e ≡ false)) → (e : ℕ) → is_member e (a ∷ l) ≡ true → same_component m split a e ≡ true
  stretch-split a l s h = successive-related (FaceStep f) (same_component m split) (component-equivalence m split) a l (λ x y i j r. step-split x y (h y j).0 r (h x i).1) s

  -- the contraction leaves a stretch of the face that does not hold the chord as it is
  stretch-short : (a : ℕ) (l : List ℕ) → Successive (FaceStep f) (a ∷ l) → ((e : ℕ) → is_member e (a ∷ l) ≡ true → IsKept m keep e × ((e ≢ chord) × (e ≢ twin chord))) → (e : ℕ) → is_member e (a ∷ l) ≡ true → same_face m short a e ≡ true
  stretch-short a l s h = successive-related (FaceStep f) (same_face m short) (orbit-equivalence (2 * m) (face short)) a l
      (λ x y i j r. (orbit-equivalence (2 * m) (face short)).symmetric y x
      (subst (λ (z : ℕ). same_face m short y z ≡ true)
      (contracted-other chord f (twin y) (λ e. (h y j).1.1 (twin-back y chord e)) (λ e. (h y j).1.0 (twin-back y (twin chord) e ∙ twin-twin chord)) (λ e. (h x i).1.0 (sym r ∙ e)) (λ e. (h x i).1.1 (sym r ∙ e)) ∙ r)
      (orbit-step (2 * m) (face short) y (h y j).0.0))) s

  -- a dart from the one stretch between start and finish to the other would connect the two
  pub not-across : (mid : List ℕ) (z : ℕ) (out : List ℕ) → Successive (FaceStep f) ((start ∷ mid) ++ z ∷ finish ∷ out) → IsKept m keep z → z ≢ chord → z ≢ twin chord
      → ((e : ℕ) → is_member e (start ∷ mid) ≡ true → IsKept m keep e × (at_end e ≡ false))
      → ((e : ℕ) → is_member e (finish ∷ out) ≡ true → IsKept m keep e × (at_end e ≡ false))
      → (across c d : ℕ) → IsKept m keep across → is_member c (start ∷ mid) ≡ true → t c ≡ t across → is_member d (finish ∷ out) ≡ true → t d ≡ t (twin across) → ⊥
  not-across mid z out s i z_other z_twin inside outside across c d kept m_c at_c m_d at_d = both_ways (same_component m split (twin start) (twin finish)) (falls-apart one-face) around
    where
      differs : (e : ℕ) → at_end e ≡ false → (e ≢ chord) × (e ≢ twin chord)
      differs e a = (end-differs e chord a (first_at_end chord refl), end-differs e (twin chord) a (second_at_end (twin chord) refl))

      between : (e : ℕ) → is_member e ((start ∷ mid) ++ z ∷ finish ∷ []) ≡ true → IsKept m keep e × ((e ≢ chord) × (e ≢ twin chord))
      between e n = elim (member-append_cases e (start ∷ mid) (z ∷ finish ∷ []) n) [
        | inl a ↦ let w = inside e a in (w.0, differs e w.1)
        | inr a ↦ elim (member-cases e z (finish ∷ []) a) [
          | inl q ↦ subst (λ (x : ℕ). IsKept m keep x × ((x ≢ chord) × (x ≢ twin chord))) q (i, (z_other, z_twin))
          | inr q ↦ elim (member-cases e finish [] q) [
            | inl o ↦ subst (λ (x : ℕ). IsKept m keep x × ((x ≢ chord) × (x ≢ twin chord))) o (second, (finish_other, finish_twin))
            | inr o ↦ absurd (true≢false (sym o))
          ]
        ]
      ]

      front : Successive (FaceStep f) ((start ∷ mid) ++ z ∷ finish ∷ [])
      front = successive-left (FaceStep f) ((start ∷ mid) ++ z ∷ finish ∷ []) out (subst (Successive (FaceStep f)) (sym (append_assoc (start ∷ mid) (z ∷ finish ∷ []) out)) s)

      one-face : same_face m short start finish ≡ true
      one-face = stretch-short start (mid ++ z ∷ finish ∷ []) front between finish (member-append_right finish (start ∷ mid) (z ∷ finish ∷ []) (member-tail finish z (finish ∷ []) (member-head finish [])))

      back : Successive (FaceStep f) (finish ∷ out)
      back = successive-tail (FaceStep f) z (finish ∷ out) (successive-right (FaceStep f) (start ∷ mid) (z ∷ finish ∷ out) s)

      around : same_component m split (twin start) (twin finish) ≡ true
      around =
          let e = component-equivalence m split in
          e.transitive (twin start) start (twin finish) (e.symmetric start (twin start) (component-twin m split start first.0))
          (e.transitive start c (twin finish) (stretch-split start mid (successive-left (FaceStep f) (start ∷ mid) (z ∷ finish ∷ out) s) inside c m_c)
          (e.transitive c across (twin finish) (vertex-split c across (inside c m_c).0 kept at_c (inside c m_c).1)
          (e.transitive across (twin across) (twin finish) (component-twin m split across kept.0)
          (e.transitive (twin across) d (twin finish) (e.symmetric d (twin across) (vertex-split d (twin across) (outside d m_d).0 (twin-kept m f g keep t k across kept) at_d (outside d m_d).1))
          (e.transitive d finish (twin finish) (e.symmetric finish d (stretch-split finish out back outside d m_d))
          (component-twin m split finish second.0))))))

-- the face of a plane map passes start, .., z, finish, .., y, and no vertex twice. A chord leads from y's vertex to z's. So no dart leads from the vertices
-- of start, .. to those of finish, ..
pub chords-apart : (m : ℕ) (f g : ℕ → ℕ) (keep : ℕ → Bool) (t : ℕ → ℕ) → IsKeptMap m f g keep t
    → (start : ℕ) (mid : List ℕ) (z finish : ℕ) (out : List ℕ) (y : ℕ)
    → Successive (FaceStep f) ((start ∷ mid) ++ z ∷ ((finish ∷ out) ++ y ∷ [])) → FaceStep f y start
    → ((e : ℕ) → is_member e ((start ∷ mid) ++ z ∷ ((finish ∷ out) ++ y ∷ [])) ≡ true → IsKept m keep e)
    → is_distinct (map t ((start ∷ mid) ++ z ∷ ((finish ∷ out) ++ y ∷ []))) ≡ true
    → (chord : ℕ) → IsKept m keep chord → t chord ≡ t y → t (twin chord) ≡ t z
    → (across c d : ℕ) → IsKept m keep across → is_member c (start ∷ mid) ≡ true → t c ≡ t across → is_member d (finish ∷ out) ≡ true → t d ≡ t (twin across) → ⊥
chords-apart m f g keep t k start mid z finish out y s closing darts once chord kept_chord at_y at_z =
    not-across m f g keep t k chord kept_chord (λ e. y_z (sym at_y ∙ e ∙ at_z)) start finish first second
    (step-tail m f g keep t k y start first closing ∙ sym at_y)
    (step-tail m f g keep t k z finish second next ∙ sym at_z)
    (λ e. (inside start (member-head start mid)).1.0 (ap t e)) (λ e. (inside start (member-head start mid)).1.1 (ap t e))
    (λ e. (outside finish (member-head finish out)).1.0 (ap t e)) (λ e. (outside finish (member-head finish out)).1.1 (ap t e))
    mid z out front third (λ e. y_z (sym at_y ∙ ap t (sym e))) z_twin
    (λ e n. ((inside e n).0, neither e (inside e n).1)) (λ e n. ((outside e n).0, neither e (outside e n).1))
  where
    y_rest : is_member y ((finish ∷ out) ++ y ∷ []) ≡ true
    y_rest = member-append_right y (finish ∷ out) (y ∷ []) (member-head y [])

    once_back : is_distinct (map t (z ∷ ((finish ∷ out) ++ y ∷ []))) ≡ true
    once_back = distinct-append_right (map t (start ∷ mid)) (map t (z ∷ ((finish ∷ out) ++ y ∷ []))) (ap is_distinct (sym (map-append t (start ∷ mid) (z ∷ ((finish ∷ out) ++ y ∷ [])))) ∙ once)

    y_z : t y ≢ t z
    y_z e = values-apart t (z ∷ []) ((finish ∷ out) ++ y ∷ []) once_back z y (member-head z []) y_rest (sym e)

    inside : (e : ℕ) → is_member e (start ∷ mid) ≡ true → IsKept m keep e × ((t e ≢ t chord) × (t e ≢ t (twin chord)))
    inside e n = (
      darts e (member-append_left e (start ∷ mid) (z ∷ ((finish ∷ out) ++ y ∷ [])) n),
      (
        λ q. values-apart t (start ∷ mid) (z ∷ ((finish ∷ out) ++ y ∷ [])) once e y n (member-tail y z ((finish ∷ out) ++ y ∷ []) y_rest) (q ∙ at_y),
        λ q. values-apart t (start ∷ mid) (z ∷ ((finish ∷ out) ++ y ∷ [])) once e z n (member-head z ((finish ∷ out) ++ y ∷ [])) (q ∙ at_z),
      ),
    )

    outside : (e : ℕ) → is_member e (finish ∷ out) ≡ true → IsKept m keep e × ((t e ≢ t chord) × (t e ≢ t (twin chord)))
    outside e n = (
      darts e (member-append_right e (start ∷ mid) (z ∷ ((finish ∷ out) ++ y ∷ [])) (member-tail e z ((finish ∷ out) ++ y ∷ []) (member-append_left e (finish ∷ out) (y ∷ []) n))),
      (
        λ q. values-apart t (z ∷ finish ∷ out) (y ∷ []) once_back e y (member-tail e z (finish ∷ out) n) (member-head y []) (q ∙ at_y),
        λ q. values-apart t (z ∷ []) ((finish ∷ out) ++ y ∷ []) once_back z e (member-head z []) (member-append_left e (finish ∷ out) (y ∷ []) n) (sym (q ∙ at_z)),
      ),
    )

    neither : (e : ℕ) → (t e ≢ t chord) × (t e ≢ t (twin chord)) → ((t e == t chord) || (t e == t (twin chord))) ≡ false
    neither e n = or_from (t e == t chord) (t e == t (twin chord)) (ne_eqb (t e) (t chord) n.0) (ne_eqb (t e) (t (twin chord)) n.1)

    first : IsKept m keep start
    first = darts start (member-head start (mid ++ z ∷ ((finish ∷ out) ++ y ∷ [])))

    second : IsKept m keep finish
    second = (outside finish (member-head finish out)).0

    third : IsKept m keep z
    third = darts z (member-append_right z (start ∷ mid) (z ∷ ((finish ∷ out) ++ y ∷ [])) (member-head z ((finish ∷ out) ++ y ∷ [])))

    front : Successive (FaceStep f) ((start ∷ mid) ++ z ∷ finish ∷ out)
    front = successive-left (FaceStep f) ((start ∷ mid) ++ z ∷ finish ∷ out) (y ∷ []) (subst (Successive (FaceStep f)) (sym (append_assoc (start ∷ mid) (z ∷ finish ∷ out) (y ∷ []))) s)

    next : FaceStep f z finish
    next = (successive-right (FaceStep f) (start ∷ mid) (z ∷ finish ∷ out) front).0

    z_twin : z ≢ twin chord
    z_twin e =
        let w = successive-before (FaceStep f) start mid z (finish ∷ out) front in
        (inside w.0 w.1).1.0 (sym (step-tail m f g keep t k w.0 z third w.2) ∙ ap t (ap twin e ∙ twin-twin chord))
