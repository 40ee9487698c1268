-- A map that is plane when glued along two edges is plane before, where neither edge is a bridge: each of them can be put
-- back into a face.
use Rattle.std.proofs.Common.{◌≡◌, ℕ, zero, suc, ◌*◌, ◌<◌, ◌⊎◌, Bool, true, false, not, ◌&&◌, inl, inr, refl, sym, ap, ◌∙◌, subst, arith}
use Rattle.std.proofs.lemmas.Bool.{cases_Bool, cases_eq, both_ways, and_from, and_parts, not-true}
use Rattle.permutations.specs.Relation.{IsEquivalence}
use Rattle.permutations.specs.Exchange.{exchange, swapped, restricted}
use Rattle.permutations.specs.Permutation.{Permutes, iterate}
use Rattle.permutations.proofs.Permutations.{permutes-one-to-one, exchange-left, exchange-right, exchange-other, exchange-cases, exchange-permutes}
use Rattle.permutations.proofs.Orbits.{orbit-kept, orbit-equivalence, orbit-step}
use Rattle.permutations.proofs.Relation.{same-tests}
use Rattle.permutations.proofs.Restriction.{restricted-next, restricted-alone, restricted-permutes, restricted-goes}
use Rattle.dart_maps.specs.Map.{twin, face, IsMap, IsPlane, same_vertex, same_face, same_component}
use Rattle.dart_maps.specs.Changes.{inserted}
use Rattle.dart_maps.proofs.Darts.{twin-below, twin-twin, face-permutes, face-twin}
use Rattle.dart_maps.proofs.Components.{component-equivalence, component-next, component-twin}
use Rattle.dart_maps.proofs.Euler.{plane-ext}
use Rattle.dart_maps.proofs.Plane.{same-defect-plane, corner-cut, restricted-plane}
use Rattle.dart_maps.proofs.Insert.{insert-defect}
use Rattle.dart_maps.proofs.Parts.{parts-plane}
use Rattle.skeleton_planes.proofs.Seams.{AreFacing, AreJoined}
use Rattle.skeleton_planes.specs.Bridges.{IsNoBridge}
use Rattle.skeleton_planes.proofs.Facing.{sides-differ, facing-back, joined-back, twin-in, before-in, twin_before-in, after-before, before-side, twin-side, twin_before-side, before-place, twin_before-place, before-other, before-not_twin, before-only, twin_before-only, inside-joined}
use Rattle.skeleton_planes.proofs.Spread.{spread, spread-before, spread-twin_before}

-- a function that has one value at the two darts that are exchanged is kept by the exchange
exchange-keeps : (n : ℕ) (c : ℕ → ℕ) (h : ℕ → ℕ) → ((x : ℕ) → x < n → c (h x) ≡ c x) → (p q : ℕ) → p < n → q < n → c p ≡ c q → (x : ℕ) → x < n → c (exchange p q h x) ≡ c x
exchange-keeps n c h k p q lp lq e x l = elim (exchange-cases p q h x) [
  | inl i ↦ ap c i.1 ∙ k q lq ∙ sym e ∙ ap c (sym i.0)
  | inr r ↦ elim r [
    | inl i ↦ ap c i.1 ∙ k p lp ∙ e ∙ ap c (sym i.0)
    | inr i ↦ ap c i.2 ∙ k x l
  ]
]

-- and by its iterates
iterate-keeps : (n : ℕ) (c : ℕ → ℕ) (h k : ℕ → ℕ) → Permutes n h k → ((x : ℕ) → x < n → c (h x) ≡ c x) → (i x : ℕ) → x < n → (iterate h i x < n) × (c (iterate h i x) ≡ c x)
iterate-keeps n c h k b keeps zero x l = (l, refl)
iterate-keeps n c h k b keeps (suc i) x l = let r = iterate-keeps n c h k b keeps i x l in (b.forth (iterate h i x) r.0, keeps (iterate h i x) r.0 ∙ r.1)

-- and by the restriction
pub restricted-keeps : (n : ℕ) (c : ℕ → ℕ) (h k : ℕ → ℕ) → Permutes n h k → ((x : ℕ) → x < n → c (h x) ≡ c x) → (keep : ℕ → Bool) → (x : ℕ) → x < n → keep x ≡ true → c (restricted n keep h x) ≡ c x
restricted-keeps n c h k b keeps keep x l t = let r = restricted-goes n keep h k b x l t in ap c r.1 ∙ (iterate-keeps n c h k b keeps (suc r.0) x l).1

-- the glued map keeps the places
pub joined-places : (m : ℕ) (f g h : ℕ → ℕ) (place : ℕ → ℕ) (side : ℕ → Bool) (d e : ℕ) → AreFacing m f g place side d e → AreJoined m f g h d e → (x : ℕ) → x < 2 * m → place (h x) ≡ place x
joined-places m f g h place side d e s j x l = elim (cases_eq x d) [
  | inl i ↦ ap place (ap h i ∙ j.alone.0 ∙ sym i)
  | inr i1 ↦ elim (cases_eq x (twin d)) [
    | inl i ↦ ap place (ap h i ∙ j.alone.1 ∙ sym i)
    | inr i2 ↦ elim (cases_eq x e) [
      | inl i ↦ ap place (ap h i ∙ j.alone_too.0 ∙ sym i)
      | inr i3 ↦ elim (cases_eq x (twin e)) [
        | inl i ↦ ap place (ap h i ∙ j.alone_too.1 ∙ sym i)
        | inr i4 ↦ elim (cases_eq (f x) d) [
          | inl i ↦ ap (λ (z : ℕ). place (h z)) (before-only m f g place side d e s x l i) ∙ ap place j.first ∙ s.places_next e (s.darts.1) ∙ sym s.places ∙ ap place (sym i) ∙ s.places_next x l
          | inr i5 ↦ elim (cases_eq (f x) (twin d)) [
            | inl i ↦ ap (λ (z : ℕ). place (h z)) (twin_before-only m f g place side d e s x l i) ∙ ap place j.first_twin ∙ s.places_next (twin e) (twin-below m e (s.darts.1)) ∙ sym s.twin_places ∙ ap place (sym i) ∙ s.places_next x l
            | inr i6 ↦ elim (cases_eq (f x) e) [
              | inl i ↦ ap (λ (z : ℕ). place (h z)) (before-only m f g place (λ z. not (side z)) e d (facing-back m f g place side d e s) x l i) ∙ ap place j.second ∙ s.places_next d (s.darts.0) ∙ s.places ∙ ap place (sym i) ∙ s.places_next x l
              | inr i7 ↦ elim (cases_eq (f x) (twin e)) [
                | inl i ↦ ap (λ (z : ℕ). place (h z)) (twin_before-only m f g place (λ z. not (side z)) e d (facing-back m f g place side d e s) x l i) ∙ ap place j.second_twin ∙ s.places_next (twin d) (twin-below m d (s.darts.0)) ∙ s.twin_places ∙ ap place (sym i) ∙ s.places_next x l
                | inr i8 ↦ ap place (j.others x l (record { first = i1; first_twin = i2; second = i3; second_twin = i4 }) (record { first = i5; first_twin = i6; second = i7; second_twin = i8 })) ∙ s.places_next x l
              ]
            ]
          ]
        ]
      ]
    ]
  ]
]

-- two edges that face each other, neither of them a bridge, and a plane map that is glued along them
module _ (m : ℕ) (f g h k : ℕ → ℕ) (place : ℕ → ℕ) (side : ℕ → Bool) (d e : ℕ) (s : AreFacing m f g place side d e) (j : AreJoined m f g h d e) (b : IsMap m h k) (plane : IsPlane m h) (first : IsNoBridge m f d) (second : IsNoBridge m f e) where
  -- the other side
  abbrev other : ℕ → Bool
  other x = not (side x)

  -- the same seen from there
  back : AreFacing m f g place (λ x. not (side x)) e d
  back = facing-back m f g place side d e s

  -- and the glued map
  joined : AreJoined m f g h e d
  joined = joined-back m f g h d e j

  -- the darts before d, before e, and before their twins
  abbrev p : ℕ
  p = g d

  -- before e
  abbrev pe : ℕ
  pe = g e

  -- before d's twin
  abbrev q : ℕ
  q = g (twin d)

  -- before e's twin
  abbrev qe : ℕ
  qe = g (twin e)

  -- they are darts
  lp : g d < 2 * m
  lp = before-in m f g place side d e s

  -- before e
  lpe : g e < 2 * m
  lpe = before-in m f g place other e d back

  -- before d's twin
  lq : g (twin d) < 2 * m
  lq = twin_before-in m f g place side d e s

  -- before e's twin
  lqe : g (twin e) < 2 * m
  lqe = twin_before-in m f g place other e d back

  -- on d's side or not
  tp : side (g d) ≡ true
  tp = before-side m f g place side d e s

  -- before d's twin
  tq : side (g (twin d)) ≡ true
  tq = twin_before-side m f g place side d e s

  -- on e's side
  tpe : side (g e) ≡ false
  tpe = not-true (side (g e)) (before-side m f g place other e d back)

  -- before e's twin
  tqe : side (g (twin e)) ≡ false
  tqe = not-true (side (g (twin e))) (twin_before-side m f g place other e d back)

  -- what is behind e
  tfe : side (f e) ≡ false
  tfe = s.sides_next e (s.darts.1) ∙ s.outside

  -- darts before d and before e leave one vertex of the glued map
  one-vertex : same_vertex m h (g d) (g e) ≡ true
  one-vertex = spread-before m f g place other e d back (same_vertex m h p) (λ x l t i1 i2 i3 i4. ap (same_vertex m h p) (sym (inside-joined m f g h place other e d back joined x l t i1 i2 i3 i4)) ∙ sym (along x l))
      ∙ ap (same_vertex m h p) (sym j.first) ∙ orbit-step (2 * m) h p lp
    where
      r : IsEquivalence (same_vertex m h)
      r = orbit-equivalence (2 * m) h

      along : (x : ℕ) → x < 2 * m → same_vertex m h p x ≡ same_vertex m h p (h x)
      along x l = same-tests (same_vertex m h p x) (same_vertex m h p (h x)) (λ t. r.transitive p x (h x) t (orbit-step (2 * m) h x l)) (λ t. r.transitive p (h x) x t (r.symmetric x (h x) (orbit-step (2 * m) h x l)))

  -- the corners behind them lie in different faces: else the vertex could be cut there, but both sides reach it again
  no-cut : same_face m h (twin (g d)) (twin (g e)) ≡ true → ⊥
  no-cut w = both_ways (a pe) (corner-cut m h k b plane p pe lp lpe (sides-differ side p pe tp tpe) one-vertex w)
      (spread-before m f g place other e d back a steps_e
      ∙ spread m f g place other e d back a steps_e (λ x l t i1 i2. across x l) second
      ∙ sym (ap a over) ∙ next q lq
      ∙ spread-twin_before m f g place side d e s a steps_d
      ∙ sym (spread m f g place side d e s a steps_d (λ x l t i1 i2. across x l) first)
      ∙ sym (spread-before m f g place side d e s a steps_d)
      ∙ r.reflexive p)
    where
      cut : ℕ → ℕ
      cut = exchange p pe h

      r : IsEquivalence (same_component m (exchange p pe h))
      r = component-equivalence m (exchange p pe h)

      a : ℕ → Bool
      a = same_component m (exchange p pe h) p

      next : (x : ℕ) → x < 2 * m → a (cut x) ≡ a x
      next x l = same-tests (a (cut x)) (a x) (λ t. r.transitive p (cut x) x t (r.symmetric x (cut x) (component-next m cut x l))) (λ t. r.transitive p x (cut x) t (component-next m cut x l))

      across : (x : ℕ) → x < 2 * m → a (twin x) ≡ a x
      across x l = same-tests (a (twin x)) (a x) (λ t. r.transitive p (twin x) x t (r.symmetric x (twin x) (component-twin m cut x l))) (λ t. r.transitive p x (twin x) t (component-twin m cut x l))

      steps_d : (x : ℕ) → x < 2 * m → side x ≡ true → (x ≡ d → ⊥) → (x ≡ twin d → ⊥) → (f x ≡ d → ⊥) → (f x ≡ twin d → ⊥) → a (f x) ≡ a x
      steps_d x l t i1 i2 i3 i4 = ap a (sym (exchange-other p pe h x (λ i. i3 (ap f i ∙ after-before m f g place side d e s)) (sides-differ side x pe t tpe) ∙ inside-joined m f g h place side d e s j x l t i1 i2 i3 i4)) ∙ next x l

      steps_e : (x : ℕ) → x < 2 * m → not (side x) ≡ true → (x ≡ e → ⊥) → (x ≡ twin e → ⊥) → (f x ≡ e → ⊥) → (f x ≡ twin e → ⊥) → a (f x) ≡ a x
      steps_e x l t i1 i2 i3 i4 = ap a (sym (exchange-other p pe h x (λ i. sides-differ side p x tp (not-true (side x) t) (sym i)) (λ i. i3 (ap f i ∙ after-before m f g place other e d back)) ∙ inside-joined m f g h place other e d back joined x l t i1 i2 i3 i4)) ∙ next x l

      over : cut q ≡ f (twin e)
      over = exchange-other p pe h q (λ i. s.two_places (sym (before-place m f g place side d e s) ∙ ap place (sym i) ∙ twin_before-place m f g place side d e s)) (sides-differ side q pe tq tpe) ∙ j.first_twin

  -- the corner behind the dart before d and that behind the dart before e's twin lie in one face
  one-face : same_face m h (twin (g d)) (twin (g (twin e))) ≡ true
  one-face = elim (cases_Bool (same_face m h (twin p) (twin qe))) [
    | inl t ↦ t
    | inr t ↦ absurd (both_ways (inside (twin p)) (ap (λ (z : Bool). same_face m h (f e) (twin p) && not z) (s.sides_twin p lp ∙ tp) ∙ never (same_face m h (f e) (twin p))) (sym (orbit-kept (2 * m) (face h) (λ x. twin (k x)) (face-permutes m h k b) inside (closed t) (f e) (twin p) reached) ∙ start))
  ]
    where
      r : IsEquivalence (same_face m h)
      r = orbit-equivalence (2 * m) (face h)

      inside : ℕ → Bool
      inside x = same_face m h (f e) x && not (side x)

      never : (x : Bool) → (x && false) ≡ false
      never x = grind (arith, cases_Bool x)

      behind : same_face m h (twin p) (f e) ≡ true
      behind = subst (λ (z : ℕ). same_face m h (twin p) z ≡ true) (face-twin h p ∙ j.first) (orbit-step (2 * m) (face h) (twin p) (twin-below m p lp))

      reached : same_face m h (f e) (twin p) ≡ true
      reached = r.symmetric (twin p) (f e) behind

      start : inside (f e) ≡ true
      start = and_from (same_face m h (f e) (f e)) (not (side (f e))) (r.reflexive (f e)) (ap not tfe)

      on : (x : ℕ) → x < 2 * m → same_face m h (f e) x ≡ true → side (h (twin x)) ≡ false → inside (face h x) ≡ true
      on x l t o = and_from (same_face m h (f e) (face h x)) (not (side (face h x))) (r.transitive (f e) x (face h x) t (orbit-step (2 * m) (face h) x l)) (ap not o)

      closed : same_face m h (twin p) (twin qe) ≡ false → (x : ℕ) → x < 2 * m → inside x ≡ true → inside (face h x) ≡ true
      closed no_face x l i = let c = and_parts (same_face m h (f e) x) (not (side x)) i in
          let y : side (twin x) ≡ false = s.sides_twin x l ∙ not-true (side x) c.1 in
          let ly : twin x < 2 * m = twin-below m x l in
          on x l c.0 (elim (cases_eq (twin x) qe) [
            | inl a ↦ absurd (both_ways (same_face m h (twin p) (twin qe)) no_face (r.transitive (twin p) (f e) (twin qe) behind (subst (λ (z : ℕ). same_face m h (f e) z ≡ true) (sym (twin-twin x) ∙ ap twin a) c.0)))
            | inr a ↦ elim (cases_eq (twin x) pe) [
              | inl a2 ↦ absurd (no-cut (r.transitive (twin p) (f e) (twin pe) behind (subst (λ (z : ℕ). same_face m h (f e) z ≡ true) (sym (twin-twin x) ∙ ap twin a2) c.0)))
              | inr a2 ↦ elim (cases_eq (twin x) e) [
                | inl o ↦ ap (λ (z : ℕ). side (h z)) o ∙ ap side j.alone_too.0 ∙ s.outside
                | inr o ↦ elim (cases_eq (twin x) (twin e)) [
                  | inl o2 ↦ ap (λ (z : ℕ). side (h z)) o2 ∙ ap side j.alone_too.1 ∙ s.sides_twin e (s.darts.1) ∙ s.outside
                  | inr o2 ↦ ap side (inside-joined m f g h place other e d back joined (twin x) ly (ap not y) o o2
                      (λ i3. a2 (before-only m f g place other e d back (twin x) ly i3)) (λ i4. a (twin_before-only m f g place other e d back (twin x) ly i4))) ∙ s.sides_next (twin x) ly ∙ y
                ]
              ]
            ]
          ])

  -- the map with d's edge put in there again
  abbrev more : ℕ → ℕ
  more = inserted d (g d) (g (twin e)) h

  -- its inverse
  abbrev more_back : ℕ → ℕ
  more_back x = swapped qe (twin d) (swapped p d (k x))

  -- it is a map
  more-map : IsMap m (inserted d (g d) (g (twin e)) h) (λ x. swapped (g (twin e)) (twin d) (swapped (g d) d (k x)))
  more-map = exchange-permutes (2 * m) qe (twin d) (exchange p d h) (λ x. swapped p d (k x)) lqe (twin-in m f g place side d e s) (exchange-permutes (2 * m) p d h k lp (s.darts.0) b)

  -- and plane
  more-plane : IsPlane m (inserted d (g d) (g (twin e)) h)
  more-plane = same-defect-plane m h more (insert-defect m h k b d (s.darts.0) j.alone.0 j.alone.1 p qe lp lqe
      (before-other m f g place side d e s) (before-not_twin m f g place side d e s)
      (λ i. sides-differ side d qe s.inside tqe (sym i)) (λ i. sides-differ side (twin d) qe (twin-side m f g place side d e s) tqe (sym i)) one-face) plane

  -- it keeps the places
  more-places : (x : ℕ) → x < 2 * m → place (more x) ≡ place x
  more-places = exchange-keeps (2 * m) place (exchange p d h) (exchange-keeps (2 * m) place h (joined-places m f g h place side d e s j) p d lp (s.darts.0) (before-place m f g place side d e s))
      qe (twin d) lqe (twin-in m f g place side d e s) (twin_before-place m f g place other e d back ∙ sym s.twin_places)

  -- on d's side it goes on as before, but at d and at the dart before the twin
  more-inside : (x : ℕ) → x < 2 * m → side x ≡ true → (x ≡ d → ⊥) → (x ≡ g (twin d) → ⊥) → inserted d (g d) (g (twin e)) h x ≡ f x
  more-inside x l t i o = elim (cases_eq x (twin d)) [
    | inl a ↦ ap more a ∙ exchange-right qe (twin d) (exchange p d h) ∙ exchange-other p d h qe (λ c. sides-differ side p qe tp tqe (sym c)) (λ c. sides-differ side d qe s.inside tqe (sym c)) ∙ j.second_twin ∙ ap f (sym a)
    | inr a ↦ exchange-other qe (twin d) (exchange p d h) x (sides-differ side x qe t tqe) a ∙ elim (cases_eq x p) [
      | inl c ↦ ap (exchange p d h) c ∙ exchange-left p d h ∙ j.alone.0 ∙ sym (ap f c ∙ after-before m f g place side d e s)
      | inr c ↦ exchange-other p d h x c i ∙ inside-joined m f g h place side d e s j x l t i a (λ u. c (before-only m f g place side d e s x l u)) (λ u. o (twin_before-only m f g place side d e s x l u))
    ]
  ]

  -- restricted to d's side
  abbrev part : ℕ → ℕ
  part = restricted (2 * m) side more

  -- it is a map
  part-map : Permutes (2 * m) (restricted (2 * m) side (inserted d (g d) (g (twin e)) h)) (restricted (2 * m) side (λ x. swapped (g (twin e)) (twin d) (swapped (g d) d (k x))))
  part-map = restricted-permutes (2 * m) side more more_back more-map

  -- and goes on as before there too
  part-inside : (x : ℕ) → x < 2 * m → side x ≡ true → (x ≡ d → ⊥) → (x ≡ g (twin d) → ⊥) → part x ≡ f x
  part-inside x l t i o = restricted-next (2 * m) side more more_back more-map x l t (ap side (more-inside x l t i o) ∙ s.sides_next x l ∙ t) ∙ more-inside x l t i o

  -- what is followed by a dart of d's side is of d's side
  part-from : (x y : ℕ) → x < 2 * m → part x ≡ y → side y ≡ true → side x ≡ true
  part-from x y l i t = elim (cases_Bool (side x)) [
    | inl o ↦ o
    | inr o ↦ ap side (sym (restricted-alone (2 * m) side more x o) ∙ i) ∙ t
  ]

  -- and leaves the same place
  part-places : (x y : ℕ) → x < 2 * m → part x ≡ y → side y ≡ true → place x ≡ place y
  part-places x y l i t = sym (restricted-keeps (2 * m) place more more_back more-map more-places side x l (part-from x y l i t)) ∙ ap place i

  -- a dart of d's side that follows d or the dart before the twin, by its place follows that one of them which it followed
  part-at : (x : ℕ) → ((x ≡ d) ⊎ (x ≡ g (twin d))) → x < 2 * m → side x ≡ true → ((y : ℕ) → ((y ≡ d) ⊎ (y ≡ g (twin d))) → place y ≡ place x → y ≡ x) → part x ≡ f x
  part-at x which l t only = elim (cases_eq w x) [
    | inl a ↦ ap part (sym a) ∙ there
    | inr a ↦ elim (cases_eq w d) [
      | inl c ↦ absurd (a (only w (inl c) leaves))
      | inr c ↦ elim (cases_eq w q) [
        | inl o ↦ absurd (a (only w (inr o) leaves))
        | inr o ↦ absurd (a (permutes-one-to-one (2 * m) f g s.is_map w x lw l (sym (part-inside w lw (part-from w (f x) lw there (s.sides_next x l ∙ t)) c o) ∙ there)))
      ]
    ]
  ]
    where
      w : ℕ
      w = restricted (2 * m) side (λ z. swapped qe (twin d) (swapped p d (k z))) (f x)

      lw : w < 2 * m
      lw = part-map.back (f x) (s.is_map.forth x l)

      there : part w ≡ f x
      there = part-map.forth_back (f x) (s.is_map.forth x l)

      leaves : place w ≡ place x
      leaves = part-places w (f x) lw there (s.sides_next x l ∙ t) ∙ s.places_next x l

  -- so the restriction is that of the map before the gluing
  part-same : (x : ℕ) → x < 2 * m → restricted (2 * m) side (inserted d (g d) (g (twin e)) h) x ≡ restricted (2 * m) side f x
  part-same x l = elim (cases_Bool (side x)) [
    | inr t ↦ restricted-alone (2 * m) side more x t ∙ sym (restricted-alone (2 * m) side f x t)
    | inl t ↦ elim (cases_eq x d) [
      | inl i ↦ part-at x (inl i) l t (λ y c o. elim c [ inl u ↦ u ∙ sym i | inr u ↦ absurd (s.two_places (ap place (sym i) ∙ sym o ∙ ap place u ∙ twin_before-place m f g place side d e s)) ])
      | inr i ↦ elim (cases_eq x q) [
        | inl a ↦ part-at x (inr a) l t (λ y c o. elim c [ inl u ↦ absurd (s.two_places (ap place (sym u) ∙ o ∙ ap place a ∙ twin_before-place m f g place side d e s)) | inr u ↦ u ∙ sym a ])
        | inr a ↦ part-inside x l t i a
      ]
    ] ∙ sym (restricted-next (2 * m) side f g s.is_map x l t (s.sides_next x l ∙ t))
  ]

  -- and plane
  pub side-plane : IsPlane m (restricted (2 * m) side f)
  side-plane = plane-ext m part (restricted (2 * m) side f) part-same (restricted-plane m more more_back more-map more-plane side)

-- so the map is plane where the glued map is
pub unglue-plane : (m : ℕ) (f g h k : ℕ → ℕ) (place : ℕ → ℕ) (side : ℕ → Bool) (d e : ℕ) → AreFacing m f g place side d e → AreJoined m f g h d e → IsMap m h k → IsNoBridge m f d → IsNoBridge m f e → IsPlane m h → IsPlane m f
unglue-plane m f g h k place side d e s j b n o plane = parts-plane m f g s.is_map side s.sides_next s.sides_twin
    (side-plane m f g h k place side d e s j b plane n o)
    (side-plane m f g h k place (λ x. not (side x)) e d (facing-back m f g place side d e s) (joined-back m f g h d e j) b plane o n)
