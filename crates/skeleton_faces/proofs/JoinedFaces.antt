-- The faces of a map glued along an edge of each of two parts: the faces of d and of e's twin become one, without these two
-- darts, as do those of d's twin and of e; all other faces stay.
use Rattle.std.proofs.Common.{◌≡◌, ◌≢◌, ℕ, ◌*◌, ◌<◌, Bool, true, false, not, ◌&&◌, ◌||◌, ◌==◌, inl, inr, refl, sym, ap, ◌∙◌, subst, eq-eqb, eqb-true}
use Rattle.std.proofs.lemmas.Bool.{cases_Bool, cases_eq, both_ways, and_from, and_parts, or_cases, or_left, or_right, false_from_ne_true}
use Rattle.permutations.specs.Relation.{IsEquivalence}
use Rattle.permutations.specs.Permutation.{Permutes, same_orbit}
use Rattle.permutations.proofs.Orbits.{orbit-equivalence, orbit-step, orbit-kept, orbit-test}
use Rattle.dart_maps.specs.Map.{twin, face, IsMap, same_face}
use Rattle.dart_maps.specs.Order.{one_of_four}
use Rattle.dart_maps.proofs.Darts.{twin-below, twin-twin, face-permutes}
use Rattle.skeleton_planes.proofs.Seams.{IsOff, AreFacing, AreJoined}
use Rattle.skeleton_planes.proofs.Facing.{facing-back, joined-back, before-only, twin_before-only, inside-off, after-not_twin, twin_after-not_d}
use Rattle.skeleton_planes.proofs.Joined.{off-four, four-off}

-- a dart off two edges, told with the edges in the other order
pub off-turned : (d e x : ℕ) → IsOff e d x → IsOff d e x
off-turned d e x o = record { first = o.second; first_twin = o.second_twin; second = o.first; second_twin = o.first_twin }

-- and told of their twins
pub off-twins : (d e x : ℕ) → IsOff d e x → IsOff (twin d) (twin e) x
off-twins d e x o = record {
  first = o.first_twin;
  first_twin = λ i. o.first (i ∙ twin-twin d);
  second = o.second_twin;
  second_twin = λ i. o.second (i ∙ twin-twin e);
}

-- and back
pub twins-off : (d e x : ℕ) → IsOff (twin d) (twin e) x → IsOff d e x
twins-off d e x o = record {
  first = λ i. o.first_twin (i ∙ sym (twin-twin d));
  first_twin = o.first;
  second = λ i. o.second_twin (i ∙ sym (twin-twin e));
  second_twin = o.second;
}

-- the twin of a dart off two edges is off them
pub twin-off : (d e x : ℕ) → IsOff d e x → IsOff d e (twin x)
twin-off d e x o = record {
  first = λ i. o.first_twin (sym (twin-twin x) ∙ ap twin i);
  first_twin = λ i. o.first (sym (twin-twin x) ∙ ap twin i ∙ twin-twin d);
  second = λ i. o.second_twin (sym (twin-twin x) ∙ ap twin i);
  second_twin = λ i. o.second (sym (twin-twin x) ∙ ap twin i ∙ twin-twin e);
}

-- the two edges told by their twins
pub facing-twins : (m : ℕ) (f g : ℕ → ℕ) (place : ℕ → ℕ) (side : ℕ → Bool) (d e : ℕ) → AreFacing m f g place side d e → AreFacing m f g place side (twin d) (twin e)
facing-twins m f g place side d e s = record {
  is_map = s.is_map;
  sides_next = s.sides_next;
  sides_twin = s.sides_twin;
  places_next = s.places_next;
  darts = (twin-below m d (s.darts.0), twin-below m e (s.darts.1));
  inside = s.sides_twin d (s.darts.0) ∙ s.inside;
  outside = s.sides_twin e (s.darts.1) ∙ s.outside;
  places = s.twin_places;
  twin_places = ap place (twin-twin d) ∙ s.places ∙ sym (ap place (twin-twin e));
  two_places = λ h. s.two_places (sym (h ∙ ap place (twin-twin d)));
  company = (s.company.1, λ h. s.company.0 (sym (ap f (twin-twin d)) ∙ h ∙ twin-twin d));
  other_company = (s.other_company.1, λ h. s.other_company.0 (sym (ap f (twin-twin e)) ∙ h ∙ twin-twin e));
}

-- and the map glued along them
pub joined-twins : (m : ℕ) (f g h : ℕ → ℕ) (d e : ℕ) → AreJoined m f g h d e → AreJoined m f g h (twin d) (twin e)
joined-twins m f g h d e j = record {
  first = j.first_twin;
  second = j.second_twin;
  first_twin = subst (λ (z : ℕ). h (g z) ≡ f (twin (twin e))) (sym (twin-twin d)) (subst (λ (z : ℕ). h (g d) ≡ f z) (sym (twin-twin e)) j.first);
  second_twin = subst (λ (z : ℕ). h (g z) ≡ f (twin (twin d))) (sym (twin-twin e)) (subst (λ (z : ℕ). h (g e) ≡ f z) (sym (twin-twin d)) j.second);
  others = λ x l o a. j.others x l (twins-off d e x o) (twins-off d e (f x) a);
  alone = (j.alone.1, subst (λ (z : ℕ). h z ≡ z) (sym (twin-twin d)) j.alone.0);
  alone_too = (j.alone_too.1, subst (λ (z : ℕ). h z ≡ z) (sym (twin-twin e)) j.alone_too.0);
}

-- whether a dart lies on the face of d or on that of e's twin
abbrev pub on_either : ℕ → (ℕ → ℕ) → ℕ → ℕ → ℕ → Bool
on_either m f d e x = same_face m f d x || same_face m f (twin e) x

-- a test that holds after e, and from each further number of e's orbit on passes to the next, holds there but at e
pub orbit-but-one : (n : ℕ) (f g : ℕ → ℕ) → Permutes n f g → (e : ℕ) → e < n → (a : ℕ → Bool) → a (f e) ≡ true
    → ((x : ℕ) → x < n → same_orbit n f e x ≡ true → x ≢ e → f x ≢ e → a x ≡ true → a (f x) ≡ true) → (x : ℕ) → x ≢ e → same_orbit n f e x ≡ true → a x ≡ true
orbit-but-one n f g b e l a start steps x other t = elim (or_cases (x == e) (a x) (and_parts (same_orbit n f e x) (near x) (sym (orbit-kept n f g b inside next e x t) ∙ here)).1) [
  | inl i ↦ absurd (other (eqb-true x e i))
  | inr i ↦ i
]
  where
    near : ℕ → Bool
    near x = (x == e) || a x

    inside : ℕ → Bool
    inside x = same_orbit n f e x && near x

    here : inside e ≡ true
    here = and_from (same_orbit n f e e) (near e) ((orbit-equivalence n f).reflexive e) (or_left (e == e) (a e) (eq-eqb e e refl))

    next : (x : ℕ) → x < n → inside x ≡ true → inside (f x) ≡ true
    next x k h = let p = and_parts (same_orbit n f e x) (near x) h in and_from (same_orbit n f e (f x)) (near (f x)) ((orbit-equivalence n f).transitive e x (f x) p.0 (orbit-step n f x k)) (elim (cases_eq x e) [
      | inl i ↦ or_right (f x == e) (a (f x)) (ap (λ (z : ℕ). a (f z)) i ∙ start)
      | inr i ↦ elim (cases_eq (f x) e) [
        | inl q ↦ or_left (f x == e) (a (f x)) (eq-eqb (f x) e q)
        | inr q ↦ or_right (f x == e) (a (f x)) (steps x k p.0 i q (elim (or_cases (x == e) (a x) p.1) [
          | inl o ↦ absurd (i (eqb-true x e o))
          | inr o ↦ o
        ]))
      ]
    ])

-- two edges that face each other, and the map glued along them; each of the edges has its two darts on different faces
module _ (m : ℕ) (f g h k : ℕ → ℕ) (place : ℕ → ℕ) (side : ℕ → Bool) (d e : ℕ) (s : AreFacing m f g place side d e) (j : AreJoined m f g h d e) (b : IsMap m h k)
    (two_d : same_face m f d (twin d) ≡ false) (two_e : same_face m f e (twin e) ≡ false) where
  -- lying on one face is an equivalence
  r : IsEquivalence (same_face m f)
  r = orbit-equivalence (2 * m) (face f)

  -- and so it is after the gluing
  after : IsEquivalence (same_face m h)
  after = orbit-equivalence (2 * m) (face h)

  -- the step along a face keeps the side
  face-side : (x : ℕ) → x < 2 * m → side (face f x) ≡ side x
  face-side x l = s.sides_next (twin x) (twin-below m x l) ∙ s.sides_twin x l

  -- so darts of one face are on one side
  pub faces-side : (x y : ℕ) → same_face m f x y ≡ true → side x ≡ side y
  faces-side = orbit-test (2 * m) (face f) side face-side

  -- e's twin is outside
  twin_outside : side (twin e) ≡ false
  twin_outside = s.sides_twin e (s.darts.1) ∙ s.outside

  -- a dart of d's face is on d's side, and one of e's twin is not
  first-side : (x : ℕ) → same_face m f d x ≡ true → side x ≡ true
  first-side x t = sym (faces-side d x t) ∙ s.inside

  -- on the other side
  second-side : (x : ℕ) → same_face m f (twin e) x ≡ true → side x ≡ false
  second-side x t = sym (faces-side (twin e) x t) ∙ twin_outside

  -- a step leads along the face
  along : (z x : ℕ) → x < 2 * m → same_face m f z x ≡ true → same_face m f z (face f x) ≡ true
  along z x l t = r.transitive z x (face f x) t (orbit-step (2 * m) (face f) x l)

  -- and keeps the two faces
  either-along : (x : ℕ) → x < 2 * m → on_either m f d e x ≡ true → on_either m f d e (face f x) ≡ true
  either-along x l t = elim (or_cases (same_face m f d x) (same_face m f (twin e) x) t) [
    | inl i ↦ or_left (same_face m f d (face f x)) (same_face m f (twin e) (face f x)) (along d x l i)
    | inr i ↦ or_right (same_face m f d (face f x)) (same_face m f (twin e) (face f x)) (along (twin e) x l i)
  ]

  -- d's twin lies on neither of them
  not-twin : on_either m f d e (twin d) ≡ true → ⊥
  not-twin t = elim (or_cases (same_face m f d (twin d)) (same_face m f (twin e) (twin d)) t) [
    | inl i ↦ both_ways (same_face m f d (twin d)) two_d i
    | inr i ↦ both_ways (side (twin d)) (second-side (twin d) i) (s.sides_twin d (s.darts.0) ∙ s.inside)
  ]

  -- nor does e
  not-other : on_either m f d e e ≡ true → ⊥
  not-other t = elim (or_cases (same_face m f d e) (same_face m f (twin e) e) t) [
    | inl i ↦ both_ways (side e) s.outside (first-side e i)
    | inr i ↦ both_ways (same_face m f e (twin e)) two_e (r.symmetric (twin e) e i)
  ]

  -- what follows d, e and their twins is off the two edges
  off-after_e : IsOff d e (f e)
  off-after_e = off-turned d e (f e) (inside-off m f g place (λ x. not (side x)) e d (facing-back m f g place side d e s) (f e)
      (ap not (s.sides_next e (s.darts.1) ∙ s.outside)) (s.other_company.0) (after-not_twin m f g place (λ x. not (side x)) e d (facing-back m f g place side d e s)))

  -- d's twin
  off-after_twin : IsOff d e (f (twin d))
  off-after_twin = inside-off m f g place side d e s (f (twin d)) (s.sides_next (twin d) (twin-below m d (s.darts.0)) ∙ s.sides_twin d (s.darts.0) ∙ s.inside)
      (twin_after-not_d m f g place side d e s) (s.company.1)

  -- the step from d is to what follows its twin, and so on
  first-step : same_face m f d (f (twin d)) ≡ true
  first-step = orbit-step (2 * m) (face f) d (s.darts.0)

  -- from e's twin
  second-step : same_face m f (twin e) (f e) ≡ true
  second-step = subst (λ (z : ℕ). same_face m f (twin e) (f z) ≡ true) (twin-twin e) (orbit-step (2 * m) (face f) (twin e) (twin-below m e (s.darts.1)))

  -- the step of the glued map along the two faces, from a dart off the two edges
  either-step : (x : ℕ) → x < 2 * m → IsOff d e x → on_either m f d e x ≡ true → IsOff d e (face h x) × (on_either m f d e (face h x) ≡ true)
  either-step x l o t = elim (cases_eq (f (twin x)) d) [
    | inl i ↦ let q : face h x ≡ f e = ap h (before-only m f g place side d e s (twin x) (twin-below m x l) i) ∙ j.first in
        (subst (IsOff d e) (sym q) off-after_e, ap (on_either m f d e) q ∙ or_right (same_face m f d (f e)) (same_face m f (twin e) (f e)) second-step)
    | inr i1 ↦ elim (cases_eq (f (twin x)) (twin e)) [
      | inl i ↦ let q : face h x ≡ f (twin d) = ap h (twin_before-only m f g place (λ z. not (side z)) e d (facing-back m f g place side d e s) (twin x) (twin-below m x l) i) ∙ j.second_twin in
          (subst (IsOff d e) (sym q) off-after_twin, ap (on_either m f d e) q ∙ or_left (same_face m f d (f (twin d))) (same_face m f (twin e) (f (twin d))) first-step)
      | inr i2 ↦ elim (cases_eq (f (twin x)) e) [
        | inl i ↦ absurd (not-other (ap (on_either m f d e) (sym i) ∙ either-along x l t))
        | inr i3 ↦ elim (cases_eq (f (twin x)) (twin d)) [
          | inl i ↦ absurd (not-twin (ap (on_either m f d e) (sym i) ∙ either-along x l t))
          | inr i4 ↦ let there : IsOff d e (f (twin x)) = record { first = i1; first_twin = i4; second = i3; second_twin = i2 } in
              let q : face h x ≡ f (twin x) = j.others (twin x) (twin-below m x l) (twin-off d e x o) there in
              (subst (IsOff d e) (sym q) there, ap (on_either m f d e) q ∙ either-along x l t)
        ]
      ]
    ]
  ]

  -- a dart off the two edges, on the two faces
  abbrev inside : ℕ → Bool
  inside x = not (one_of_four d (twin d) e (twin e) x) && on_either m f d e x

  -- it is one
  inside-from : (x : ℕ) → IsOff d e x → on_either m f d e x ≡ true → not (one_of_four d (twin d) e (twin e) x) && on_either m f d e x ≡ true
  inside-from x o t = and_from (not (one_of_four d (twin d) e (twin e) x)) (on_either m f d e x) (ap not (off-four d e x o)) t

  -- and is off them
  inside-parts : (x : ℕ) → not (one_of_four d (twin d) e (twin e) x) && on_either m f d e x ≡ true → IsOff d e x × (on_either m f d e x ≡ true)
  inside-parts x t = let p = and_parts (not (one_of_four d (twin d) e (twin e) x)) (on_either m f d e x) t in
      (four-off d e x (false_from_ne_true (one_of_four d (twin d) e (twin e) x) (λ i. both_ways (not (one_of_four d (twin d) e (twin e) x)) (ap not i) p.0)), p.1)

  -- darts on one face of the glued map: where the one is off the edges and on the two faces, so is the other
  pub either-kept : (x y : ℕ) → same_face m h x y ≡ true → IsOff d e x → on_either m f d e x ≡ true → IsOff d e y × (on_either m f d e y ≡ true)
  either-kept x y t o i = inside-parts y (sym (orbit-kept (2 * m) (face h) (λ z. twin (k z)) (face-permutes m h k b) inside
      (λ z l p. let w = inside-parts z p in let n = either-step z l w.0 w.1 in inside-from (face h z) n.0 n.1) x y t) ∙ inside-from x o i)

  -- the step of the glued map from a dart off the edges, where that of the map leads to one off them
  plain-step : (x : ℕ) → x < 2 * m → IsOff d e x → IsOff d e (face f x) → face h x ≡ face f x
  plain-step x l o a = j.others (twin x) (twin-below m x l) (twin-off d e x o) a

  -- a dart of d's face other than d is off the two edges
  first-off : (x : ℕ) → same_face m f d x ≡ true → x ≢ d → IsOff d e x
  first-off x t n = record {
    first = n;
    first_twin = λ i. both_ways (same_face m f d (twin d)) two_d (ap (same_face m f d) (sym i) ∙ t);
    second = λ i. both_ways (side x) (ap side i ∙ s.outside) (first-side x t);
    second_twin = λ i. both_ways (side x) (ap side i ∙ twin_outside) (first-side x t);
  }

  -- it is on one face of the glued map with the dart after d's twin
  pub first-together : (x : ℕ) → same_face m f d x ≡ true → x ≢ d → same_face m h (f (twin d)) x ≡ true
  first-together x t n = orbit-but-one (2 * m) (face f) (λ z. twin (g z)) (face-permutes m f g s.is_map) d (s.darts.0) (same_face m h (f (twin d))) (after.reflexive (f (twin d)))
      (λ z l w i q c. let p : face h z ≡ face f z = plain-step z l (first-off z w i) (first-off (face f z) (along d z l w) q) in
      after.transitive (f (twin d)) z (face f z) c (subst (λ (u : ℕ). same_face m h z u ≡ true) p (orbit-step (2 * m) (face h) z l))) x n t

  -- the dart before d along its face is a dart
  before-in : twin (g d) < 2 * m
  before-in = twin-below m (g d) (s.is_map.back d (s.darts.0))

  -- d follows it
  before-step : face f (twin (g d)) ≡ d
  before-step = ap f (twin-twin (g d)) ∙ s.is_map.forth_back d (s.darts.0)

  -- it lies on d's face
  before-there : same_face m f d (twin (g d)) ≡ true
  before-there = r.symmetric (twin (g d)) d (subst (λ (z : ℕ). same_face m f (twin (g d)) z ≡ true) before-step (orbit-step (2 * m) (face f) (twin (g d)) before-in))

  -- and is not d
  before-not : twin (g d) ≢ d
  before-not i = twin_after-not_d m f g place side d e s (ap (face f) (sym i) ∙ before-step)

  -- so the darts after d's twin and after e are on one face of the glued map
  pub across : same_face m h (f (twin d)) (f e) ≡ true
  across = after.transitive (f (twin d)) (twin (g d)) (f e) (first-together (twin (g d)) before-there before-not)
      (subst (λ (z : ℕ). same_face m h (twin (g d)) z ≡ true) (ap h (twin-twin (g d)) ∙ j.first) (orbit-step (2 * m) (face h) (twin (g d)) before-in))

-- the two faces made one, and all other faces
module _ (m : ℕ) (f g h k : ℕ → ℕ) (place : ℕ → ℕ) (side : ℕ → Bool) (d e : ℕ) (s : AreFacing m f g place side d e) (j : AreJoined m f g h d e) (b : IsMap m h k)
    (two_d : same_face m f d (twin d) ≡ false) (two_e : same_face m f e (twin e) ≡ false) where
  -- lying on one face is an equivalence
  same : IsEquivalence (same_face m f)
  same = orbit-equivalence (2 * m) (face f)

  -- and so it is after the gluing
  same_after : IsEquivalence (same_face m h)
  same_after = orbit-equivalence (2 * m) (face h)

  -- d's twin and its twin lie on different faces
  pub two_t : same_face m f (twin d) (twin (twin d)) ≡ false
  two_t = false_from_ne_true (same_face m f (twin d) (twin (twin d))) (λ t. both_ways (same_face m f d (twin d)) two_d (same.symmetric (twin d) d (ap (same_face m f (twin d)) (sym (twin-twin d)) ∙ t)))

  -- and e's
  pub two_w : same_face m f (twin e) (twin (twin e)) ≡ false
  two_w = false_from_ne_true (same_face m f (twin e) (twin (twin e))) (λ t. both_ways (same_face m f e (twin e)) two_e (same.symmetric (twin e) e (ap (same_face m f (twin e)) (sym (twin-twin e)) ∙ t)))

  -- what lies on the face of e's twin is on one face of the glued map with the dart after e
  second-together : (x : ℕ) → same_face m f (twin e) x ≡ true → x ≢ twin e → same_face m h (f e) x ≡ true
  second-together x t n = subst (λ (z : ℕ). same_face m h (f z) x ≡ true) (twin-twin e)
      (first-together m f g h k place (λ z. not (side z)) (twin e) (twin d)
      (facing-twins m f g place (λ z. not (side z)) e d (facing-back m f g place side d e s)) (joined-twins m f g h e d (joined-back m f g h d e j)) b two_w two_t x t n)

  -- a dart off the edges, on the two faces, is on that face too
  with-anchor : (x : ℕ) → IsOff d e x → on_either m f d e x ≡ true → same_face m h (f e) x ≡ true
  with-anchor x o t = elim (or_cases (same_face m f d x) (same_face m f (twin e) x) t) [
    | inl i ↦ same_after.transitive (f e) (f (twin d)) x (same_after.symmetric (f (twin d)) (f e) (across m f g h k place side d e s j b two_d two_e)) (first-together m f g h k place side d e s j b two_d two_e x i o.first)
    | inr i ↦ second-together x i o.second_twin
  ]

  -- so darts off the edges, on the two faces, are on one face of the glued map
  pub either-together : (x y : ℕ) → IsOff d e x → IsOff d e y → on_either m f d e x ≡ true → on_either m f d e y ≡ true → same_face m h x y ≡ true
  either-together x y o p t u = same_after.transitive x (f e) y (same_after.symmetric (f e) x (with-anchor x o t)) (with-anchor y p u)

  -- a face that has neither d nor e nor their twins is as it was
  module _ (x : ℕ) (upper : on_either m f d e x ≡ false) (lower : on_either m f (twin d) (twin e) x ≡ false) where
    -- its darts are off the edges
    other-off : (z : ℕ) → same_face m f x z ≡ true → IsOff d e z
    other-off z t = record {
      first = λ i. both_ways (on_either m f d e x) upper (or_left (same_face m f d x) (same_face m f (twin e) x) (same.symmetric x d (ap (same_face m f x) (sym i) ∙ t)));
      first_twin = λ i. both_ways (on_either m f (twin d) (twin e) x) lower (or_left (same_face m f (twin d) x) (same_face m f (twin (twin e)) x) (same.symmetric x (twin d) (ap (same_face m f x) (sym i) ∙ t)));
      second = λ i. both_ways (on_either m f (twin d) (twin e) x) lower (or_right (same_face m f (twin d) x) (same_face m f (twin (twin e)) x) (same.symmetric x (twin (twin e)) (ap (same_face m f x) (twin-twin e ∙ sym i) ∙ t)));
      second_twin = λ i. both_ways (on_either m f d e x) upper (or_right (same_face m f d x) (same_face m f (twin e) x) (same.symmetric x (twin e) (ap (same_face m f x) (sym i) ∙ t)));
    }

    -- and are followed as before
    other-step : (z : ℕ) → z < 2 * m → same_face m f x z ≡ true → face h z ≡ face f z
    other-step z l t = plain-step m f g h k place side d e s j b two_d two_e z l (other-off z t) (other-off (face f z) (same.transitive x z (face f z) t (orbit-step (2 * m) (face f) z l)))

    -- what is on one face with x now was so before
    pub other-before : (y : ℕ) → same_face m h x y ≡ true → same_face m f x y ≡ true
    other-before y t = sym (orbit-kept (2 * m) (face h) (λ z. twin (k z)) (face-permutes m h k b) (same_face m f x)
        (λ z l w. subst (λ (u : ℕ). same_face m f x u ≡ true) (sym (other-step z l w)) (same.transitive x z (face f z) w (orbit-step (2 * m) (face f) z l))) x y t) ∙ same.reflexive x

    -- and what was so is so now
    pub other-after : (y : ℕ) → same_face m f x y ≡ true → same_face m h x y ≡ true
    other-after y t = (and_parts (same_face m f x y) (same_face m h x y) (sym (orbit-kept (2 * m) (face f) (λ z. twin (g z)) (face-permutes m f g s.is_map) (λ z. same_face m f x z && same_face m h x z)
        (λ z l w. let p = and_parts (same_face m f x z) (same_face m h x z) w in and_from (same_face m f x (face f z)) (same_face m h x (face f z)) (same.transitive x z (face f z) p.0 (orbit-step (2 * m) (face f) z l))
        (same_after.transitive x z (face f z) p.1 (subst (λ (u : ℕ). same_face m h z u ≡ true) (other-step z l p.0) (orbit-step (2 * m) (face h) z l)))) x y t)
        ∙ and_from (same_face m f x x) (same_face m h x x) (same.reflexive x) (same_after.reflexive x))).1

-- darts off the edges, before the gluing and after it
module _ (m : ℕ) (f g h k : ℕ → ℕ) (place : ℕ → ℕ) (side : ℕ → Bool) (d e : ℕ) (s : AreFacing m f g place side d e) (j : AreJoined m f g h d e) (b : IsMap m h k)
    (two_d : same_face m f d (twin d) ≡ false) (two_e : same_face m f e (twin e) ≡ false) where
  -- lying on one face is an equivalence
  alike : IsEquivalence (same_face m f)
  alike = orbit-equivalence (2 * m) (face f)

  -- the two faces of the twins become one
  pub lower-together : (x y : ℕ) → IsOff d e x → IsOff d e y → on_either m f (twin d) (twin e) x ≡ true → on_either m f (twin d) (twin e) y ≡ true → same_face m h x y ≡ true
  lower-together x y o p = either-together m f g h k place side (twin d) (twin e) (facing-twins m f g place side d e s) (joined-twins m f g h d e j) b
      (two_t m f g h k place side d e s j b two_d two_e) (two_w m f g h k place side d e s j b two_d two_e) x y (off-twins d e x o) (off-twins d e y p)

  -- and what lies on them now did before
  pub lower-kept : (x y : ℕ) → same_face m h x y ≡ true → IsOff d e x → on_either m f (twin d) (twin e) x ≡ true → IsOff d e y × (on_either m f (twin d) (twin e) y ≡ true)
  lower-kept x y t o i = let w = either-kept m f g h k place side (twin d) (twin e) (facing-twins m f g place side d e s) (joined-twins m f g h d e j) b
      (two_t m f g h k place side d e s j b two_d two_e) (two_w m f g h k place side d e s j b two_d two_e) x y t (off-twins d e x o) i in (twins-off d e y w.0, w.1)

  -- the two faces are passed on from dart to dart
  either-with : (x y : ℕ) (d e : ℕ) → same_face m f x y ≡ true → on_either m f d e x ≡ true → on_either m f d e y ≡ true
  either-with x y d e t u = elim (or_cases (same_face m f d x) (same_face m f (twin e) x) u) [
    | inl i ↦ or_left (same_face m f d y) (same_face m f (twin e) y) (alike.transitive d x y i t)
    | inr i ↦ or_right (same_face m f d y) (same_face m f (twin e) y) (alike.transitive (twin e) x y i t)
  ]

  -- darts off the edges that lie on one face lie on one face of the glued map
  pub together-stay : (x y : ℕ) → IsOff d e x → IsOff d e y → same_face m f x y ≡ true → same_face m h x y ≡ true
  together-stay x y o p t = elim (cases_Bool (on_either m f d e x)) [
    | inl u ↦ either-together m f g h k place side d e s j b two_d two_e x y o p u (either-with x y d e t u)
    | inr u ↦ elim (cases_Bool (on_either m f (twin d) (twin e) x)) [
      | inl v ↦ lower-together x y o p v (either-with x y (twin d) (twin e) t v)
      | inr v ↦ other-after m f g h k place side d e s j b two_d two_e x u v y t
    ]
  ]

  -- darts of one side that lie on the two faces lie on one of them
  side-one : (x y : ℕ) → side x ≡ side y → on_either m f d e x ≡ true → on_either m f d e y ≡ true → same_face m f x y ≡ true
  side-one x y q t u = elim (or_cases (same_face m f d x) (same_face m f (twin e) x) t) [
    | inl i ↦ elim (or_cases (same_face m f d y) (same_face m f (twin e) y) u) [
      | inl v ↦ alike.transitive x d y (alike.symmetric d x i) v
      | inr v ↦ absurd (both_ways (side y) (outer y v) (sym q ∙ inner x i))
    ]
    | inr i ↦ elim (or_cases (same_face m f d y) (same_face m f (twin e) y) u) [
      | inl v ↦ absurd (both_ways (side y) (sym q ∙ outer x i) (inner y v))
      | inr v ↦ alike.transitive x (twin e) y (alike.symmetric (twin e) x i) v
    ]
  ]
    where
      inner : (x : ℕ) → same_face m f d x ≡ true → side x ≡ true
      inner x i = sym (faces-side m f g h k place side d e s j b two_d two_e d x i) ∙ s.inside

      outer : (x : ℕ) → same_face m f (twin e) x ≡ true → side x ≡ false
      outer x i = sym (faces-side m f g h k place side d e s j b two_d two_e (twin e) x i) ∙ s.sides_twin e (s.darts.1) ∙ s.outside

  -- and so on the faces of the twins
  side-one_lower : (x y : ℕ) → side x ≡ side y → on_either m f (twin d) (twin e) x ≡ true → on_either m f (twin d) (twin e) y ≡ true → same_face m f x y ≡ true
  side-one_lower x y q t u = elim (or_cases (same_face m f (twin d) x) (same_face m f (twin (twin e)) x) t) [
    | inl i ↦ elim (or_cases (same_face m f (twin d) y) (same_face m f (twin (twin e)) y) u) [
      | inl v ↦ alike.transitive x (twin d) y (alike.symmetric (twin d) x i) v
      | inr v ↦ absurd (both_ways (side y) (outer y v) (sym q ∙ inner x i))
    ]
    | inr i ↦ elim (or_cases (same_face m f (twin d) y) (same_face m f (twin (twin e)) y) u) [
      | inl v ↦ absurd (both_ways (side y) (sym q ∙ outer x i) (inner y v))
      | inr v ↦ alike.transitive x (twin (twin e)) y (alike.symmetric (twin (twin e)) x i) v
    ]
  ]
    where
      inner : (x : ℕ) → same_face m f (twin d) x ≡ true → side x ≡ true
      inner x i = sym (faces-side m f g h k place side d e s j b two_d two_e (twin d) x i) ∙ s.sides_twin d (s.darts.0) ∙ s.inside

      outer : (x : ℕ) → same_face m f (twin (twin e)) x ≡ true → side x ≡ false
      outer x i = sym (faces-side m f g h k place side d e s j b two_d two_e (twin (twin e)) x i) ∙ ap side (twin-twin e) ∙ s.outside

  -- so darts of one side, off the edges, are on one face of the glued map only where they were before
  pub side-before : (x y : ℕ) → IsOff d e x → side x ≡ side y → same_face m h x y ≡ true → same_face m f x y ≡ true
  side-before x y o q t = elim (cases_Bool (on_either m f d e x)) [
    | inl u ↦ side-one x y q u (either-kept m f g h k place side d e s j b two_d two_e x y t o u).1
    | inr u ↦ elim (cases_Bool (on_either m f (twin d) (twin e) x)) [
      | inl v ↦ side-one_lower x y q v (lower-kept x y t o v).1
      | inr v ↦ other-before m f g h k place side d e s j b two_d two_e x u v y t
    ]
  ]
