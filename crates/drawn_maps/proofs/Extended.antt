-- A map with one more edge, whose darts are alone, and a lone dart put in after another one.
use Rattle.std.proofs.Common.{◌≡◌, ℕ, ◌+◌, ◌*◌, ◌<◌, ◌≤◌, inl, inr, Bool, true, false, ◌||◌, ◌&&◌, cond, ltb, ◌==◌, refl, sym, ap, ◌∙◌, subst, arith}
use Rattle.std.proofs.lemmas.Bool.{lt-ltb, le-ltb, ltb-true, ltb-false, cases_eq, cases_lt, eqb-true, eq-eqb, ne_eqb, false_from_ne_true}
use Rattle.permutations.specs.Relation.{IsEquivalence, join}
use Rattle.permutations.specs.Permutation.{Permutes, same_orbit}
use Rattle.permutations.specs.Exchange.{exchange}
use Rattle.permutations.proofs.Relation.{same-tests}
use Rattle.permutations.proofs.Orbits.{orbit-equivalence, orbit-step, orbit-least, orbit-outside}
use Rattle.permutations.proofs.Transpositions.{exchange-join}
use Rattle.dart_maps.specs.Map.{twin, face, IsMap, IsPlane, same_face}
use Rattle.dart_maps.specs.Renumbering.{IsRenumbering}
use Rattle.dart_maps.proofs.Darts.{twin-below, twin-twin}
use Rattle.dart_maps.proofs.Renumber.{renumber-plane}
pub use Rattle.drawn_maps.specs.Drawn.{AreTold, extended}

-- the old darts are followed as before
pub extended-below : (m : ℕ) (f : ℕ → ℕ) (d : ℕ) → d < 2 * m → extended m f d ≡ f d
extended-below m f d l = ap (λ t. cond t (f d) d) (lt-ltb d (2 * m) l)

-- the others are alone
pub extended-above : (m : ℕ) (f : ℕ → ℕ) (d : ℕ) → 2 * m ≤ d → extended m f d ≡ d
extended-above m f d l = ap (λ t. cond t (f d) d) (le-ltb d (2 * m) l)

-- it is a map
pub extended-map : (m : ℕ) (f g : ℕ → ℕ) → IsMap m f g → IsMap (m + 1) (extended m f) (extended m g)
extended-map m f g b = record {
  forth = λ d l. elim (cases_lt d (2 * m)) [
    | inl k ↦ let i : f d < 2 * m = b.forth d k in subst (λ z. z < 2 * (m + 1)) (sym (extended-below m f d k)) (omega (arith, i))
    | inr k ↦ subst (λ z. z < 2 * (m + 1)) (sym (extended-above m f d k)) l
  ];
  back = λ d l. elim (cases_lt d (2 * m)) [
    | inl k ↦ let i : g d < 2 * m = b.back d k in subst (λ z. z < 2 * (m + 1)) (sym (extended-below m g d k)) (omega (arith, i))
    | inr k ↦ subst (λ z. z < 2 * (m + 1)) (sym (extended-above m g d k)) l
  ];
  back_forth = λ d l. elim (cases_lt d (2 * m)) [
    | inl k ↦ ap (extended m g) (extended-below m f d k) ∙ extended-below m g (f d) (b.forth d k) ∙ b.back_forth d k
    | inr k ↦ ap (extended m g) (extended-above m f d k) ∙ extended-above m g d k
  ];
  forth_back = λ d l. elim (cases_lt d (2 * m)) [
    | inl k ↦ ap (extended m f) (extended-below m g d k) ∙ extended-below m f (g d) (b.back d k) ∙ b.forth_back d k
    | inr k ↦ ap (extended m f) (extended-above m g d k) ∙ extended-above m f d k
  ];
}

-- the same map beside a dead edge
extended-renumbering : (m : ℕ) (f g : ℕ → ℕ) → IsMap m f g → IsRenumbering m f (m + 1) (extended m f) (λ d. ltb d (2 * m)) (λ d. d) (λ d. d)
extended-renumbering m f g b = record {
  whole_edges = λ d l. same-tests (ltb (twin d) (2 * m)) (ltb d (2 * m))
      (λ t. lt-ltb d (2 * m) (subst (λ z. z < 2 * m) (twin-twin d) (twin-below m (twin d) (ltb-true (twin d) (2 * m) t))))
      (λ t. lt-ltb (twin d) (2 * m) (twin-below m d (ltb-true d (2 * m) t)));
  others_alone = λ d l t. extended-above m f d (ltb-false d (2 * m) t);
  darts = λ d l. omega (arith, l);
  lives = λ d l. lt-ltb d (2 * m) l;
  darts_back = λ d l t. ltb-true d (2 * m) t;
  into_back = λ d l t. refl;
  back_into = λ d l. refl;
  twins = λ d l. refl;
  steps = λ d l. sym (extended-below m f d l);
}

-- so it is plane where the map is
pub extended-plane : (m : ℕ) (f g : ℕ → ℕ) → IsMap m f g → IsPlane m f → IsPlane (m + 1) (extended m f)
extended-plane m f g b p = renumber-plane m f g b (m + 1) (extended m f) (extended m g) (extended-map m f g b) (λ d. ltb d (2 * m)) (λ d. d) (λ d. d) (extended-renumbering m f g b) p

-- darts of one vertex are so in both
pub extended-orbit : (m : ℕ) (f : ℕ → ℕ) (x y : ℕ) → same_orbit (2 * (m + 1)) (extended m f) x y ≡ same_orbit (2 * m) f x y
extended-orbit m f x y = same-tests (same_orbit (2 * (m + 1)) (extended m f) x y) (same_orbit (2 * m) f x y)
    (orbit-least (2 * (m + 1)) (extended m f) (same_orbit (2 * m) f) old there x y)
    (orbit-least (2 * m) f (same_orbit (2 * (m + 1)) (extended m f)) new here x y)
  where
    old : IsEquivalence (same_orbit (2 * m) f)
    old = orbit-equivalence (2 * m) f

    new : IsEquivalence (same_orbit (2 * (m + 1)) (extended m f))
    new = orbit-equivalence (2 * (m + 1)) (extended m f)

    there : (z : ℕ) → z < 2 * (m + 1) → same_orbit (2 * m) f z (extended m f z) ≡ true
    there z l = elim (cases_lt z (2 * m)) [
      | inl k ↦ subst (λ w. same_orbit (2 * m) f z w ≡ true) (sym (extended-below m f z k)) (orbit-step (2 * m) f z k)
      | inr k ↦ subst (λ w. same_orbit (2 * m) f z w ≡ true) (sym (extended-above m f z k)) (old.reflexive z)
    ]

    here : (z : ℕ) → z < 2 * m → same_orbit (2 * (m + 1)) (extended m f) z (f z) ≡ true
    here z k = subst (λ w. same_orbit (2 * (m + 1)) (extended m f) z w ≡ true) (extended-below m f z k) (orbit-step (2 * (m + 1)) (extended m f) z (omega (arith, k)))

-- and darts of one face
pub extended-face : (m : ℕ) (f : ℕ → ℕ) (x y : ℕ) → same_face m f x y ≡ true → same_face (m + 1) (extended m f) x y ≡ true
extended-face m f = orbit-least (2 * m) (face f) (same_face (m + 1) (extended m f)) (orbit-equivalence (2 * (m + 1)) (face (extended m f))) here
  where
    here : (z : ℕ) → z < 2 * m → same_face (m + 1) (extended m f) z (face f z) ≡ true
    here z k = subst (λ w. same_face (m + 1) (extended m f) z w ≡ true) (extended-below m f (twin z) (twin-below m z k)) (orbit-step (2 * (m + 1)) (face (extended m f)) z (omega (arith, k)))

-- no other number below n has the label of x
abbrev pub IsLone : ℕ → (ℕ → ℕ) → ℕ → Type 0
IsLone n label x = (d : ℕ) → d < n → (d ≡ x → ⊥) → label d ≡ label x → ⊥

-- labels for the new darts, of which none is that of another dart
pub extended-told : (m : ℕ) (f g : ℕ → ℕ) → IsMap m f g → (label : ℕ → ℕ) → AreTold (2 * m) f label → IsLone (2 * (m + 1)) label (2 * m) → IsLone (2 * (m + 1)) label (2 * m + 1) → AreTold (2 * (m + 1)) (extended m f) label
extended-told m f g b label t u v c d l k = extended-orbit m f c d ∙ elim (cases_lt c (2 * m)) [
  | inl i ↦ elim (cases_lt d (2 * m)) [
    | inl j ↦ t c d i j
    | inr j ↦ apart-right c d l k j
  ]
  | inr i ↦ sym-test (same_orbit (2 * m) f c d) (same_orbit (2 * m) f d c) (symmetric c d) ∙ apart-right d c k l i ∙ same-tests (label d == label c) (label c == label d)
      (λ e. eq-eqb (label c) (label d) (sym (eqb-true (label d) (label c) e))) (λ e. eq-eqb (label d) (label c) (sym (eqb-true (label c) (label d) e)))
]
  where
    sym-test : (p q : Bool) → (p ≡ q) → p ≡ q
    sym-test p q e = e

    symmetric : (x y : ℕ) → same_orbit (2 * m) f x y ≡ same_orbit (2 * m) f y x
    symmetric x y = same-tests (same_orbit (2 * m) f x y) (same_orbit (2 * m) f y x) ((orbit-equivalence (2 * m) f).symmetric x y) ((orbit-equivalence (2 * m) f).symmetric y x)

    apart-right : (x y : ℕ) → x < 2 * (m + 1) → y < 2 * (m + 1) → 2 * m ≤ y → same_orbit (2 * m) f x y ≡ (label x == label y)
    apart-right x y l k j = elim (cases_eq x y) [
      | inl e ↦ subst (λ z. same_orbit (2 * m) f x z ≡ (label x == label z)) e ((orbit-equivalence (2 * m) f).reflexive x ∙ sym (eq-eqb (label x) (label x) refl))
      | inr n ↦ false_from_ne_true (same_orbit (2 * m) f x y) (λ h. n (sym (orbit-outside (2 * m) f b.forth y x j ((orbit-equivalence (2 * m) f).symmetric x y h))))
          ∙ sym (ne_eqb (label x) (label y) (λ e. lone y k j x l n e))
    ]
      where
        lone : (y : ℕ) → y < 2 * (m + 1) → 2 * m ≤ y → IsLone (2 * (m + 1)) label y
        lone y k j = elim (cases_eq y (2 * m)) [
          | inl e ↦ subst (IsLone (2 * (m + 1)) label) (sym e) u
          | inr n ↦ let e : 2 * m + 1 ≡ y = omega (arith, n, k, j) in subst (IsLone (2 * (m + 1)) label) e v
        ]

-- the lone x put in after p: it has the label of p
pub put-told : (n : ℕ) (f g : ℕ → ℕ) → Permutes n f g → (p x : ℕ) → p < n → x < n → (p ≡ x → ⊥) → (label new : ℕ → ℕ) → AreTold n f label → IsLone n label x → new x ≡ label p → ((d : ℕ) → d < n → (d ≡ x → ⊥) → new d ≡ label d) → AreTold n (exchange p x f) new
put-told n f g b p x lp lx px label new t u here others c d lc ld =
    exchange-join n f g b p x lp lx (t p x lp lx ∙ ne_eqb (label p) (label x) (u p lp px)) c d ∙ joined
  where
    -- no other number below n has the label of x
    from_x : (d : ℕ) → d < n → (d ≡ x → ⊥) → (label d == label x) ≡ false
    from_x d l n = ne_eqb (label d) (label x) (u d l n)

    to_x : (d : ℕ) → d < n → (d ≡ x → ⊥) → (label x == label d) ≡ false
    to_x d l n = ne_eqb (label x) (label d) (λ e. u d l n (sym e))

    told : join (same_orbit n f) p x c d ≡ ((label c == label d) || (((label c == label p) && (label x == label d)) || ((label c == label x) && (label p == label d))))
    told = grind (arith, t c d lc ld, t c p lc lp, t x d lx ld, t c x lc lx, t p d lp ld)

    joined : join (same_orbit n f) p x c d ≡ (new c == new d)
    joined = told ∙ elim (cases_eq c x) [
      | inl i ↦ elim (cases_eq d x) [
        | inl j ↦ same i j
        | inr j ↦ first i j
      ]
      | inr i ↦ elim (cases_eq d x) [
        | inl j ↦ second i j
        | inr j ↦ neither i j
      ]
    ]
      where
        same : c ≡ x → d ≡ x → ((label c == label d) || (((label c == label p) && (label x == label d)) || ((label c == label x) && (label p == label d)))) ≡ (new c == new d)
        same i j = let e : label c ≡ label d = ap label (i ∙ sym j) in let h : new c ≡ new d = ap new (i ∙ sym j) in grind (arith, eq-eqb (label c) (label d) e, eq-eqb (new c) (new d) h)

        first : c ≡ x → (d ≡ x → ⊥) → ((label c == label d) || (((label c == label p) && (label x == label d)) || ((label c == label x) && (label p == label d)))) ≡ (new c == new d)
        first i j =
            let nd : new d ≡ label d = others d ld j in
            let nc : new c ≡ label p = ap new i ∙ here in
            let cd : (label c == label d) ≡ false = ap (λ z. label z == label d) i ∙ to_x d ld j in
            let xd : (label x == label d) ≡ false = to_x d ld j in
            let cx : (label c == label x) ≡ true = eq-eqb (label c) (label x) (ap label i) in
            let goal : (new c == new d) ≡ (label p == label d) = ap (λ z. z == new d) nc ∙ ap (λ z. label p == z) nd in
            grind (arith, cd, xd, cx, goal)

        second : (c ≡ x → ⊥) → d ≡ x → ((label c == label d) || (((label c == label p) && (label x == label d)) || ((label c == label x) && (label p == label d)))) ≡ (new c == new d)
        second i j =
            let nd : new d ≡ label p = ap new j ∙ here in
            let nc : new c ≡ label c = others c lc i in
            let cd : (label c == label d) ≡ false = ap (λ z. label c == label z) j ∙ from_x c lc i in
            let xd : (label x == label d) ≡ true = eq-eqb (label x) (label d) (ap label (sym j)) in
            let cx : (label c == label x) ≡ false = from_x c lc i in
            let goal : (new c == new d) ≡ (label c == label p) = ap (λ z. z == new d) nc ∙ ap (λ z. label c == z) nd in
            grind (arith, cd, xd, cx, goal)

        neither : (c ≡ x → ⊥) → (d ≡ x → ⊥) → ((label c == label d) || (((label c == label p) && (label x == label d)) || ((label c == label x) && (label p == label d)))) ≡ (new c == new d)
        neither i j =
            let nd : new d ≡ label d = others d ld j in
            let nc : new c ≡ label c = others c lc i in
            let xd : (label x == label d) ≡ false = to_x d ld j in
            let cx : (label c == label x) ≡ false = from_x c lc i in
            let goal : (new c == new d) ≡ (label c == label d) = ap (λ z. z == new d) nc ∙ ap (λ z. label c == z) nd in
            grind (arith, xd, cx, goal)
