-- A test that has one value along a part of a map has it at both ends of an edge that is no bridge there.
use Rattle.std.proofs.Common.{◌≡◌, ℕ, ◌*◌, ◌<◌, Bool, true, false, not, ◌&&◌, ◌||◌, ◌==◌, cond, inl, inr, refl, sym, ap, ◌∙◌, subst, arith, eq-eqb, eqb-true}
use Rattle.std.proofs.lemmas.Bool.{cases_Bool, cases_eq, ne_eqb, and_from, and_parts, or_cases, or_left, or_right}
use Rattle.permutations.specs.Permutation.{Permutes}
use Rattle.permutations.proofs.Orbits.{orbit-kept, orbit-equivalence}
use Rattle.permutations.proofs.Unlinking.{before-orbit}
use Rattle.dart_maps.specs.Map.{twin}
use Rattle.dart_maps.proofs.Darts.{twin-other, twin-twin}
use Rattle.skeleton_planes.proofs.Seams.{AreFacing}
use Rattle.skeleton_planes.specs.Bridges.{IsNoBridge}
use Rattle.skeleton_planes.proofs.Facing.{twin-in, twin-side, after-not_twin, twin_after-not_d, before-only, twin_before-only}

-- two values of a test are the same, as a test
abbrev pub alike : Bool → Bool → Bool
alike x y = cond x y (not y)

-- it says so
pub alike-true : (x y : Bool) → alike x y ≡ true → x ≡ y
alike-true x y h = grind (arith, cases_Bool x, cases_Bool y)

-- and is said
pub alike-from : (x y : Bool) → x ≡ y → alike x y ≡ true
alike-from x y h = grind (arith, cases_Bool x, cases_Bool y)

-- a test that has one value along an orbit but at e has it before e and behind e
pub round-but-one : (n : ℕ) (f g : ℕ → ℕ) → Permutes n f g → (e : ℕ) → e < n → (f e ≡ e → ⊥) → (k : ℕ → Bool) → ((x : ℕ) → x < n → k (f x) ≡ k x) → k e ≡ true
    → (a : ℕ → Bool) → ((x : ℕ) → x < n → k x ≡ true → (x ≡ e → ⊥) → (f x ≡ e → ⊥) → a (f x) ≡ a x) → a (g e) ≡ a (f e)
round-but-one n f g b e l moved k keeps here a steps = elim (or_cases (g e == e) (alike (a (g e)) (a (f e))) (and_parts (k (g e)) (near (g e)) there).1) [
  | inl i ↦ absurd (moved (ap f (sym (eqb-true (g e) e i)) ∙ b.forth_back e l))
  | inr i ↦ alike-true (a (g e)) (a (f e)) i
]
  where
    near : ℕ → Bool
    near x = (x == e) || alike (a x) (a (f e))

    inside : ℕ → Bool
    inside x = k x && near x

    next : (x : ℕ) → x < n → inside x ≡ true → inside (f x) ≡ true
    next x i h = let p = and_parts (k x) (near x) h in and_from (k (f x)) (near (f x)) (keeps x i ∙ p.0) (elim (cases_eq x e) [
      | inl q ↦ or_right (f x == e) (alike (a (f x)) (a (f e))) (alike-from (a (f x)) (a (f e)) (ap (λ (z : ℕ). a (f z)) q))
      | inr q ↦ elim (cases_eq (f x) e) [
        | inl r ↦ or_left (f x == e) (alike (a (f x)) (a (f e))) (eq-eqb (f x) e r)
        | inr r ↦ or_right (f x == e) (alike (a (f x)) (a (f e))) (alike-from (a (f x)) (a (f e)) (steps x i p.0 q r ∙ (elim (or_cases (x == e) (alike (a x) (a (f e))) p.1) [
          | inl o ↦ absurd (q (eqb-true x e o))
          | inr o ↦ alike-true (a x) (a (f e)) o
        ])))
      ]
    ])

    start : inside e ≡ true
    start = and_from (k e) (near e) here (or_left (e == e) (alike (a e) (a (f e))) (eq-eqb e e refl))

    there : inside (g e) ≡ true
    there = sym (orbit-kept n f g b inside next e (g e) ((orbit-equivalence n f).symmetric (g e) e (before-orbit n e f g b l))) ∙ start

-- an edge d that faces another, and a test with one value at each vertex and along each edge on d's side, but at d's edge
module _ (m : ℕ) (f g : ℕ → ℕ) (place : ℕ → ℕ) (side : ℕ → Bool) (d e : ℕ) (s : AreFacing m f g place side d e) (a : ℕ → Bool)
    (steps : (x : ℕ) → x < 2 * m → side x ≡ true → (x ≡ d → ⊥) → (x ≡ twin d → ⊥) → (f x ≡ d → ⊥) → (f x ≡ twin d → ⊥) → a (f x) ≡ a x) where
  -- the darts on d's side that leave where z does
  abbrev around : ℕ → ℕ → Bool
  around z x = side x && (place x == place z)

  -- the next dart is one of them too
  around-keeps : (z x : ℕ) → x < 2 * m → around z (f x) ≡ around z x
  around-keeps z x l = rw (s.sides_next x l, s.places_next x l) refl

  -- the value before d is that behind d
  pub spread-before : a (g d) ≡ a (f d)
  spread-before = round-but-one (2 * m) f g s.is_map d (s.darts.0) (s.company.0) (around d) (around-keeps d) (and_from (side d) (place d == place d) s.inside (eq-eqb (place d) (place d) refl)) a
      (λ x l h i j. let p = and_parts (side x) (place x == place d) h in let q : place x ≡ place d = eqb-true (place x) (place d) p.1 in
      steps x l p.0 i (λ k. s.two_places (sym q ∙ ap place k)) j (λ k. s.two_places (sym q ∙ sym (s.places_next x l) ∙ ap place k)))

  -- and so at the twin
  pub spread-twin_before : a (g (twin d)) ≡ a (f (twin d))
  spread-twin_before = round-but-one (2 * m) f g s.is_map (twin d) (twin-in m f g place side d e s) (s.company.1) (around (twin d)) (around-keeps (twin d)) (and_from (side (twin d)) (place (twin d) == place (twin d)) (twin-side m f g place side d e s) (eq-eqb (place (twin d)) (place (twin d)) refl)) a
      (λ x l h i j. let p = and_parts (side x) (place x == place (twin d)) h in let q : place x ≡ place (twin d) = eqb-true (place x) (place (twin d)) p.1 in
      steps x l p.0 (λ k. s.two_places (sym (ap place k) ∙ q)) i (λ k. s.two_places (sym (ap place k) ∙ s.places_next x l ∙ q)) j)

  -- the test carried over: at d the value behind d, at its twin the value behind the twin, and true on the other side
  abbrev carried : ℕ → Bool
  carried x = cond (side x) (cond (x == d) (a (f d)) (cond (x == twin d) (a (f (twin d))) (a x))) true

  -- on the other side
  carried-out : (x : ℕ) → side x ≡ false → carried x ≡ true
  carried-out x h = rw h refl

  -- at d
  carried-d : carried d ≡ a (f d)
  carried-d = rw (s.inside, eq-eqb d d refl) refl

  -- at its twin
  carried-twin : carried (twin d) ≡ a (f (twin d))
  carried-twin = rw (twin-side m f g place side d e s, ne_eqb (twin d) d (twin-other d), eq-eqb (twin d) (twin d) refl) refl

  -- elsewhere
  carried-in : (x : ℕ) → side x ≡ true → (x ≡ d → ⊥) → (x ≡ twin d → ⊥) → carried x ≡ a x
  carried-in x h i j = rw (h, ne_eqb x d i, ne_eqb x (twin d) j) refl

  -- it has one value at each vertex
  carried-next : (x : ℕ) → x < 2 * m → carried (f x) ≡ carried x
  carried-next x l = elim (cases_Bool (side x)) [
    | inr h ↦ carried-out (f x) (s.sides_next x l ∙ h) ∙ sym (carried-out x h)
    | inl h ↦ let k : side (f x) ≡ true = s.sides_next x l ∙ h in elim (cases_eq x d) [
      | inl i ↦ subst (λ (z : ℕ). carried (f z) ≡ carried z) (sym i) (carried-in (f d) (s.sides_next d (s.darts.0) ∙ s.inside) (s.company.0) (after-not_twin m f g place side d e s) ∙ sym carried-d)
      | inr i ↦ elim (cases_eq x (twin d)) [
        | inl j ↦ subst (λ (z : ℕ). carried (f z) ≡ carried z) (sym j) (carried-in (f (twin d)) (s.sides_next (twin d) (twin-in m f g place side d e s) ∙ twin-side m f g place side d e s) (twin_after-not_d m f g place side d e s) (s.company.1) ∙ sym carried-twin)
        | inr j ↦ elim (cases_eq (f x) d) [
          | inl p ↦ ap carried p ∙ carried-d ∙ sym spread-before ∙ ap a (sym (before-only m f g place side d e s x l p)) ∙ sym (carried-in x h i j)
          | inr p ↦ elim (cases_eq (f x) (twin d)) [
            | inl q ↦ ap carried q ∙ carried-twin ∙ sym spread-twin_before ∙ ap a (sym (twin_before-only m f g place side d e s x l q)) ∙ sym (carried-in x h i j)
            | inr q ↦ carried-in (f x) k p q ∙ steps x l h i j p q ∙ sym (carried-in x h i j)
          ]
        ]
      ]
    ]
  ]

  -- and along each edge but d's
  carried-across : ((x : ℕ) → x < 2 * m → side x ≡ true → (x ≡ d → ⊥) → (x ≡ twin d → ⊥) → a (twin x) ≡ a x) → (x : ℕ) → x < 2 * m → (x ≡ d → ⊥) → (x ≡ twin d → ⊥) → carried (twin x) ≡ carried x
  carried-across c x l i j = elim (cases_Bool (side x)) [
    | inr h ↦ carried-out (twin x) (s.sides_twin x l ∙ h) ∙ sym (carried-out x h)
    | inl h ↦ carried-in (twin x) (s.sides_twin x l ∙ h) (λ k. j (sym (twin-twin x) ∙ ap twin k)) (λ k. i (sym (twin-twin x) ∙ ap twin k ∙ twin-twin d)) ∙ c x l h i j ∙ sym (carried-in x h i j)
  ]

  -- so it has one value behind d and behind its twin, where d's edge is no bridge
  pub spread : ((x : ℕ) → x < 2 * m → side x ≡ true → (x ≡ d → ⊥) → (x ≡ twin d → ⊥) → a (twin x) ≡ a x) → IsNoBridge m f d → a (f d) ≡ a (f (twin d))
  spread c n = sym carried-d ∙ n carried carried-next (carried-across c) ∙ carried-twin
