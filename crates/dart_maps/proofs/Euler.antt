-- Euler's inequality: V + F is at most E + 2C in every map.
use Rattle.std.proofs.Common.{◌≡◌, ℕ, zero, suc, ◌+◌, ◌*◌, ◌/◌, ◌%◌, ◌<◌, ◌≤◌, inl, inr, Bool, true, false, ◌==◌, refl, sym, ap, ◌∙◌, subst, arith, eqb-true, eq-eqb}
use Rattle.std.proofs.lemmas.Bool.{cases_eq, false_from_ne_true, ne_eqb}
use Rattle.permutations.specs.Count.{count}
use Rattle.permutations.specs.Relation.{IsEquivalence, class_count, leads}
use Rattle.permutations.specs.Permutation.{same_orbit, orbit_count}
use Rattle.permutations.specs.Exchange.{exchange}
use Rattle.permutations.proofs.Relation.{equal-equivalence}
use Rattle.permutations.proofs.Orbits.{orbit-least, orbit-equivalence, orbit-step, orbit-count-ext}
use Rattle.dart_maps.specs.Map.{twin, face, IsMap, same_face, same_component, vertex_count, face_count, component_count, IsPlane}
use Rattle.dart_maps.proofs.Darts.{twin-cases, twin-below, twin-edge}
use Rattle.dart_maps.proofs.Components.{component-equivalence, component-twin, component-least, component-count-ext}
use Rattle.permutations.specs.Exchange.{unlink, taken_out}
use Rattle.permutations.proofs.Count.{count-ext, count-yes, count-no, count-all}
use Rattle.permutations.proofs.Leaders.{leads-from, not-leads}
use Rattle.permutations.proofs.Unlinking.{unlink-exchange, unlink-still, before-orbit}
use Rattle.permutations.proofs.TakenOut.{taken-out-keeps, taken-out-alone}
use Rattle.dart_maps.proofs.Steps.{split-defect}

-- maps that agree on all darts have equally many vertices, faces and components
pub counts-ext : (m : ℕ) (f h : ℕ → ℕ) → ((d : ℕ) → d < 2 * m → f d ≡ h d) → (vertex_count m f ≡ vertex_count m h) × (face_count m f ≡ face_count m h) × (component_count m f ≡ component_count m h)
counts-ext m f h s = (orbit-count-ext (2 * m) f h s, orbit-count-ext (2 * m) (face f) (face h) (λ d l. s (twin d) (twin-below m d l)), component-count-ext m f h s)

-- maps that agree on all darts are plane together
pub plane-ext : (m : ℕ) (f h : ℕ → ℕ) → ((d : ℕ) → d < 2 * m → f d ≡ h d) → IsPlane m f → IsPlane m h
plane-ext m f h s p = let c = counts-ext m f h s in omega (arith, c.0, c.1, c.2)

-- the even numbers below 2m are m
pub count-even : (m : ℕ) → count (2 * m) (λ d. d % 2 == 0) ≡ m
count-even zero = refl
count-even (suc m) = let e : 2 * suc m ≡ (2 * m + 1) + 1 = omega arith in
    ap (λ (k : ℕ). count k (λ d. d % 2 == 0)) e
    ∙ count-no (2 * m + 1) (λ d. d % 2 == 0) (ne_eqb ((2 * m + 1) % 2) 0 (λ h. omega arith))
    ∙ count-yes (2 * m) (λ d. d % 2 == 0) (eq-eqb ((2 * m) % 2) 0 (omega arith))
    ∙ omega (arith, count-even m)

-- a relation whose classes are the edges has m classes
pub edge-classes : (m : ℕ) (r : ℕ → ℕ → Bool) → IsEquivalence r → ((x y : ℕ) → x < 2 * m → r x y ≡ true → x / 2 ≡ y / 2) → ((d : ℕ) → d < 2 * m → r d (twin d) ≡ true) → class_count (2 * m) r ≡ m
edge-classes m r e within across = count-ext (2 * m) (leads r) (λ d. d % 2 == 0) first ∙ count-even m
  where
    first : (d : ℕ) → d < 2 * m → leads r d ≡ (d % 2 == 0)
    first d l = elim (twin-cases d) [
      | inl a ↦ leads-from r d (λ y k. false_from_ne_true (r y d) (λ t. let h : y / 2 ≡ d / 2 = within y d (omega arith) t in omega (arith, a.0))) ∙ sym (eq-eqb (d % 2) 0 (a.0))
      | inr a ↦ not-leads r d (twin d) (omega (arith, a.1)) (e.symmetric d (twin d) (across d l)) ∙ sym (ne_eqb (d % 2) 0 (λ h. omega (arith, a.0)))
    ]

-- agreeing in a value is an equivalence: here, having one edge
edge-equivalence : IsEquivalence (λ x y. x / 2 == y / 2)
edge-equivalence = record {
  reflexive = λ x. eq-eqb (x / 2) (x / 2) refl;
  symmetric = λ x y h. eq-eqb (y / 2) (x / 2) (sym (eqb-true (x / 2) (y / 2) h));
  transitive = λ x y z h k. eq-eqb (x / 2) (z / 2) (eqb-true (x / 2) (y / 2) h ∙ eqb-true (y / 2) (z / 2) k);
}

-- a number that moves nothing has as many orbits as numbers
still-count : (n : ℕ) (f : ℕ → ℕ) → ((d : ℕ) → d < n → f d ≡ d) → orbit_count n f ≡ n
still-count n f s = count-ext n (leads (same_orbit n f)) (λ d. true) (λ d l. leads-from (same_orbit n f) d (λ y k. false_from_ne_true (same_orbit n f y d) (λ t. let e : y ≡ d = eqb-true y d (orbit-least n f (λ u v. u == v) equal-equivalence (λ z i. eq-eqb z (f z) (sym (s z i))) y d t) in omega arith))) ∙ count-all n (λ d. true) (λ d l. refl)

-- a map in which all darts are alone is plane
pub still-plane : (m : ℕ) (f : ℕ → ℕ) → ((d : ℕ) → d < 2 * m → f d ≡ d) → IsPlane m f
still-plane m f s = omega (arith, v, w, c)
  where
    v : vertex_count m f ≡ 2 * m
    v = still-count (2 * m) f s

    near : (d : ℕ) → d < 2 * m → face f d / 2 ≡ d / 2
    near d l = ap (λ (z : ℕ). z / 2) (s (twin d) (twin-below m d l)) ∙ twin-edge d

    w : face_count m f ≡ m
    w = edge-classes m (same_face m f) (orbit-equivalence (2 * m) (face f))
        (λ x y l t. eqb-true (x / 2) (y / 2) (orbit-least (2 * m) (face f) (λ u v. u / 2 == v / 2) edge-equivalence (λ z i. eq-eqb (z / 2) (face f z / 2) (sym (near z i))) x y t))
        (λ d l. subst (λ (z : ℕ). same_face m f d z ≡ true) (s (twin d) (twin-below m d l)) (orbit-step (2 * m) (face f) d l))

    c : component_count m f ≡ m
    c = edge-classes m (same_component m f) (component-equivalence m f)
        (λ x y l t. eqb-true (x / 2) (y / 2) (component-least m f (λ u v. u / 2 == v / 2) edge-equivalence (λ z i. eq-eqb (z / 2) (f z / 2) (ap (λ (q : ℕ). q / 2) (sym (s z i)))) (λ z i. eq-eqb (z / 2) (twin z / 2) (sym (twin-edge z))) x y t))
        (λ d l. component-twin m f d l)

-- taking out a dart never raises the defect
pub unlink-defect : (m : ℕ) (f g : ℕ → ℕ) → IsMap m f g → (d : ℕ) → d < 2 * m → vertex_count m f + face_count m f + 2 * component_count m (unlink d f) ≤ vertex_count m (unlink d f) + face_count m (unlink d f) + 2 * component_count m f
unlink-defect m f g b d l = elim (cases_eq (f d) d) [
  | inl e ↦ let c = counts-ext m (unlink d f) f (unlink-still (2 * m) d f g b l e) in omega (arith, c.0, c.1, c.2)
  | inr e ↦ let c = counts-ext m (unlink d f) (exchange (g d) d f) (unlink-exchange (2 * m) d f g b l) in
      let s = split-defect m f g b (g d) d (b.back d l) l (λ i. e (ap f (sym i) ∙ b.forth_back d l)) (before-orbit (2 * m) d f g b l) in omega (arith, c.0, c.1, c.2, s)
]

-- the defect of a map with darts taken out is at most that of the map
pub taken-out-defect : (m : ℕ) (f g : ℕ → ℕ) → IsMap m f g → (keep : ℕ → Bool) (k : ℕ) → k ≤ 2 * m → vertex_count m f + face_count m f + 2 * component_count m (taken_out keep k f) ≤ vertex_count m (taken_out keep k f) + face_count m (taken_out keep k f) + 2 * component_count m f
taken-out-defect m f g b keep = taken-out-keeps (2 * m) keep (λ h. vertex_count m f + face_count m f + 2 * component_count m h ≤ vertex_count m h + face_count m h + 2 * component_count m f)
    (λ h i c d l u p. omega (arith, unlink-defect m h i c d l, p)) f g b (omega arith)

-- Euler's inequality: in every map V + F is at most E + 2C
pub euler : (m : ℕ) (f g : ℕ → ℕ) → IsMap m f g → vertex_count m f + face_count m f ≤ m + 2 * component_count m f
euler m f g b = let p : IsPlane m (taken_out (λ d. false) (2 * m) f) = still-plane m (taken_out (λ d. false) (2 * m) f) (λ d l. taken-out-alone (2 * m) (λ d. false) f g b (2 * m) (omega arith) d l refl) in
    omega (arith, p, taken-out-defect m f g b (λ d. false) (2 * m) (omega arith))
