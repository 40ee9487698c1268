-- Dropping an edge that has two faces, and a dart at the end of an edge: the defect stays.
use Rattle.std.proofs.Common.{◌≡◌, ℕ, ◌*◌, ◌<◌, inl, inr, Bool, true, false, ◌||◌, ◌==◌, refl, sym, ap, ◌∙◌, subst, arith, eq-eqb}
use Rattle.std.proofs.lemmas.Bool.{cases_Bool, cases_eq, both_ways, false_from_ne_true, ne_eqb}
use Rattle.permutations.specs.Relation.{IsEquivalence}
use Rattle.permutations.specs.Exchange.{exchange}
use Rattle.permutations.proofs.Permutations.{permutes-one-to-one, exchange-right, exchange-other}
use Rattle.permutations.proofs.Orbits.{orbit-equivalence, orbit-step}
use Rattle.dart_maps.specs.Map.{twin, face, IsMap, same_vertex, same_face, same_component, SameDefect}
use Rattle.dart_maps.proofs.Darts.{twin-twin, twin-other, twin-below, twin-one, twin-back, face-twin}
use Rattle.dart_maps.proofs.Components.{component-test, vertex-component}
use Rattle.permutations.specs.Exchange.{unlink}
use Rattle.permutations.proofs.Unlinking.{unlink-alone, unlink-still, unlink-exchange, unlink-permutes, before-orbit}
use Rattle.dart_maps.specs.Changes.{dropped}
use Rattle.dart_maps.proofs.Steps.{back_after, step-map, split-split, components-split}
use Rattle.dart_maps.proofs.Plane.{same-defect-over, same-defect-ext, split-merge-defect}

-- a dart on another face than its twin is not alone
pub faces-not-alone : (m : ℕ) (f g : ℕ → ℕ) → IsMap m f g → (d : ℕ) → d < 2 * m → same_face m f d (twin d) ≡ false → f d ≡ d → ⊥
faces-not-alone m f g b d l w e = both_ways (same_face m f d (twin d)) w ((orbit-equivalence (2 * m) (face f)).symmetric (twin d) d (subst (λ (z : ℕ). same_face m f (twin d) z ≡ true) (face-twin f d ∙ e) (orbit-step (2 * m) (face f) (twin d) (twin-below m d l))))

-- taking a dart out where its twin lies on another face keeps the defect
pub unlink-faces-defect : (m : ℕ) (f g : ℕ → ℕ) → IsMap m f g → (d : ℕ) → d < 2 * m → same_face m f d (twin d) ≡ false → SameDefect m f (unlink d f)
unlink-faces-defect m f g b d l w = same-defect-over m f (exchange (g d) d f) (unlink d f)
    (split-merge-defect m f g b (g d) d (b.back d l) l (λ i. faces-not-alone m f g b d l w (ap f (sym i) ∙ b.forth_back d l)) (before-orbit (2 * m) d f g b l) (false_from_ne_true (same_face m f (twin (g d)) (twin d)) other))
    (same-defect-ext m (exchange (g d) d f) (unlink d f) (λ x k. sym (unlink-exchange (2 * m) d f g b l x k)))
  where
    e : IsEquivalence (same_face m f)
    e = orbit-equivalence (2 * m) (face f)

    other : same_face m f (twin (g d)) (twin d) ≡ true → ⊥
    other t = both_ways (same_face m f d (twin d)) w (e.transitive d (twin (g d)) (twin d)
        (e.symmetric (twin (g d)) d (subst (λ (z : ℕ). same_face m f (twin (g d)) z ≡ true) (face-twin f (g d) ∙ b.forth_back d l) (orbit-step (2 * m) (face f) (twin (g d)) (twin-below m (g d) (b.back d l))))) t)

-- an edge with both its darts alone is a component of its own
pub dead-edge-apart : (m : ℕ) (f g : ℕ → ℕ) → IsMap m f g → (d : ℕ) → d < 2 * m → f d ≡ d → f (twin d) ≡ twin d → (x : ℕ) → (x ≡ d → ⊥) → (x ≡ twin d → ⊥) → same_component m f x d ≡ false
dead-edge-apart m f g b d l e h x a c = false_from_ne_true (same_component m f x d) (λ t. both_ways (own x) apart (component-test m f own steps twins x d t ∙ here))
  where
    own : ℕ → Bool
    own z = (z == d) || (z == twin d)

    here : own d ≡ true
    here = rw (eq-eqb d d refl) refl

    apart : own x ≡ false
    apart = rw (ne_eqb x d a, ne_eqb x (twin d) c) refl

    steps : (z : ℕ) → z < 2 * m → own (f z) ≡ own z
    steps z k = elim (cases_eq z d) [
      | inl i ↦ ap (λ (u : ℕ). own (f u)) i ∙ ap own e ∙ ap own (sym i)
      | inr i ↦ elim (cases_eq z (twin d)) [
        | inl j ↦ ap (λ (u : ℕ). own (f u)) j ∙ ap own h ∙ ap own (sym j)
        | inr j ↦ rw (ne_eqb z d i, ne_eqb z (twin d) j, ne_eqb (f z) d (λ u. i (permutes-one-to-one (2 * m) f g b z d k l (u ∙ sym e))), ne_eqb (f z) (twin d) (λ u. j (permutes-one-to-one (2 * m) f g b z (twin d) k (twin-below m d l) (u ∙ sym h)))) refl
      ]
    ]

    twins : (z : ℕ) → z < 2 * m → own (twin z) ≡ own z
    twins z k = elim (cases_eq z d) [
      | inl i ↦ rw (i, eq-eqb d d refl, eq-eqb (twin d) (twin d) refl) (grind (arith, cases_Bool (twin d == d)))
      | inr i ↦ elim (cases_eq z (twin d)) [
        | inl j ↦ rw (j, twin-twin d, eq-eqb d d refl, eq-eqb (twin d) (twin d) refl) (grind (arith, cases_Bool (twin d == d)))
        | inr j ↦ rw (ne_eqb z d i, ne_eqb z (twin d) j, ne_eqb (twin z) d (λ u. j (twin-back z d u)), ne_eqb (twin z) (twin d) (λ u. i (twin-one z d u))) refl
      ]
    ]

-- taking a dart out whose twin is alone keeps the defect
pub unlink-end-defect : (m : ℕ) (f g : ℕ → ℕ) → IsMap m f g → (e : ℕ) → e < 2 * m → f (twin e) ≡ twin e → SameDefect m f (unlink e f)
unlink-end-defect m f g b e l a = elim (cases_eq (f e) e) [
  | inl h ↦ same-defect-ext m f (unlink e f) (λ x k. sym (unlink-still (2 * m) e f g b l h x k))
  | inr h ↦ same-defect-over m f s (unlink e f) (parted h) (same-defect-ext m s (unlink e f) (λ x k. sym (unlink-exchange (2 * m) e f g b l x k)))
]
  where
    s : ℕ → ℕ
    s = exchange (g e) e f

    k : g e < 2 * m
    k = b.back e l

    differ : (f e ≡ e → ⊥) → g e ≡ e → ⊥
    differ h i = h (ap f (sym i) ∙ b.forth_back e l)

    vertex : same_vertex m f (g e) e ≡ true
    vertex = before-orbit (2 * m) e f g b l

    c : IsEquivalence (same_face m f)
    c = orbit-equivalence (2 * m) (face f)

    around : same_face m f (twin (g e)) (twin e) ≡ true
    around = c.transitive (twin (g e)) e (twin e)
        (subst (λ (z : ℕ). same_face m f (twin (g e)) z ≡ true) (face-twin f (g e) ∙ b.forth_back e l) (orbit-step (2 * m) (face f) (twin (g e)) (twin-below m (g e) k)))
        (subst (λ (z : ℕ). same_face m f e z ≡ true) a (orbit-step (2 * m) (face f) e l))

    other : g e ≡ twin e → ⊥
    other i = twin-other e (sym (sym (b.forth_back e l) ∙ ap f i ∙ a))

    here : s e ≡ e
    here = exchange-right (g e) e f ∙ b.forth_back e l

    there : s (twin e) ≡ twin e
    there = exchange-other (g e) e f (twin e) (λ i. other (sym i)) (λ i. twin-other e i) ∙ a

    parted : (f e ≡ e → ⊥) → SameDefect m f s
    parted h = let v = split-split m f g b (g e) e k l (differ h) vertex around in
        let w = components-split m f g b (g e) e k l (vertex-component m f (g e) e vertex) (dead-edge-apart m s (back_after (g e) e g) (step-map m f g b (g e) e k l) e l here there (g e) (differ h) other) in
        omega (arith, v.0, v.1, w)

-- dropping an edge that lies on two faces keeps the defect
pub drop-defect : (m : ℕ) (f g : ℕ → ℕ) → IsMap m f g → (d : ℕ) → d < 2 * m → same_face m f d (twin d) ≡ false → SameDefect m f (dropped d f)
drop-defect m f g b d l w = same-defect-over m f (unlink d f) (dropped d f) (unlink-faces-defect m f g b d l w)
    (unlink-end-defect m (unlink d f) (unlink d g) (unlink-permutes (2 * m) d f g b l) (twin d) (twin-below m d l)
    (subst (λ (z : ℕ). unlink d f z ≡ z) (sym (twin-twin d)) (unlink-alone d f)))

-- the map with an edge dropped is a map
pub dropped-map : (m : ℕ) (f g : ℕ → ℕ) → IsMap m f g → (d : ℕ) → d < 2 * m → IsMap m (dropped d f) (dropped d g)
dropped-map m f g b d l = unlink-permutes (2 * m) (twin d) (unlink d f) (unlink d g) (unlink-permutes (2 * m) d f g b l) (twin-below m d l)
