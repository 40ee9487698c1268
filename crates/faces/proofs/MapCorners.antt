-- In a plane map two darts of one vertex that are connected without passing it lie on different faces.
use Rattle.std.proofs.Common.{◌≡◌, ◌≢◌, ℕ, ◌*◌, ◌<◌, inl, inr, true, false, sym, ap, ◌∙◌, subst}
use Rattle.std.proofs.lemmas.Bool.{cases_Bool, both_ways, false_from_ne_true}
use Rattle.permutations.specs.Relation.{IsEquivalence}
use Rattle.permutations.specs.Exchange.{exchange}
use Rattle.permutations.proofs.Permutations.{exchange-left, exchange-right, exchange-other}
use Rattle.permutations.proofs.Orbits.{orbit-equivalence, orbit-step}
use Rattle.dart_maps.specs.Map.{twin, face, IsMap, same_vertex, same_face, same_component, IsPlane}
use Rattle.dart_maps.specs.Order.{frozen, connected_around}
use Rattle.dart_maps.proofs.Darts.{twin-below, face-twin}
use Rattle.dart_maps.proofs.Components.{component-equivalence, component-next, component-finer}
use Rattle.dart_maps.proofs.Plane.{corner-keep}
use Rattle.dart_maps.proofs.FourDarts.{frozen-here, frozen-elsewhere}

-- the dart before is of the same vertex
before-vertex : (m : ℕ) (f g : ℕ → ℕ) → IsMap m f g → (p : ℕ) → p < 2 * m → same_vertex m f p (g p) ≡ true
before-vertex m f g b p l = (orbit-equivalence (2 * m) f).symmetric (g p) p (subst (λ z. same_vertex m f (g p) z ≡ true) (b.forth_back p l) (orbit-step (2 * m) f (g p) (b.back p l)))

-- the corner before a dart is on the face of the dart
before-face : (m : ℕ) (f g : ℕ → ℕ) → IsMap m f g → (p : ℕ) → p < 2 * m → same_face m f (twin (g p)) p ≡ true
before-face m f g b p l = subst (λ z. same_face m f (twin (g p)) z ≡ true) (face-twin f (g p) ∙ b.forth_back p l) (orbit-step (2 * m) (face f) (twin (g p)) (twin-below m (g p) (b.back p l)))

-- two darts of one vertex of a plane map that are connected without passing it lie on different faces
pub face-once : (m : ℕ) (f g : ℕ → ℕ) → IsMap m f g → IsPlane m f → (p q : ℕ) → p < 2 * m → q < 2 * m → p ≢ q → same_vertex m f p q ≡ true → connected_around m f p p q ≡ true → same_face m f p q ≡ false
face-once m f g b h p q l k n v c = false_from_ne_true (same_face m f p q) (λ t. both_ways (same_face m f (twin (g p)) (twin (g q))) apart
    (faces.transitive (twin (g p)) q (twin (g q)) (faces.transitive (twin (g p)) p q (before-face m f g b p l) t) (faces.symmetric (twin (g q)) q (before-face m f g b q k))))
  where
    faces : IsEquivalence (same_face m f)
    faces = orbit-equivalence (2 * m) (face f)

    vertices : IsEquivalence (same_vertex m f)
    vertices = orbit-equivalence (2 * m) f

    split : ℕ → ℕ
    split = exchange (g p) (g q) f

    parts : IsEquivalence (same_component m split)
    parts = component-equivalence m split

    at_q : same_vertex m f p (g q) ≡ true
    at_q = vertices.transitive p q (g q) v (before-vertex m f g b q k)

    different : g p ≢ g q
    different e = n (sym (b.forth_back p l) ∙ ap f e ∙ b.forth_back q k)

    elsewhere : (d x : ℕ) → same_vertex m f p d ≡ false → same_vertex m f p x ≡ true → d ≢ x
    elsewhere d x o i e = both_ways (same_vertex m f p d) o (subst (λ z. same_vertex m f p z ≡ true) (sym e) i)

    stays : (d : ℕ) → d < 2 * m → same_component m split d (frozen (same_vertex m f p) f d) ≡ true
    stays d j = elim (cases_Bool (same_vertex m f p d)) [
      | inl t ↦ subst (λ z. same_component m split d z ≡ true) (sym (frozen-here (same_vertex m f p) f d t)) (parts.reflexive d)
      | inr t ↦ subst (λ z. same_component m split d z ≡ true)
          (exchange-other (g p) (g q) f d (elsewhere d (g p) t (before-vertex m f g b p l)) (elsewhere d (g q) t at_q) ∙ sym (frozen-elsewhere (same_vertex m f p) f d t))
          (component-next m split d j)
    ]

    around : same_component m split p q ≡ true
    around = component-finer m (frozen (same_vertex m f p) f) split stays p q c

    one : same_component m split (g p) q ≡ true
    one = subst (λ z. same_component m split (g p) z ≡ true) (exchange-left (g p) (g q) f ∙ b.forth_back q k) (component-next m split (g p) (b.back p l))

    two : same_component m split (g q) p ≡ true
    two = subst (λ z. same_component m split (g q) z ≡ true) (exchange-right (g p) (g q) f ∙ b.forth_back p l) (component-next m split (g q) (b.back q k))

    apart : same_face m f (twin (g p)) (twin (g q)) ≡ false
    apart = corner-keep m f g b h (g p) (g q) (b.back p l) (b.back q k) different
        (vertices.transitive (g p) p (g q) (vertices.symmetric p (g p) (before-vertex m f g b p l)) at_q)
        (parts.transitive (g p) p (g q) (parts.transitive (g p) q p one (parts.symmetric p q around)) (parts.symmetric (g q) p two))
