-- The mirror image of a map.
use Rattle.std.proofs.Common.{◌≡◌, ℕ, ◌*◌, true, sym, ◌∙◌, subst, arith}
use Rattle.permutations.specs.Permutation.{Permutes}
use Rattle.permutations.proofs.Relation.{same-tests}
use Rattle.permutations.proofs.Classes.{class_count-ext}
use Rattle.permutations.proofs.Permutations.{permutes-inverse}
use Rattle.permutations.proofs.Orbits.{orbit-count-ext, orbit-count-inverse}
use Rattle.dart_maps.specs.Map.{twin, face, IsMap, same_component, vertex_count, face_count, component_count, IsPlane, SameDefect}
use Rattle.dart_maps.proofs.Darts.{twin-twin, twin-permutes, face-permutes}
use Rattle.dart_maps.proofs.Components.{component-equivalence, component-next, component-finer}
use Rattle.permutations.proofs.Renaming.{renamed-count}
use Rattle.dart_maps.proofs.Plane.{same-defect-plane}

-- the mirror image has the same components
mirror-component : (m : ℕ) (f g : ℕ → ℕ) → IsMap m f g → (x y : ℕ) → same_component m g x y ≡ true → same_component m f x y ≡ true
mirror-component m f g b = component-finer m g f (λ d l. (component-equivalence m f).symmetric (g d) d (subst (λ (z : ℕ). same_component m f (g d) z ≡ true) (b.forth_back d l) (component-next m f (g d) (b.back d l))))

-- the mirror image has as many vertices, faces and components
pub mirror-counts : (m : ℕ) (f g : ℕ → ℕ) → IsMap m f g → (vertex_count m g ≡ vertex_count m f) × (face_count m g ≡ face_count m f) × (component_count m g ≡ component_count m f)
mirror-counts m f g b = (orbit-count-inverse (2 * m) f g b, faces, class_count-ext (2 * m) (same_component m g) (same_component m f) (λ x y l k. same-tests (same_component m g x y) (same_component m f x y) (mirror-component m f g b x y) (mirror-component m g f (permutes-inverse (2 * m) f g b) x y)))
  where
    back : ℕ → ℕ
    back d = twin (g d)

    c : Permutes (2 * m) (face f) back
    c = face-permutes m f g b

    faces : face_count m g ≡ face_count m f
    faces = orbit-count-ext (2 * m) (face g) (λ z. twin (back (twin z))) (λ d l. sym (twin-twin (g (twin d))))
        ∙ renamed-count (2 * m) back (face f) twin twin (permutes-inverse (2 * m) (face f) back c) (twin-permutes m)
        ∙ orbit-count-inverse (2 * m) (face f) back c

-- the mirror image is as far from plane
pub mirror-defect : (m : ℕ) (f g : ℕ → ℕ) → IsMap m f g → SameDefect m f g
mirror-defect m f g b = let c = mirror-counts m f g b in omega (arith, c.0, c.1, c.2)

-- so it is plane where the map is
pub mirror-plane : (m : ℕ) (f g : ℕ → ℕ) → IsMap m f g → IsPlane m f → IsPlane m g
mirror-plane m f g b p = same-defect-plane m f g (mirror-defect m f g b) p
