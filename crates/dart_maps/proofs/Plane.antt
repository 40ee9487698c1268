-- What keeps a map plane: splitting a vertex, taking out darts. And the corner cut.
use Rattle.std.proofs.Common.{◌≡◌, ℕ, ◌+◌, ◌*◌, ◌<◌, ◌≤◌, Bool, true, false, sym, arith}
use Rattle.std.proofs.lemmas.Bool.{both_ways, false_from_ne_true}
use Rattle.permutations.specs.Exchange.{exchange}
use Rattle.dart_maps.specs.Map.{twin, IsMap, same_vertex, same_face, same_component, vertex_count, face_count, component_count, IsPlane, SameDefect}
use Rattle.dart_maps.proofs.Components.{vertex-component}
use Rattle.permutations.specs.Exchange.{taken_out, restricted}
use Rattle.permutations.proofs.TakenOut.{taken-out-permutes}
use Rattle.permutations.proofs.Restriction.{restricted-taken-out}
use Rattle.dart_maps.proofs.Steps.{back_after, step-map, split-split, split-merge, merge-split, merge-merge, merge-apart, merge-within, split-defect, components-stay}
use Rattle.dart_maps.proofs.Euler.{euler, counts-ext, plane-ext, taken-out-defect}

-- a map that is no further from plane than a plane one is plane
pub defect-plane : (m : ℕ) (f : ℕ → ℕ) → IsPlane m f → (h k : ℕ → ℕ) → IsMap m h k → vertex_count m f + face_count m f + 2 * component_count m h ≤ vertex_count m h + face_count m h + 2 * component_count m f → IsPlane m h
defect-plane m f p h k c d = omega (arith, euler m h k c)

-- maps of one defect are plane together
pub same-defect-plane : (m : ℕ) (f h : ℕ → ℕ) → SameDefect m f h → IsPlane m f → IsPlane m h
same-defect-plane m f h s p = omega arith

-- having one defect goes both ways
pub same-defect-back : (m : ℕ) (f h : ℕ → ℕ) → SameDefect m f h → SameDefect m h f
same-defect-back m f h s = omega arith

-- and from one map over another to a third
pub same-defect-over : (m : ℕ) (f h k : ℕ → ℕ) → SameDefect m f h → SameDefect m h k → SameDefect m f k
same-defect-over m f h k s t = omega arith

-- maps that agree on all darts have one defect
pub same-defect-ext : (m : ℕ) (f h : ℕ → ℕ) → ((d : ℕ) → d < 2 * m → f d ≡ h d) → SameDefect m f h
same-defect-ext m f h s = let c = counts-ext m f h s in omega (arith, c.0, c.1, c.2)

-- splitting a vertex within two faces keeps the defect
pub split-merge-defect : (m : ℕ) (f g : ℕ → ℕ) → IsMap m f g → (p q : ℕ) → p < 2 * m → q < 2 * m → (p ≡ q → ⊥) → same_vertex m f p q ≡ true → same_face m f (twin p) (twin q) ≡ false → SameDefect m f (exchange p q f)
split-merge-defect m f g b p q l k d v w = let s = split-merge m f g b p q l k d v w in omega (arith, s.0, s.1, s.2)

-- merging two vertices within one face keeps the defect
pub merge-split-defect : (m : ℕ) (f g : ℕ → ℕ) → IsMap m f g → (p q : ℕ) → p < 2 * m → q < 2 * m → same_vertex m f p q ≡ false → same_face m f (twin p) (twin q) ≡ true → SameDefect m f (exchange p q f)
merge-split-defect m f g b p q l k v w = let s = merge-split m f g b p q l k v w in omega (arith, s.0, s.1, s.2)

-- merging two vertices of different components keeps the defect
pub merge-apart-defect : (m : ℕ) (f g : ℕ → ℕ) → IsMap m f g → (p q : ℕ) → p < 2 * m → q < 2 * m → same_component m f p q ≡ false → SameDefect m f (exchange p q f)
merge-apart-defect m f g b p q l k c = let s = merge-apart m f g b p q l k c in omega (arith, s.0, s.1, s.2)

-- merging two vertices of one component within two faces raises the defect by two
pub merge-within-defect : (m : ℕ) (f g : ℕ → ℕ) → IsMap m f g → (p q : ℕ) → p < 2 * m → q < 2 * m → same_component m f p q ≡ true → same_vertex m f p q ≡ false → same_face m f (twin p) (twin q) ≡ false → vertex_count m f + face_count m f + 2 * component_count m (exchange p q f) ≡ vertex_count m (exchange p q f) + face_count m (exchange p q f) + 2 * component_count m f + 2
merge-within-defect m f g b p q l k c v w = let s = merge-merge m f g b p q l k v w in omega (arith, s.0, s.1, merge-within m f g b p q l k c v)

-- splitting a vertex of a plane map keeps it plane
pub split-plane : (m : ℕ) (f g : ℕ → ℕ) → IsMap m f g → IsPlane m f → (p q : ℕ) → p < 2 * m → q < 2 * m → (p ≡ q → ⊥) → same_vertex m f p q ≡ true → IsPlane m (exchange p q f)
split-plane m f g b h p q l k d v = defect-plane m f h (exchange p q f) (back_after p q g) (step-map m f g b p q l k) (split-defect m f g b p q l k d v)

-- the corner cut: a plane map split at two corners of one vertex and one face falls apart there
pub corner-cut : (m : ℕ) (f g : ℕ → ℕ) → IsMap m f g → IsPlane m f → (p q : ℕ) → p < 2 * m → q < 2 * m → (p ≡ q → ⊥) → same_vertex m f p q ≡ true → same_face m f (twin p) (twin q) ≡ true → same_component m (exchange p q f) p q ≡ false
corner-cut m f g b h p q l k d v w = false_from_ne_true (same_component m (exchange p q f) p q) (λ t. let s = split-split m f g b p q l k d v w in
    let c = components-stay m f g b p q l k (vertex-component m f p q v) t in
    let e = euler m (exchange p q f) (back_after p q g) (step-map m f g b p q l k) in absurd (omega (arith, s.0, s.1, c, e)))

-- two corners of one vertex that stay connected when the vertex is split there are in different faces
pub corner-keep : (m : ℕ) (f g : ℕ → ℕ) → IsMap m f g → IsPlane m f → (p q : ℕ) → p < 2 * m → q < 2 * m → (p ≡ q → ⊥) → same_vertex m f p q ≡ true → same_component m (exchange p q f) p q ≡ true → same_face m f (twin p) (twin q) ≡ false
corner-keep m f g b h p q l k d v c = false_from_ne_true (same_face m f (twin p) (twin q)) (λ t. both_ways (same_component m (exchange p q f) p q) (corner-cut m f g b h p q l k d v t) c)

-- taking out darts keeps a map plane
pub taken-out-plane : (m : ℕ) (f g : ℕ → ℕ) → IsMap m f g → IsPlane m f → (keep : ℕ → Bool) (k : ℕ) → k ≤ 2 * m → IsPlane m (taken_out keep k f)
taken-out-plane m f g b p keep k l = defect-plane m f p (taken_out keep k f) (taken_out keep k g) (taken-out-permutes (2 * m) keep f g b k l) (taken-out-defect m f g b keep k l)

-- a plane map restricted to some of its darts is plane
pub restricted-plane : (m : ℕ) (f g : ℕ → ℕ) → IsMap m f g → IsPlane m f → (keep : ℕ → Bool) → IsPlane m (restricted (2 * m) keep f)
restricted-plane m f g b p keep = plane-ext m (taken_out keep (2 * m) f) (restricted (2 * m) keep f) (λ d l. sym (restricted-taken-out (2 * m) keep f g b d l)) (taken-out-plane m f g b p keep (2 * m) (omega arith))
