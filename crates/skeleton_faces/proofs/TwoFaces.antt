-- An edge of a plane map that is no bridge has its two darts on different faces: otherwise the map would fall apart if the
-- edge were taken from its vertex.
use Rattle.std.proofs.Common.{◌≡◌, ◌≢◌, ℕ, ◌*◌, ◌<◌, Bool, true, false, not, ◌&&◌, ◌==◌, inl, inr, refl, sym, ap, ◌∙◌, subst, eq-eqb}
use Rattle.std.proofs.lemmas.Bool.{cases_eq, both_ways, ne_eqb, false_from_ne_true}
use Rattle.permutations.specs.Relation.{IsEquivalence}
use Rattle.permutations.specs.Exchange.{exchange}
use Rattle.permutations.proofs.Permutations.{exchange-left, exchange-other, permutes-back}
use Rattle.permutations.proofs.Orbits.{orbit-equivalence, orbit-step}
use Rattle.dart_maps.specs.Map.{twin, face, IsMap, IsPlane, same_vertex, same_face, same_component}
use Rattle.dart_maps.proofs.Darts.{twin-below, twin-twin, twin-other, face-twin}
use Rattle.dart_maps.proofs.Components.{component-equivalence, component-next, component-twin}
use Rattle.dart_maps.proofs.Plane.{corner-cut}
use Rattle.skeleton_planes.specs.Bridges.{IsNoBridge}
use Rattle.skeleton_planes.proofs.Stages.{class-kept}

-- a plane map and a dart d, not alone, whose edge is no bridge
module _ (m : ℕ) (f g : ℕ → ℕ) (b : IsMap m f g) (plane : IsPlane m f) (d : ℕ) (l : d < 2 * m) (company : f d ≢ d) (bridge : IsNoBridge m f d) where
  -- the dart before d is a dart
  lp : g d < 2 * m
  lp = b.back d l

  -- which d follows
  after-p : f (g d) ≡ d
  after-p = b.forth_back d l

  -- it is not d
  other : g d ≢ d
  other i = company (ap f (sym i) ∙ after-p)

  -- being in one component of the map with d taken from its vertex
  c : IsEquivalence (same_component m (exchange (g d) d f))
  c = component-equivalence m (exchange (g d) d f)

  -- whether a dart other than d is in one component with its twin then
  abbrev with_twin : ℕ → Bool
  with_twin x = not (x == d) && same_component m (exchange (g d) d f) (twin d) x

  -- not so at d
  at-d : with_twin d ≡ false
  at-d = rw (eq-eqb d d refl) refl

  -- elsewhere it is the component
  elsewhere : (x : ℕ) → (x ≡ d → ⊥) → with_twin x ≡ same_component m (exchange (g d) d f) (twin d) x
  elsewhere x n = rw (ne_eqb x d n) refl

  -- where the edge's darts are on one face, d and the dart before it fall apart
  module _ (one : same_face m f d (twin d) ≡ true) where
    -- the two corners are on one face
    corners : same_face m f (twin (g d)) (twin d) ≡ true
    corners = (orbit-equivalence (2 * m) (face f)).transitive (twin (g d)) d (twin d)
        (subst (λ z. same_face m f (twin (g d)) z ≡ true) (face-twin f (g d) ∙ after-p) (orbit-step (2 * m) (face f) (twin (g d)) (twin-below m (g d) lp))) one

    -- so they are in different components
    apart : same_component m (exchange (g d) d f) (g d) d ≡ false
    apart = corner-cut m f g b plane (g d) d lp l other (subst (λ z. same_vertex m f (g d) z ≡ true) after-p (orbit-step (2 * m) f (g d) lp)) corners

    -- the dart before d is not with the twin
    p-apart : same_component m (exchange (g d) d f) (twin d) (g d) ≡ false
    p-apart = false_from_ne_true (same_component m (exchange (g d) d f) (twin d) (g d)) (λ t. both_ways (same_component m (exchange (g d) d f) (g d) d) apart
        (c.symmetric d (g d) (c.transitive d (twin d) (g d) (component-twin m (exchange (g d) d f) d l) t)))

    -- the test has one value at each vertex
    kept : (x : ℕ) → x < 2 * m → with_twin (f x) ≡ with_twin x
    kept x lx = elim (cases_eq x d) [
      | inl i ↦ subst (λ z. with_twin (f z) ≡ with_twin z) (sym i) (elsewhere (f d) company ∙ behind ∙ sym at-d)
      | inr i ↦ elim (cases_eq x (g d)) [
        | inl q ↦ ap (λ z. with_twin (f z)) q ∙ ap with_twin after-p ∙ at-d ∙ sym p-apart ∙ ap (same_component m (exchange (g d) d f) (twin d)) (sym q) ∙ sym (elsewhere x i)
        | inr q ↦ elsewhere (f x) (λ k. q (sym (permutes-back (2 * m) f g b x d lx k)))
            ∙ ap (same_component m (exchange (g d) d f) (twin d)) (sym (exchange-other (g d) d f x q i))
            ∙ class-kept (same_component m (exchange (g d) d f)) c (twin d) x (exchange (g d) d f x) (component-next m (exchange (g d) d f) x lx)
            ∙ sym (elsewhere x i)
      ]
    ]
      where
        behind : same_component m (exchange (g d) d f) (twin d) (f d) ≡ false
        behind = ap (same_component m (exchange (g d) d f) (twin d)) (sym (exchange-left (g d) d f))
            ∙ class-kept (same_component m (exchange (g d) d f)) c (twin d) (g d) (exchange (g d) d f (g d)) (component-next m (exchange (g d) d f) (g d) lp) ∙ p-apart

    -- and along each other edge
    across : (x : ℕ) → x < 2 * m → (x ≡ d → ⊥) → (x ≡ twin d → ⊥) → with_twin (twin x) ≡ with_twin x
    across x lx i k = elsewhere (twin x) (λ q. k (sym (twin-twin x) ∙ ap twin q))
        ∙ class-kept (same_component m (exchange (g d) d f)) c (twin d) x (twin x) (component-twin m (exchange (g d) d f) x lx) ∙ sym (elsewhere x i)

    -- but not along that of d
    contradiction : ⊥
    contradiction = both_ways (with_twin d) at-d (bridge with_twin kept across ∙ elsewhere (twin d) (twin-other d) ∙ c.reflexive (twin d))

  -- so they are on two faces
  pub two-faces : same_face m f d (twin d) ≡ false
  two-faces = false_from_ne_true (same_face m f d (twin d)) contradiction
