-- Two components glued at two vertices of each, which lie on one face: the defect stays.
use Rattle.std.proofs.Common.{◌≡◌, ℕ, ◌*◌, ◌<◌, inl, inr, true, false, sym, ◌∙◌}
use Rattle.std.proofs.lemmas.Bool.{both_ways, false_from_ne_true}
use Rattle.permutations.specs.Relation.{IsEquivalence}
use Rattle.permutations.specs.Exchange.{exchange}
use Rattle.permutations.proofs.Relation.{join-across, join-cases}
use Rattle.permutations.proofs.Orbits.{orbit-equivalence}
use Rattle.permutations.proofs.Transpositions.{exchange-join}
use Rattle.dart_maps.specs.Map.{twin, face, IsMap, same_vertex, same_face, same_component, SameDefect}
use Rattle.dart_maps.proofs.Components.{component-equivalence, component-twin, vertex-component, face-component}
use Rattle.dart_maps.proofs.Steps.{back_after, step-map, face-join}
use Rattle.dart_maps.proofs.Plane.{same-defect-over, merge-split-defect, merge-apart-defect}

-- a map, corners a and p of two vertices and one face, and corners b and q of one face, in another component
module _ (m : ℕ) (f g : ℕ → ℕ) (e : IsMap m f g) (a b p q : ℕ) (la : a < 2 * m) (lb : b < 2 * m) (lp : p < 2 * m) (lq : q < 2 * m) (apart : same_component m f a b ≡ false) (vertices : same_vertex m f a p ≡ false) (near : same_face m f (twin a) (twin p) ≡ true) (far : same_face m f (twin b) (twin q) ≡ true) where
  -- relations of the map
  c : IsEquivalence (same_component m f)
  c = component-equivalence m f

  -- a and p are in one component, b and q in another
  side-p : same_component m f a p ≡ true
  side-p = c.transitive a (twin a) p (component-twin m f a la) (c.transitive (twin a) (twin p) p (face-component m f (twin a) (twin p) near) (c.symmetric p (twin p) (component-twin m f p lp)))

  -- and the second
  side-q : same_component m f b q ≡ true
  side-q = c.transitive b (twin b) q (component-twin m f b lb) (c.transitive (twin b) (twin q) q (face-component m f (twin b) (twin q) far) (c.symmetric q (twin q) (component-twin m f q lq)))

  -- no dart is on both sides
  sides : (x : ℕ) → same_component m f a x ≡ true → same_component m f b x ≡ true → ⊥
  sides x s t = both_ways (same_component m f a b) apart (c.transitive a x b s (c.symmetric b x t))

  -- the first two vertices merged
  once-map : IsMap m (exchange a b f) (back_after a b g)
  once-map = step-map m f g e a b la lb

  -- p and q are still at different vertices
  once-vertices : same_vertex m (exchange a b f) p q ≡ false
  once-vertices = false_from_ne_true (same_vertex m (exchange a b f) p q) (λ t. elim (join-cases (same_vertex m f) a b p q (sym (exchange-join (2 * m) f g e a b la lb (false_from_ne_true (same_vertex m f a b) (λ u. both_ways (same_component m f a b) apart (vertex-component m f a b u))) p q) ∙ t)) [
    | inl h ↦ sides q (c.transitive a p q side-p (vertex-component m f p q h)) side-q
    | inr r ↦ elim r [
      | inl h ↦ both_ways (same_vertex m f a p) vertices ((orbit-equivalence (2 * m) f).symmetric p a (h.0))
      | inr h ↦ sides p side-p (c.symmetric p b (vertex-component m f p b (h.0)))
    ]
  ])

  -- and their corners now lie in one face
  once-faces : same_face m (exchange a b f) (twin p) (twin q) ≡ true
  once-faces = face-join m f g e a b la lb (false_from_ne_true (same_face m f (twin a) (twin b)) (λ t. both_ways (same_component m f a b) apart (c.transitive a (twin a) b (component-twin m f a la) (c.transitive (twin a) (twin b) b (face-component m f (twin a) (twin b) t) (c.symmetric b (twin b) (component-twin m f b lb)))))) (twin p) (twin q)
      ∙ join-across (same_face m f) (twin a) (twin b) (twin p) (twin q) ((orbit-equivalence (2 * m) (face f)).symmetric (twin a) (twin p) near) far

  -- gluing keeps the defect
  pub glue-corners-defect : SameDefect m f (exchange p q (exchange a b f))
  glue-corners-defect = same-defect-over m f (exchange a b f) (exchange p q (exchange a b f)) (merge-apart-defect m f g e a b la lb apart) (merge-split-defect m (exchange a b f) (back_after a b g) once-map p q lp lq once-vertices once-faces)
