-- Inserting an edge between two corners.
use Rattle.std.proofs.Common.{◌≡◌, ℕ, ◌+◌, ◌*◌, ◌<◌, inl, inr, true, false, sym, ap, ◌∙◌, subst, arith}
use Rattle.std.proofs.lemmas.Bool.{both_ways, false_from_ne_true}
use Rattle.permutations.specs.Relation.{IsEquivalence}
use Rattle.permutations.specs.Permutation.{same_orbit}
use Rattle.permutations.specs.Exchange.{exchange}
use Rattle.permutations.proofs.Relation.{join-cases, join-old}
use Rattle.permutations.proofs.Permutations.{exchange-left, exchange-other}
use Rattle.permutations.proofs.Orbits.{orbit-equivalence, orbit-step}
use Rattle.permutations.proofs.Transpositions.{exchange-joins, exchange-splits}
use Rattle.dart_maps.specs.Map.{twin, face, IsMap, same_vertex, same_face, same_component, vertex_count, face_count, component_count, SameDefect}
use Rattle.dart_maps.proofs.Darts.{twin-twin, twin-other, twin-below, face-permutes, face-exchange, face-twin}
use Rattle.dart_maps.proofs.Components.{component-equivalence, component-twin, vertex-component, face-component}
use Rattle.permutations.proofs.Unlinking.{alone-orbit}
use Rattle.dart_maps.specs.Changes.{inserted}
use Rattle.dart_maps.proofs.Steps.{back_after, step-map, face-join, component-merge}
use Rattle.dart_maps.proofs.Plane.{same-defect-over, merge-split-defect, merge-apart-defect, merge-within-defect}
use Rattle.dart_maps.proofs.Drop.{dead-edge-apart}

-- a map, an edge both darts of which are alone, and two darts of other edges
module _ (m : ℕ) (f g : ℕ → ℕ) (b : IsMap m f g) (d : ℕ) (l : d < 2 * m) (alone : f d ≡ d) (twin-alone : f (twin d) ≡ twin d) (p q : ℕ) (k : p < 2 * m) (i : q < 2 * m) (pd : p ≡ d → ⊥) (pt : p ≡ twin d → ⊥) (qd : q ≡ d → ⊥) (qt : q ≡ twin d → ⊥) where
  -- the edge's first dart put behind p
  pub first-map : IsMap m (exchange p d f) (back_after p d g)
  first-map = step-map m f g b p d k l

  -- p and d are in different components
  apart : same_component m f p d ≡ false
  apart = dead-edge-apart m f g b d l alone twin-alone p pd pt

  -- putting the first dart in keeps the defect
  pub first-defect : SameDefect m f (exchange p d f)
  first-defect = merge-apart-defect m f g b p d k l apart

  -- the twin is still alone
  pub still-alone : exchange p d f (twin d) ≡ twin d
  still-alone = exchange-other p d f (twin d) (λ e. pt (sym e)) (λ e. twin-other d e) ∙ twin-alone

  -- so q is at another vertex
  vertices-apart : same_vertex m (exchange p d f) q (twin d) ≡ false
  vertices-apart = false_from_ne_true (same_vertex m (exchange p d f) q (twin d)) (λ t. qt (sym (alone-orbit (2 * m) (twin d) (exchange p d f) (back_after p d g) first-map (twin-below m d l) still-alone q ((orbit-equivalence (2 * m) (exchange p d f)).symmetric q (twin d) t))))

  -- the faces of the twins of p and d were different
  pub faces-apart : same_face m f (twin p) (twin d) ≡ false
  faces-apart = false_from_ne_true (same_face m f (twin p) (twin d)) (λ t. both_ways (same_component m f p d) apart (
      let c = component-equivalence m f in c.transitive p (twin p) d (component-twin m f p k) (c.transitive (twin p) (twin d) d (face-component m f (twin p) (twin d) t) (c.symmetric d (twin d) (component-twin m f d l)))))

  -- now the face of p's corner passes d
  pub passes : same_face m (exchange p d f) (twin p) d ≡ true
  passes = subst (λ (z : ℕ). same_face m (exchange p d f) (twin p) z ≡ true) (face-twin (exchange p d f) p ∙ exchange-left p d f ∙ alone) (orbit-step (2 * m) (face (exchange p d f)) (twin p) (twin-below m p k))

  -- faces of the old map lie within those of the new
  pub old-faces : (x y : ℕ) → same_face m f x y ≡ true → same_face m (exchange p d f) x y ≡ true
  old-faces x y t = face-join m f g b p d k l faces-apart x y ∙ join-old (same_face m f) (twin p) (twin d) x y t

  -- a new edge between two corners of one face keeps the defect
  pub insert-defect : same_face m f (twin p) (twin q) ≡ true → SameDefect m f (inserted d p q f)
  insert-defect w = same-defect-over m f (exchange p d f) (inserted d p q f) first-defect
      (merge-split-defect m (exchange p d f) (back_after p d g) first-map q (twin d) i (twin-below m d l) vertices-apart
      (subst (λ (z : ℕ). same_face m (exchange p d f) (twin q) z ≡ true) (sym (twin-twin d))
      (let e = orbit-equivalence (2 * m) (face (exchange p d f)) in e.transitive (twin q) (twin p) d (e.symmetric (twin p) (twin q) (old-faces (twin p) (twin q) w)) passes)))

  -- the corners of different faces: in the map with the first dart put in they are still apart
  pub still-apart : same_face m f (twin p) (twin q) ≡ false → same_face m (exchange p d f) (twin q) (twin (twin d)) ≡ false
  still-apart w = false_from_ne_true (same_face m (exchange p d f) (twin q) (twin (twin d))) (λ t. elim (join-cases (same_face m f) (twin p) (twin d) (twin q) d (sym (face-join m f g b p d k l faces-apart (twin q) d) ∙ subst (λ (z : ℕ). same_face m (exchange p d f) (twin q) z ≡ true) (twin-twin d) t)) [
    | inl h ↦ both_ways (same_component m f q d) other (c.transitive q (twin q) d (component-twin m f q i) (face-component m f (twin q) d h))
    | inr r ↦ elim r [
      | inl h ↦ both_ways (same_face m f (twin p) (twin q)) w ((orbit-equivalence (2 * m) (face f)).symmetric (twin q) (twin p) (h.0))
      | inr h ↦ both_ways (same_component m f q d) other (c.transitive q (twin q) d (component-twin m f q i) (c.transitive (twin q) (twin d) d (face-component m f (twin q) (twin d) (h.0)) (c.symmetric d (twin d) (component-twin m f d l))))
    ]
  ])
    where
      c : IsEquivalence (same_component m f)
      c = component-equivalence m f

      other : same_component m f q d ≡ false
      other = dead-edge-apart m f g b d l alone twin-alone q qd qt

  -- corners of one component are still connected when the first dart is put in
  pub still-together : same_component m f p q ≡ true → same_component m (exchange p d f) q (twin d) ≡ true
  still-together h = c.transitive q p (twin d) (component-merge m f g b p d k l link q p ∙ join-old (same_component m f) p d q p ((component-equivalence m f).symmetric p q h)) (c.transitive p d (twin d) link (component-twin m (exchange p d f) d l))
    where
      c : IsEquivalence (same_component m (exchange p d f))
      c = component-equivalence m (exchange p d f)

      link : same_component m (exchange p d f) p d ≡ true
      link = vertex-component m (exchange p d f) p d (exchange-joins (2 * m) f g b p d k l (false_from_ne_true (same_vertex m f p d) (λ t. both_ways (same_component m f p d) apart (vertex-component m f p d t))))

  -- a new edge between corners of different faces of one component raises the defect by two
  pub insert-across : same_component m f p q ≡ true → same_face m f (twin p) (twin q) ≡ false → vertex_count m f + face_count m f + 2 * component_count m (inserted d p q f) ≡ vertex_count m (inserted d p q f) + face_count m (inserted d p q f) + 2 * component_count m f + 2
  insert-across h w = let s = merge-within-defect m (exchange p d f) (back_after p d g) first-map q (twin d) i (twin-below m d l) (still-together h) vertices-apart (still-apart w) in omega (arith, s, first-defect)

  -- the new edge's two darts lie on different faces: the face has fallen in two
  pub insert-parts : same_face m f (twin p) (twin q) ≡ true → same_face m (inserted d p q f) d (twin d) ≡ false
  insert-parts w = false_from_ne_true (same_face m (inserted d p q f) d (twin d)) (λ t. both_ways (same_face m (inserted d p q f) (twin q) d) parted (e.transitive (twin q) (twin d) d on (e.symmetric d (twin d) t)))
    where
      e : IsEquivalence (same_face m (inserted d p q f))
      e = orbit-equivalence (2 * m) (face (inserted d p q f))

      on : same_face m (inserted d p q f) (twin q) (twin d) ≡ true
      on = subst (λ (z : ℕ). same_face m (inserted d p q f) (twin q) z ≡ true) (face-twin (inserted d p q f) q ∙ exchange-left q (twin d) (exchange p d f) ∙ still-alone) (orbit-step (2 * m) (face (inserted d p q f)) (twin q) (twin-below m q i))

      one : same_face m (exchange p d f) (twin q) d ≡ true
      one = (orbit-equivalence (2 * m) (face (exchange p d f))).transitive (twin q) (twin p) d ((orbit-equivalence (2 * m) (face (exchange p d f))).symmetric (twin p) (twin q) (old-faces (twin p) (twin q) w)) passes

      split : same_orbit (2 * m) (exchange (twin q) d (face (exchange p d f))) (twin q) d ≡ false
      split = exchange-splits (2 * m) (face (exchange p d f)) (λ z. twin (back_after p d g z)) (face-permutes m (exchange p d f) (back_after p d g) first-map) (twin q) d (twin-below m q i) l (λ s. qt (sym (twin-twin q) ∙ ap twin s)) one

      parted : same_face m (inserted d p q f) (twin q) d ≡ false
      parted = ap (λ (s : ℕ → ℕ). same_orbit (2 * m) s (twin q) d) (face-exchange q (twin d) (exchange p d f) ∙ ap (λ (z : ℕ). exchange (twin q) z (face (exchange p d f))) (twin-twin d)) ∙ split

  -- it is a map
  pub inserted-map : IsMap m (inserted d p q f) (back_after q (twin d) (back_after p d g))
  inserted-map = step-map m (exchange p d f) (back_after p d g) first-map q (twin d) i (twin-below m d l)
