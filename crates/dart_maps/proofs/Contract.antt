-- Contracting an edge that joins two vertices: the defect stays.
use Rattle.std.proofs.Common.{◌≡◌, ℕ, ◌*◌, ◌<◌, inl, inr, true, false, refl, sym, ap, ◌∙◌, subst, eq-eqb}
use Rattle.std.proofs.lemmas.Bool.{cases_eq, both_ways, false_from_ne_true, ne_eqb}
use Rattle.permutations.specs.Relation.{join}
use Rattle.permutations.specs.Exchange.{exchange}
use Rattle.permutations.proofs.Permutations.{permutes-back, permutes-one-to-one, permutes-ext, exchange-left, exchange-right, exchange-other}
use Rattle.permutations.proofs.Orbits.{orbit-equivalence, orbit-step, orbit-ext}
use Rattle.permutations.proofs.Transpositions.{exchange-join}
use Rattle.dart_maps.specs.Map.{twin, face, IsMap, same_vertex, same_face, IsPlane, SameDefect}
use Rattle.dart_maps.proofs.Darts.{twin-twin, twin-other, twin-below, face-permutes, face-twin}
use Rattle.permutations.specs.Exchange.{unlink}
use Rattle.permutations.proofs.Unlinking.{unlink-alone, unlink-before, unlink-other, unlink-permutes, unlink-orbit, before-orbit, alone-orbit}
use Rattle.dart_maps.specs.Changes.{dropped, contracted, follows}
use Rattle.dart_maps.proofs.Steps.{back_after, step-map}
use Rattle.dart_maps.proofs.Plane.{same-defect-over, same-defect-ext, same-defect-plane, same-defect-back, merge-split-defect}
use Rattle.dart_maps.proofs.Drop.{drop-defect, dropped-map}

-- the contracted edge's own darts are alone
pub contracted-here : (d : ℕ) (f : ℕ → ℕ) → contracted d f d ≡ d
unfolding contracted
contracted-here d f = rw (eq-eqb d d refl) refl

-- and its twin
pub contracted-twin : (d : ℕ) (f : ℕ → ℕ) → contracted d f (twin d) ≡ twin d
unfolding contracted
contracted-twin d f = rw (ne_eqb (twin d) d (twin-other d), eq-eqb (twin d) (twin d) refl) refl

-- the dart before d is followed by what followed the twin of d
pub contracted-before : (d : ℕ) (f : ℕ → ℕ) (x : ℕ) → (x ≡ d → ⊥) → (x ≡ twin d → ⊥) → f x ≡ d → contracted d f x ≡ follows (twin d) d f
unfolding contracted
contracted-before d f x a c e = rw (ne_eqb x d a, ne_eqb x (twin d) c, eq-eqb (f x) d e) refl

-- the dart before the twin of d is followed by what followed d
pub contracted-before-twin : (d : ℕ) (f : ℕ → ℕ) (x : ℕ) → (x ≡ d → ⊥) → (x ≡ twin d → ⊥) → f x ≡ twin d → contracted d f x ≡ follows d (twin d) f
unfolding contracted
contracted-before-twin d f x a c e = rw (ne_eqb x d a, ne_eqb x (twin d) c, ne_eqb (f x) d (λ i. twin-other d (sym e ∙ i)), eq-eqb (f x) (twin d) e) refl

-- all other darts are followed as before
pub contracted-other : (d : ℕ) (f : ℕ → ℕ) (x : ℕ) → (x ≡ d → ⊥) → (x ≡ twin d → ⊥) → (f x ≡ d → ⊥) → (f x ≡ twin d → ⊥) → contracted d f x ≡ f x
unfolding contracted
contracted-other d f x a c i j = rw (ne_eqb x d a, ne_eqb x (twin d) c, ne_eqb (f x) d i, ne_eqb (f x) (twin d) j) refl

-- what follows c where it is not alone
pub follows-own : (c d : ℕ) (f : ℕ → ℕ) → (f c ≡ c → ⊥) → follows c d f ≡ f c
follows-own c d f a = rw (ne_eqb (f c) c a) refl

-- and what follows d where c is alone
pub follows-other : (c d : ℕ) (f : ℕ → ℕ) → f c ≡ c → follows c d f ≡ f d
follows-other c d f e = rw (eq-eqb (f c) c e) refl

-- a map and an edge that joins two vertices
module _ (m : ℕ) (f g : ℕ → ℕ) (b : IsMap m f g) (d : ℕ) (l : d < 2 * m) (v : same_vertex m f d (twin d) ≡ false) where
  -- the two vertices merged: the darts behind d's twin come behind those behind d
  merged-map : IsMap m (exchange (g d) (twin d) f) (back_after (g d) (twin d) g)
  merged-map = step-map m f g b (g d) (twin d) (b.back d l) (twin-below m d l)

  -- the dart before d is at d's vertex
  before : same_vertex m f (g d) d ≡ true
  before = before-orbit (2 * m) d f g b l

  -- so it is not at the other
  apart : same_vertex m f (g d) (twin d) ≡ false
  apart = false_from_ne_true (same_vertex m f (g d) (twin d)) (λ t. let e = orbit-equivalence (2 * m) f in both_ways (same_vertex m f d (twin d)) v (e.transitive d (g d) (twin d) (e.symmetric (g d) d before) t))

  -- merging the two vertices keeps the defect
  merged-defect : SameDefect m f (exchange (g d) (twin d) f)
  merged-defect = merge-split-defect m f g b (g d) (twin d) (b.back d l) (twin-below m d l) apart
      (subst (λ (z : ℕ). same_face m f (twin (g d)) z ≡ true) (face-twin f (g d) ∙ b.forth_back d l ∙ sym (twin-twin d)) (orbit-step (2 * m) (face f) (twin (g d)) (twin-below m (g d) (b.back d l))))

  -- then d is alone on its face
  face-here : face (exchange (g d) (twin d) f) d ≡ d
  face-here = exchange-right (g d) (twin d) f ∙ b.forth_back d l

  -- so the twin is on another
  faces : same_face m (exchange (g d) (twin d) f) d (twin d) ≡ false
  faces = false_from_ne_true (same_face m (exchange (g d) (twin d) f) d (twin d)) (λ t. twin-other d (sym (alone-orbit (2 * m) d (face (exchange (g d) (twin d) f)) (λ z. twin (back_after (g d) (twin d) g z)) (face-permutes m (exchange (g d) (twin d) f) (back_after (g d) (twin d) g) merged-map) l face-here (twin d) t)))

  -- merging and dropping keeps the defect
  dropped-defect : SameDefect m f (dropped d (exchange (g d) (twin d) f))
  dropped-defect = same-defect-over m f (exchange (g d) (twin d) f) (dropped d (exchange (g d) (twin d) f)) merged-defect (drop-defect m (exchange (g d) (twin d) f) (back_after (g d) (twin d) g) merged-map d l faces)

  -- what follows d in the merged map
  merged-here : exchange (g d) (twin d) f d ≡ follows d (twin d) f
  merged-here = elim (cases_eq (f d) d) [
    | inl e ↦ let i : d ≡ g d = sym (permutes-back (2 * m) f g b d d l e) in ap (exchange (g d) (twin d) f) i ∙ exchange-left (g d) (twin d) f ∙ sym (follows-other d (twin d) f e)
    | inr a ↦ exchange-other (g d) (twin d) f d (λ i. a (ap f i ∙ b.forth_back d l)) (λ i. twin-other d (sym i)) ∙ sym (follows-own d (twin d) f a)
  ]

  -- the merged map with d taken out, at the twin
  taken-twin : unlink d (exchange (g d) (twin d) f) (twin d) ≡ follows d (twin d) f
  taken-twin = unlink-before d (exchange (g d) (twin d) f) (twin d) (twin-other d) (exchange-right (g d) (twin d) f ∙ b.forth_back d l) ∙ merged-here

  -- and at any other dart
  taken-other : (x : ℕ) → x < 2 * m → (x ≡ d → ⊥) → (x ≡ twin d → ⊥) → unlink d (exchange (g d) (twin d) f) x ≡ exchange (g d) (twin d) f x
  taken-other x k a c = unlink-other d (exchange (g d) (twin d) f) x a (λ e. c (permutes-one-to-one (2 * m) (exchange (g d) (twin d) f) (back_after (g d) (twin d) g) merged-map x (twin d) k (twin-below m d l) (e ∙ sym (exchange-right (g d) (twin d) f ∙ b.forth_back d l))))

  -- dropping the edge after merging is contracting it
  pub contracted-dropped : (x : ℕ) → x < 2 * m → dropped d (exchange (g d) (twin d) f) x ≡ contracted d f x
  contracted-dropped x k = elim (cases_eq x (twin d)) [
    | inl e ↦ ap (dropped d s) e ∙ unlink-alone (twin d) (unlink d s) ∙ sym (ap (contracted d f) e ∙ contracted-twin d f)
    | inr c ↦ elim (cases_eq x d) [
      | inl e ↦ ap (dropped d s) e ∙ unlink-other (twin d) (unlink d s) d (λ i. twin-other d (sym i)) (λ i. twin-other d (sym i ∙ unlink-alone d s)) ∙ unlink-alone d s ∙ sym (ap (contracted d f) e ∙ contracted-here d f)
      | inr a ↦ elim (cases_eq (f x) d) [
        | inl e ↦ let here : unlink d s x ≡ f (twin d) = taken-other x k a c ∙ ap s (sym (permutes-back (2 * m) f g b x d k e)) ∙ exchange-left (g d) (twin d) f in
            elim (cases_eq (f (twin d)) (twin d)) [
              | inl i ↦ unlink-before (twin d) (unlink d s) x c (here ∙ i) ∙ taken-twin ∙ follows-own d (twin d) f (λ j. a (permutes-one-to-one (2 * m) f g b x d k l (e ∙ sym j))) ∙ sym (contracted-before d f x a c e ∙ follows-other (twin d) d f i)
              | inr i ↦ unlink-other (twin d) (unlink d s) x c (λ j. i (sym here ∙ j)) ∙ here ∙ sym (contracted-before d f x a c e ∙ follows-own (twin d) d f i)
            ]
        | inr i ↦ let here : unlink d s x ≡ f x = taken-other x k a c ∙ exchange-other (g d) (twin d) f x (λ j. i (ap f j ∙ b.forth_back d l)) c in
            elim (cases_eq (f x) (twin d)) [
              | inl e ↦ unlink-before (twin d) (unlink d s) x c (here ∙ e) ∙ taken-twin ∙ sym (contracted-before-twin d f x a c e)
              | inr j ↦ unlink-other (twin d) (unlink d s) x c (λ o. j (sym here ∙ o)) ∙ here ∙ sym (contracted-other d f x a c i j)
            ]
      ]
    ]
  ]
    where
      s : ℕ → ℕ
      s = exchange (g d) (twin d) f

  -- contracting an edge that joins two vertices keeps the defect
  pub contract-defect : SameDefect m f (contracted d f)
  contract-defect = same-defect-over m f (dropped d (exchange (g d) (twin d) f)) (contracted d f) dropped-defect (same-defect-ext m (dropped d (exchange (g d) (twin d) f)) (contracted d f) contracted-dropped)

  -- the contracted map is plane where the map is
  pub contract-plane : IsPlane m f → IsPlane m (contracted d f)
  contract-plane p = same-defect-plane m f (contracted d f) contract-defect p

  -- and the map where the contracted one is
  pub contract-plane-back : IsPlane m (contracted d f) → IsPlane m f
  contract-plane-back p = same-defect-plane m (contracted d f) f (same-defect-back m f (contracted d f) contract-defect) p

  -- the contracted map is a map
  pub contracted-map : IsMap m (contracted d f) (dropped d (back_after (g d) (twin d) g))
  contracted-map = permutes-ext (2 * m) (dropped d (exchange (g d) (twin d) f)) (dropped d (back_after (g d) (twin d) g)) (contracted d f) (dropped d (back_after (g d) (twin d) g)) (dropped-map m (exchange (g d) (twin d) f) (back_after (g d) (twin d) g) merged-map d l) (λ x k. sym (contracted-dropped x k)) (λ x k. refl)

  -- the vertices of the contracted map: those of d and its twin have become one
  pub contracted-vertex : (x y : ℕ) → (x ≡ d → ⊥) → (x ≡ twin d → ⊥) → (y ≡ d → ⊥) → (y ≡ twin d → ⊥) → same_vertex m (contracted d f) x y ≡ join (same_vertex m f) (g d) (twin d) x y
  contracted-vertex x y a c i j = sym (orbit-ext (2 * m) (dropped d s) (contracted d f) contracted-dropped x y)
      ∙ unlink-orbit (2 * m) (twin d) (unlink d s) (unlink d (back_after (g d) (twin d) g)) (unlink-permutes (2 * m) d s (back_after (g d) (twin d) g) merged-map l) (twin-below m d l) x y c j
      ∙ unlink-orbit (2 * m) d s (back_after (g d) (twin d) g) merged-map l x y a i
      ∙ exchange-join (2 * m) f g b (g d) (twin d) (b.back d l) (twin-below m d l) apart x y
    where
      s : ℕ → ℕ
      s = exchange (g d) (twin d) f
