-- One step: what an exchange of what follows two darts does to vertices, faces and components. The four cases.
use Rattle.std.proofs.Common.{◌≡◌, ℕ, ◌+◌, ◌*◌, ◌<◌, ◌≤◌, inl, inr, true, false, sym, ap, ◌∙◌, subst, arith}
use Rattle.std.proofs.lemmas.Bool.{cases_Bool, both_ways, false_from_ne_true}
use Rattle.permutations.specs.Relation.{IsEquivalence, join}
use Rattle.permutations.specs.Permutation.{same_orbit, orbit_count}
use Rattle.permutations.specs.Exchange.{swapped, exchange}
use Rattle.permutations.proofs.Relation.{same-tests, join-old, join-link, join-least, join-trivial, join-equivalence}
use Rattle.permutations.proofs.Classes.{class_count-ext, add-link}
use Rattle.permutations.proofs.Permutations.{exchange-permutes, exchange-cases, exchange-twice}
use Rattle.permutations.proofs.Orbits.{orbit-equivalence}
use Rattle.permutations.proofs.Transpositions.{exchange-join, exchange-joins, exchange-count-join, exchange-count-split}
use Rattle.dart_maps.specs.Map.{twin, face, IsMap, same_vertex, same_face, same_component, vertex_count, face_count, component_count}
use Rattle.dart_maps.proofs.Darts.{twin-below, twin-one, face-permutes, face-exchange}
use Rattle.dart_maps.proofs.Components.{component-equivalence, component-next, component-twin, component-least, vertex-component, face-component}

-- the inverse after an exchange
pub back_after : ℕ → ℕ → (ℕ → ℕ) → ℕ → ℕ
back_after p q g d = swapped p q (g d)

-- an exchange at two darts makes a map
pub step-map : (m : ℕ) (f g : ℕ → ℕ) → IsMap m f g → (p q : ℕ) → p < 2 * m → q < 2 * m → IsMap m (exchange p q f) (back_after p q g)
unfolding back_after
step-map m f g b p q l k = exchange-permutes (2 * m) p q f g l k b

-- vertices: one fewer where p and q leave different vertices
pub vertices-joined : (m : ℕ) (f g : ℕ → ℕ) → IsMap m f g → (p q : ℕ) → p < 2 * m → q < 2 * m → same_vertex m f p q ≡ false → vertex_count m (exchange p q f) + 1 ≡ vertex_count m f
vertices-joined m f g b p q l k h = exchange-count-join (2 * m) f g b p q l k h

-- vertices: one more where p and q are different and leave one vertex
pub vertices-split : (m : ℕ) (f g : ℕ → ℕ) → IsMap m f g → (p q : ℕ) → p < 2 * m → q < 2 * m → (p ≡ q → ⊥) → same_vertex m f p q ≡ true → vertex_count m (exchange p q f) ≡ vertex_count m f + 1
vertices-split m f g b p q l k d h = exchange-count-split (2 * m) f g b p q l k d h

-- faces: one fewer where the twins of p and q lie on different faces
pub faces-joined : (m : ℕ) (f g : ℕ → ℕ) → IsMap m f g → (p q : ℕ) → p < 2 * m → q < 2 * m → same_face m f (twin p) (twin q) ≡ false → face_count m (exchange p q f) + 1 ≡ face_count m f
faces-joined m f g b p q l k h = ap (λ (s : ℕ → ℕ). orbit_count (2 * m) s + 1) (face-exchange p q f) ∙ exchange-count-join (2 * m) (face f) (λ d. twin (g d)) (face-permutes m f g b) (twin p) (twin q) (twin-below m p l) (twin-below m q k) h

-- faces: one more where p and q are different and their twins lie on one face
pub faces-split : (m : ℕ) (f g : ℕ → ℕ) → IsMap m f g → (p q : ℕ) → p < 2 * m → q < 2 * m → (p ≡ q → ⊥) → same_face m f (twin p) (twin q) ≡ true → face_count m (exchange p q f) ≡ face_count m f + 1
faces-split m f g b p q l k d h = ap (λ (s : ℕ → ℕ). orbit_count (2 * m) s) (face-exchange p q f) ∙ exchange-count-split (2 * m) (face f) (λ d. twin (g d)) (face-permutes m f g b) (twin p) (twin q) (twin-below m p l) (twin-below m q k) (λ e. d (twin-one p q e)) h

-- faces that were different are one after the exchange
pub face-joins : (m : ℕ) (f g : ℕ → ℕ) → IsMap m f g → (p q : ℕ) → p < 2 * m → q < 2 * m → same_face m f (twin p) (twin q) ≡ false → same_face m (exchange p q f) (twin p) (twin q) ≡ true
face-joins m f g b p q l k h = ap (λ (s : ℕ → ℕ). same_orbit (2 * m) s (twin p) (twin q)) (face-exchange p q f) ∙ exchange-joins (2 * m) (face f) (λ d. twin (g d)) (face-permutes m f g b) (twin p) (twin q) (twin-below m p l) (twin-below m q k) h

-- and in general: different faces become one, and no others change
pub face-join : (m : ℕ) (f g : ℕ → ℕ) → IsMap m f g → (p q : ℕ) → p < 2 * m → q < 2 * m → same_face m f (twin p) (twin q) ≡ false → (x y : ℕ) → same_face m (exchange p q f) x y ≡ join (same_face m f) (twin p) (twin q) x y
face-join m f g b p q l k h x y = ap (λ (s : ℕ → ℕ). same_orbit (2 * m) s x y) (face-exchange p q f) ∙ exchange-join (2 * m) (face f) (λ d. twin (g d)) (face-permutes m f g b) (twin p) (twin q) (twin-below m p l) (twin-below m q k) h x y

-- the components after an exchange lie within the old ones with those of p and q joined
pub component-within : (m : ℕ) (f g : ℕ → ℕ) → IsMap m f g → (p q : ℕ) → p < 2 * m → q < 2 * m → (x y : ℕ) → same_component m (exchange p q f) x y ≡ true → join (same_component m f) p q x y ≡ true
component-within m f g b p q l k = component-least m (exchange p q f) (join (same_component m f) p q) j
    (λ z i. elim (exchange-cases p q f z) [
      | inl h ↦ rw (h.1, h.0) (j.transitive p q (f q) c (old q (f q) (component-next m f q k)))
      | inr r ↦ elim r [
        | inl h ↦ rw (h.1, h.0) (j.transitive q p (f p) (j.symmetric p q c) (old p (f p) (component-next m f p l)))
        | inr h ↦ rw (h.2) (old z (f z) (component-next m f z i))
      ]
    ])
    (λ z i. old z (twin z) (component-twin m f z i))
  where
    j : IsEquivalence (join (same_component m f) p q)
    j = join-equivalence (same_component m f) p q (component-equivalence m f)

    c : join (same_component m f) p q p q ≡ true
    c = join-link (same_component m f) p q (component-equivalence m f)

    old : (x y : ℕ) → same_component m f x y ≡ true → join (same_component m f) p q x y ≡ true
    old = join-old (same_component m f) p q

-- and the old ones within the new with those of p and q joined
pub component-without : (m : ℕ) (f g : ℕ → ℕ) → IsMap m f g → (p q : ℕ) → p < 2 * m → q < 2 * m → (x y : ℕ) → same_component m f x y ≡ true → join (same_component m (exchange p q f)) p q x y ≡ true
component-without m f g b p q l k x y h = component-within m (exchange p q f) (back_after p q g) (step-map m f g b p q l k) p q l k x y (ap (λ (s : ℕ → ℕ). same_component m s x y) (exchange-twice p q f) ∙ h)

-- where p and q were in one component, the old components are the new with those of p and q joined
pub component-split : (m : ℕ) (f g : ℕ → ℕ) → IsMap m f g → (p q : ℕ) → p < 2 * m → q < 2 * m → same_component m f p q ≡ true → (x y : ℕ) → same_component m f x y ≡ join (same_component m (exchange p q f)) p q x y
component-split m f g b p q l k h x y = same-tests (same_component m f x y) (join (same_component m (exchange p q f)) p q x y)
    (component-without m f g b p q l k x y)
    (join-least (same_component m (exchange p q f)) (same_component m f) p q (component-equivalence m f)
    (λ u v t. sym (join-trivial (same_component m f) p q (component-equivalence m f) h u v) ∙ component-within m f g b p q l k u v t) h x y)

-- where p and q are in one component afterwards, the new components are the old with those of p and q joined
pub component-merge : (m : ℕ) (f g : ℕ → ℕ) → IsMap m f g → (p q : ℕ) → p < 2 * m → q < 2 * m → same_component m (exchange p q f) p q ≡ true → (x y : ℕ) → same_component m (exchange p q f) x y ≡ join (same_component m f) p q x y
component-merge m f g b p q l k h x y = component-split m (exchange p q f) (back_after p q g) (step-map m f g b p q l k) p q l k h x y ∙ ap (λ (s : ℕ → ℕ). join (same_component m s) p q x y) (exchange-twice p q f)

-- where p and q are in one component before and after, no component changes
pub component-stays : (m : ℕ) (f g : ℕ → ℕ) → IsMap m f g → (p q : ℕ) → p < 2 * m → q < 2 * m → same_component m f p q ≡ true → same_component m (exchange p q f) p q ≡ true → (x y : ℕ) → same_component m (exchange p q f) x y ≡ same_component m f x y
component-stays m f g b p q l k h i x y = component-merge m f g b p q l k i x y ∙ join-trivial (same_component m f) p q (component-equivalence m f) h x y

-- then their number stays
pub components-stay : (m : ℕ) (f g : ℕ → ℕ) → IsMap m f g → (p q : ℕ) → p < 2 * m → q < 2 * m → same_component m f p q ≡ true → same_component m (exchange p q f) p q ≡ true → component_count m (exchange p q f) ≡ component_count m f
components-stay m f g b p q l k h i = class_count-ext (2 * m) (same_component m (exchange p q f)) (same_component m f) (λ x y u v. component-stays m f g b p q l k h i x y)

-- where p and q are in one component before and not after, there is one component more
pub components-split : (m : ℕ) (f g : ℕ → ℕ) → IsMap m f g → (p q : ℕ) → p < 2 * m → q < 2 * m → same_component m f p q ≡ true → same_component m (exchange p q f) p q ≡ false → component_count m (exchange p q f) ≡ component_count m f + 1
components-split m f g b p q l k h i = sym (ap (λ (c : ℕ). c + 1) (class_count-ext (2 * m) (same_component m f) (join (same_component m (exchange p q f)) p q) (λ x y u v. component-split m f g b p q l k h x y)) ∙ add-link (2 * m) (same_component m (exchange p q f)) p q (component-equivalence m (exchange p q f)) l k i)

-- where p and q are in one component after and not before, there is one component fewer
pub components-joined : (m : ℕ) (f g : ℕ → ℕ) → IsMap m f g → (p q : ℕ) → p < 2 * m → q < 2 * m → same_component m f p q ≡ false → same_component m (exchange p q f) p q ≡ true → component_count m (exchange p q f) + 1 ≡ component_count m f
components-joined m f g b p q l k h i = ap (λ (c : ℕ). c + 1) (class_count-ext (2 * m) (same_component m (exchange p q f)) (join (same_component m f) p q) (λ x y u v. component-merge m f g b p q l k i x y)) ∙ add-link (2 * m) (same_component m f) p q (component-equivalence m f) l k h

-- darts whose twins are in one component are in one component
pub component-twins : (m : ℕ) (f : ℕ → ℕ) (p q : ℕ) → p < 2 * m → q < 2 * m → same_component m f (twin p) (twin q) ≡ true → same_component m f p q ≡ true
component-twins m f p q l k h = e.transitive p (twin p) q (component-twin m f p l) (e.transitive (twin p) (twin q) q h (e.symmetric q (twin q) (component-twin m f q k)))
  where
    e : IsEquivalence (same_component m f)
    e = component-equivalence m f

-- a vertex is split within two faces, which become one: the defect stays
pub split-merge : (m : ℕ) (f g : ℕ → ℕ) → IsMap m f g → (p q : ℕ) → p < 2 * m → q < 2 * m → (p ≡ q → ⊥) → same_vertex m f p q ≡ true → same_face m f (twin p) (twin q) ≡ false → (vertex_count m (exchange p q f) ≡ vertex_count m f + 1) × (face_count m (exchange p q f) + 1 ≡ face_count m f) × (component_count m (exchange p q f) ≡ component_count m f)
split-merge m f g b p q l k d v w = (
  vertices-split m f g b p q l k d v,
  faces-joined m f g b p q l k w,
  components-stay m f g b p q l k (vertex-component m f p q v) (component-twins m (exchange p q f) p q l k (face-component m (exchange p q f) (twin p) (twin q) (face-joins m f g b p q l k w))),
)

-- two vertices are merged within one face, which falls in two: the defect stays
pub merge-split : (m : ℕ) (f g : ℕ → ℕ) → IsMap m f g → (p q : ℕ) → p < 2 * m → q < 2 * m → same_vertex m f p q ≡ false → same_face m f (twin p) (twin q) ≡ true → (vertex_count m (exchange p q f) + 1 ≡ vertex_count m f) × (face_count m (exchange p q f) ≡ face_count m f + 1) × (component_count m (exchange p q f) ≡ component_count m f)
merge-split m f g b p q l k v w = (
  vertices-joined m f g b p q l k v,
  faces-split m f g b p q l k (λ e. both_ways (same_vertex m f p q) v (subst (λ (z : ℕ). same_vertex m f p z ≡ true) e ((orbit-equivalence (2 * m) f).reflexive p))) w,
  components-stay m f g b p q l k (component-twins m f p q l k (face-component m f (twin p) (twin q) w)) (vertex-component m (exchange p q f) p q (exchange-joins (2 * m) f g b p q l k v)),
)

-- a vertex is split within one face, which falls in two
pub split-split : (m : ℕ) (f g : ℕ → ℕ) → IsMap m f g → (p q : ℕ) → p < 2 * m → q < 2 * m → (p ≡ q → ⊥) → same_vertex m f p q ≡ true → same_face m f (twin p) (twin q) ≡ true → (vertex_count m (exchange p q f) ≡ vertex_count m f + 1) × (face_count m (exchange p q f) ≡ face_count m f + 1)
split-split m f g b p q l k d v w = (vertices-split m f g b p q l k d v, faces-split m f g b p q l k d w)

-- two vertices are merged within two faces, which become one
pub merge-merge : (m : ℕ) (f g : ℕ → ℕ) → IsMap m f g → (p q : ℕ) → p < 2 * m → q < 2 * m → same_vertex m f p q ≡ false → same_face m f (twin p) (twin q) ≡ false → (vertex_count m (exchange p q f) + 1 ≡ vertex_count m f) × (face_count m (exchange p q f) + 1 ≡ face_count m f)
merge-merge m f g b p q l k v w = (vertices-joined m f g b p q l k v, faces-joined m f g b p q l k w)

-- two vertices of different components merged: one component fewer, and the defect stays
pub merge-apart : (m : ℕ) (f g : ℕ → ℕ) → IsMap m f g → (p q : ℕ) → p < 2 * m → q < 2 * m → same_component m f p q ≡ false → (vertex_count m (exchange p q f) + 1 ≡ vertex_count m f) × (face_count m (exchange p q f) + 1 ≡ face_count m f) × (component_count m (exchange p q f) + 1 ≡ component_count m f)
merge-apart m f g b p q l k c = (vertices-joined m f g b p q l k v, faces-joined m f g b p q l k w, components-joined m f g b p q l k c (vertex-component m (exchange p q f) p q (exchange-joins (2 * m) f g b p q l k v)))
  where
    v : same_vertex m f p q ≡ false
    v = false_from_ne_true (same_vertex m f p q) (λ t. both_ways (same_component m f p q) c (vertex-component m f p q t))

    w : same_face m f (twin p) (twin q) ≡ false
    w = false_from_ne_true (same_face m f (twin p) (twin q)) (λ t. both_ways (same_component m f p q) c (component-twins m f p q l k (face-component m f (twin p) (twin q) t)))

-- two vertices of one component merged within two faces: the components stay, and the defect rises by two
pub merge-within : (m : ℕ) (f g : ℕ → ℕ) → IsMap m f g → (p q : ℕ) → p < 2 * m → q < 2 * m → same_component m f p q ≡ true → same_vertex m f p q ≡ false → component_count m (exchange p q f) ≡ component_count m f
merge-within m f g b p q l k c v = components-stay m f g b p q l k c (vertex-component m (exchange p q f) p q (exchange-joins (2 * m) f g b p q l k v))

-- a split never makes fewer components, and at most one more
pub split-components : (m : ℕ) (f g : ℕ → ℕ) → IsMap m f g → (p q : ℕ) → p < 2 * m → q < 2 * m → same_component m f p q ≡ true → (component_count m f ≤ component_count m (exchange p q f)) × (component_count m (exchange p q f) ≤ component_count m f + 1)
split-components m f g b p q l k c = elim (cases_Bool (same_component m (exchange p q f) p q)) [
  | inl t ↦ omega (arith, components-stay m f g b p q l k c t)
  | inr u ↦ omega (arith, components-split m f g b p q l k c u)
]

-- splitting a vertex never raises the defect
pub split-defect : (m : ℕ) (f g : ℕ → ℕ) → IsMap m f g → (p q : ℕ) → p < 2 * m → q < 2 * m → (p ≡ q → ⊥) → same_vertex m f p q ≡ true → vertex_count m f + face_count m f + 2 * component_count m (exchange p q f) ≤ vertex_count m (exchange p q f) + face_count m (exchange p q f) + 2 * component_count m f
split-defect m f g b p q l k d v = elim (cases_Bool (same_face m f (twin p) (twin q))) [
  | inl t ↦ let s = split-split m f g b p q l k d v t in let c = split-components m f g b p q l k (vertex-component m f p q v) in omega (arith, s.0, s.1, c.0, c.1)
  | inr u ↦ let s = split-merge m f g b p q l k d v u in omega (arith, s.0, s.1, s.2)
]
