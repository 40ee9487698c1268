-- The plane map of the drawn edges of a graph: which vertices have drawn edges, and which vertices a face passes.
use Rattle.std.proofs.Common.{◌≡◌, ◌≢◌, ℕ, ◌/◌, ◌<◌, inl, inr, Bool, true, false, ◌&&◌, ◌==◌, sym, ap, ◌∙◌, subst}
use Rattle.std.proofs.lemmas.Bool.{cases_Bool, both_ways, false_from_ne_true, and_from, and_parts, eq-eqb, eqb-true}
use Rattle.permutations.specs.Relation.{IsEquivalence}
use Rattle.permutations.specs.Permutation.{Permutes}
use Rattle.permutations.proofs.Search.{some-from, some-witness}
use Rattle.permutations.proofs.Permutations.{permutes-one-to-one}
use Rattle.permutations.proofs.Orbits.{orbit-equivalence, orbit-step}
use Rattle.multigraph.specs.Graph.{Multigraph, edge_count, is_end}
use Rattle.dart_maps.specs.Map.{twin, face, IsMap, same_vertex, same_face, same_component, IsPlane}
use Rattle.dart_maps.proofs.Darts.{twin-below, twin-edge, face-permutes, face-twin}
use Rattle.path_separation.specs.Drawn.{is_on, is_corner, passes}
use Rattle.faces.specs.Euler.{tail, dart_from, dart_count}
use Rattle.faces.proofs.DartLemmas.{dart-edge, tail-end, dart_from-edge, dart_from-below, dart_from-tail}

-- the map `next` of the edges that pass the test `drawn`: their darts are in order around the vertices, and all other darts are
-- alone; the map is plane and connected, and no face passes a vertex twice
pub record IsDrawnMap (g : Multigraph) (drawn : ℕ → Bool) (next previous : ℕ → ℕ) : Type 0 where
  pub permutes : IsMap (edge_count g) next previous
  pub alone : (d : ℕ) → d < dart_count g → drawn (d / 2) ≡ false → next d ≡ d
  pub tails : (d : ℕ) → d < dart_count g → tail g (next d) ≡ tail g d
  pub vertices : (c d : ℕ) → c < dart_count g → d < dart_count g → drawn (c / 2) ≡ true → drawn (d / 2) ≡ true → tail g c ≡ tail g d → same_vertex (edge_count g) next c d ≡ true
  pub plane : IsPlane (edge_count g) next
  pub joined : (c d : ℕ) → c < dart_count g → d < dart_count g → drawn (c / 2) ≡ true → drawn (d / 2) ≡ true → same_component (edge_count g) next c d ≡ true
  pub once : (c d : ℕ) → c < dart_count g → d < dart_count g → drawn (c / 2) ≡ true → drawn (d / 2) ≡ true → c ≢ d → tail g c ≡ tail g d → same_face (edge_count g) next c d ≡ false

-- a corner of vertex v on the face of f
abbrev pub CornerOn : Multigraph → (ℕ → Bool) → (ℕ → ℕ) → ℕ → ℕ → Type 0
CornerOn g drawn next f v = (k : ℕ) × (k < dart_count g) × (drawn (k / 2) ≡ true) × (tail g k ≡ v) × (same_face (edge_count g) next f (twin k) ≡ true)

-- a drawn dart by which the face of f leaves vertex v
abbrev pub LeavesOn : Multigraph → (ℕ → Bool) → (ℕ → ℕ) → ℕ → ℕ → Type 0
LeavesOn g drawn next f v = (d : ℕ) × (d < dart_count g) × (drawn (d / 2) ≡ true) × (tail g d ≡ v) × (same_face (edge_count g) next f d ≡ true)

-- a corner is a witness
pub corner-passes : (g : Multigraph) (drawn : ℕ → Bool) (next : ℕ → ℕ) (f v : ℕ) → CornerOn g drawn next f v → passes g drawn next f v ≡ true
corner-passes g drawn next f v w = some-from (dart_count g) (is_corner g drawn next f v) w.0 w.1
    (and_from (drawn (w.0 / 2)) (tail g w.0 == v && same_face (edge_count g) next f (twin w.0)) w.2
    (and_from (tail g w.0 == v) (same_face (edge_count g) next f (twin w.0)) (eq-eqb (tail g w.0) v w.3) w.4))

pub passes-corner : (g : Multigraph) (drawn : ℕ → Bool) (next : ℕ → ℕ) (f v : ℕ) → passes g drawn next f v ≡ true → CornerOn g drawn next f v
passes-corner g drawn next f v h =
    let w = some-witness (dart_count g) (is_corner g drawn next f v) h in
    let a = and_parts (drawn (w.0 / 2)) (tail g w.0 == v && same_face (edge_count g) next f (twin w.0)) w.2 in
    let b = and_parts (tail g w.0 == v) (same_face (edge_count g) next f (twin w.0)) a.1 in
    (w.0, w.1, a.0, eqb-true (tail g w.0) v b.0, b.1)

-- darts of one face pass the same vertices
pub passes-same : (g : Multigraph) (drawn : ℕ → Bool) (next : ℕ → ℕ) (f h v : ℕ) → same_face (edge_count g) next h f ≡ true → passes g drawn next f v ≡ true → passes g drawn next h v ≡ true
passes-same g drawn next f h v q p =
    let w : CornerOn g drawn next f v = passes-corner g drawn next f v p in
    corner-passes g drawn next h v (w.0, w.1, w.2, w.3, (orbit-equivalence (dart_count g) (face next)).transitive h f (twin w.0) q w.4)

-- a vertex with a drawn dart is on, and a vertex that is on has a drawn dart
pub dart-on : (g : Multigraph) (drawn : ℕ → Bool) (d : ℕ) → d < dart_count g → drawn (d / 2) ≡ true → is_on g drawn (tail g d) ≡ true
dart-on g drawn d l h = some-from (edge_count g) (λ e. drawn e && is_end g (tail g d) e) (d / 2) (dart-edge g d l) (and_from (drawn (d / 2)) (is_end g (tail g d) (d / 2)) h (tail-end g d))

pub on-dart : (g : Multigraph) (drawn : ℕ → Bool) (v : ℕ) → is_on g drawn v ≡ true → (d : ℕ) × (d < dart_count g) × (drawn (d / 2) ≡ true) × (tail g d ≡ v)
on-dart g drawn v h =
    let w = some-witness (edge_count g) (λ e. drawn e && is_end g v e) h in
    let a = and_parts (drawn w.0) (is_end g v w.0) w.2 in
    (dart_from g v w.0, dart_from-below g v w.0 w.1, ap drawn (dart_from-edge g v w.0) ∙ a.0, dart_from-tail g v w.0 a.1)

-- both darts of an edge are drawn, or neither
pub drawn-twin : (drawn : ℕ → Bool) (d : ℕ) → drawn (twin d / 2) ≡ drawn (d / 2)
drawn-twin drawn d = ap drawn (twin-edge d)

module _ (g : Multigraph) (drawn : ℕ → Bool) (next previous : ℕ → ℕ) (s : IsDrawnMap g drawn next previous) where
  faces : IsEquivalence (same_face (edge_count g) next)
  faces = orbit-equivalence (dart_count g) (face next)

  -- the step along a face permutes the darts
  pub step-permutes : Permutes (dart_count g) (face next) (λ d. twin (previous d))
  step-permutes = face-permutes (edge_count g) next previous s.permutes

  -- a drawn dart is followed by a drawn one
  pub next-drawn : (d : ℕ) → d < dart_count g → drawn (d / 2) ≡ true → drawn (next d / 2) ≡ true
  next-drawn d l h = elim (cases_Bool (drawn (next d / 2))) [
    | inl t ↦ t
    | inr u ↦
        let l2 : next d < dart_count g = s.permutes.forth d l in
        let e : next d ≡ d = permutes-one-to-one (dart_count g) next previous s.permutes (next d) d l2 l (s.alone (next d) l2 u) in
        absurd (both_ways (drawn (next d / 2)) u (ap (λ z. drawn (z / 2)) e ∙ h))
  ]

  -- so is the dart before
  pub previous-drawn : (d : ℕ) → d < dart_count g → drawn (d / 2) ≡ true → drawn (previous d / 2) ≡ true
  previous-drawn d l h = elim (cases_Bool (drawn (previous d / 2))) [
    | inl t ↦ t
    | inr u ↦
        let e : d ≡ previous d = sym (s.permutes.forth_back d l) ∙ s.alone (previous d) (s.permutes.back d l) u in
        absurd (both_ways (drawn (previous d / 2)) u (sym (ap (λ z. drawn (z / 2)) e) ∙ h))
  ]

  -- it leaves the same vertex
  pub previous-tail : (d : ℕ) → d < dart_count g → tail g (previous d) ≡ tail g d
  previous-tail d l = sym (s.tails (previous d) (s.permutes.back d l)) ∙ ap (tail g) (s.permutes.forth_back d l)

  -- the face of a corner goes on by the dart that follows
  pub corner-face : (k : ℕ) → k < dart_count g → same_face (edge_count g) next (twin k) (next k) ≡ true
  corner-face k l = subst (λ z. same_face (edge_count g) next (twin k) z ≡ true) (face-twin next k) (orbit-step (dart_count g) (face next) (twin k) (twin-below (edge_count g) k l))

  -- where a face passes a vertex it leaves it by a dart, and the other way round
  pub corner-leaves : (f v : ℕ) → CornerOn g drawn next f v → LeavesOn g drawn next f v
  corner-leaves f v w = (next w.0, s.permutes.forth w.0 w.1, next-drawn w.0 w.1 w.2, s.tails w.0 w.1 ∙ w.3, faces.transitive f (twin w.0) (next w.0) w.4 (corner-face w.0 w.1))

  pub leaves-corner : (f v : ℕ) → LeavesOn g drawn next f v → CornerOn g drawn next f v
  leaves-corner f v w =
      let k : ℕ = previous w.0 in
      let l : k < dart_count g = s.permutes.back w.0 w.1 in (
        k,
        l,
        previous-drawn w.0 w.1 w.2,
        previous-tail w.0 w.1 ∙ w.3,
        faces.transitive f w.0 (twin k) w.4
            (faces.symmetric (twin k) w.0 (subst (λ z. same_face (edge_count g) next (twin k) z ≡ true) (s.permutes.forth_back w.0 w.1) (corner-face k l))),
      )

  -- two corners of one vertex are on different faces
  pub corners-apart : (c d : ℕ) → c < dart_count g → d < dart_count g → drawn (c / 2) ≡ true → drawn (d / 2) ≡ true → c ≢ d → tail g c ≡ tail g d → same_face (edge_count g) next (twin c) (twin d) ≡ false
  corners-apart c d l k h i n q = false_from_ne_true (same_face (edge_count g) next (twin c) (twin d)) (λ t. both_ways (same_face (edge_count g) next (next c) (next d))
      (s.once (next c) (next d) (s.permutes.forth c l) (s.permutes.forth d k) (next-drawn c l h) (next-drawn d k i)
      (λ e. n (permutes-one-to-one (dart_count g) next previous s.permutes c d l k e)) (s.tails c l ∙ q ∙ sym (s.tails d k)))
      (faces.transitive (next c) (twin c) (next d) (faces.symmetric (twin c) (next c) (corner-face c l)) (faces.transitive (twin c) (twin d) (next d) t (corner-face d k))))
