-- The map of darts counted: its vertices, components and faces with the isolated vertices are those of the rotation system.
use Rattle.std.proofs.Common.{◌≡◌, ℕ, ◌+◌, ◌*◌, ◌/◌, ◌<◌, ◌≤◌, Bool, true, false, not, ◌==◌, List, length, get_or, inl, inr, refl, sym, ap, ◌∙◌, subst, arith}
use Rattle.std.proofs.lemmas.Bool.{eq-eqb, eqb-true, ne_eqb, cases_eq, false_from_ne_true, both_ways}
use Rattle.std.proofs.lemmas.List.Elements.{at_from_Contains}
use Rattle.permutations.specs.Count.{count}
use Rattle.permutations.specs.Relation.{connected, leads_in, class_count_in}
use Rattle.permutations.specs.Permutation.{reaches, same_orbit}
use Rattle.permutations.proofs.Count.{count-ext, count-split, count-all}
use Rattle.permutations.proofs.Relation.{same-tests, equal-equivalence, connected-equivalence}
use Rattle.permutations.proofs.Leaders.{leads_in-member, leads_in-from}
use Rattle.permutations.proofs.Classes.{class_count-ext, class_count-closed, class_count_in-all, classes-transfer}
use Rattle.permutations.proofs.Orbits.{orbit-count-ext}
use Rattle.permutations.proofs.Iterates.{orbit-reaches}
use Rattle.multigraph.specs.Graph.{Multigraph, IsGraph, edge_count, is_end, incident_edges, other_end}
use Rattle.multigraph.proofs.Incident.{incident-has, incident_at-edge, incident_at-end}
use Rattle.rotations.specs.Rotation.{IsRotationSystem}
use Rattle.dart_maps.specs.Map as maps
use Rattle.dart_maps.proofs.Euler.{euler}
use Rattle.faces.specs.Euler.{tail, dart_from, dart_count, face_step, begins_orbit, is_isolated, face_count, component_count, IsPlane}
use Rattle.faces.specs.Search.{is_neighbour}
use Rattle.faces.specs.Maps.{dart_after, dart_before, IsPlaneMap}
use Rattle.faces.proofs.DartLemmas.{dart-edge, tail-end, dart_from-below, dart_from-tail, face_back, face_step-permutes}
use Rattle.faces.proofs.Neighbours.{neighbour-edge, connected-handed}
use Rattle.faces.proofs.Starts.{starts-lead}
use Rattle.faces.proofs.MapSteps.{tail-in, map-face, map-permutes}
use Rattle.faces.proofs.MapVertices.{map-vertex, map-component}

-- an end of an edge is not isolated
pub end-not_isolated : (g : Multigraph) (v e : ℕ) → e < edge_count g → is_end g v e ≡ true → is_isolated g v ≡ false
end-not_isolated g v e l h =
    let w = at_from_Contains (incident_edges g v) e (incident-has g v e l h) in
    let some_edge : w.0 < length (incident_edges g v) = w.1 in
    ne_eqb (length (incident_edges g v)) 0 (λ z. omega (arith, some_edge, z))

-- a vertex that is not isolated has an edge
pub not_isolated-edge : (g : Multigraph) (v : ℕ) → is_isolated g v ≡ false → (e : ℕ) × (e < edge_count g) × (is_end g v e ≡ true)
not_isolated-edge g v h = elim (cases_eq (length (incident_edges g v)) 0) [
  | inl z ↦ absurd (both_ways (is_isolated g v) h (eq-eqb (length (incident_edges g v)) 0 z))
  | inr n ↦
      let some_edge : 0 < length (incident_edges g v) = omega (arith, n) in
      (get_or (incident_edges g v) 0 0, incident_at-edge g v 0 0 some_edge, incident_at-end g v 0 0 some_edge)
]

-- and a dart
not_isolated-dart : (g : Multigraph) (v : ℕ) → not (is_isolated g v) ≡ true → (d : ℕ) × (d < dart_count g) × (tail g d ≡ v)
not_isolated-dart g v h =
    let w : (e : ℕ) × (e < edge_count g) × (is_end g v e ≡ true) = not_isolated-edge g v (grind (arith, h)) in
    (dart_from g v w.0, dart_from-below g v w.0 w.1, dart_from-tail g v w.0 w.2)

-- the vertex that a dart leaves is not isolated
tail-not_isolated : (g : Multigraph) (d : ℕ) → d < dart_count g → not (is_isolated g (tail g d)) ≡ true
tail-not_isolated g d l = ap not (end-not_isolated g (tail g d) (d / 2) (dart-edge g d l) (tail-end g d))

-- where no member is related to a smaller one, each is a class of its own
pub alone-classes : (n : ℕ) (d : ℕ → Bool) (r : ℕ → ℕ → Bool) → ((x y : ℕ) → y < x → d x ≡ true → r y x ≡ false) → class_count_in n d r ≡ count n d
alone-classes n d r h = count-ext n (leads_in d r) d (λ x l. same-tests (leads_in d r x) (d x) (leads_in-member d r x) (λ t. leads_in-from d r x t (λ y w u. h x y w t)))

-- the vertices that have edges, and those that have none
isolated-or-not : (g : Multigraph) → count g.vertex_count (is_isolated g) + count g.vertex_count (λ v. not (is_isolated g v)) ≡ g.vertex_count
isolated-or-not g = sym (count-split g.vertex_count (λ v. true) (is_isolated g)) ∙ count-all g.vertex_count (λ v. true) (λ v l. refl)

-- the vertices of the map and the isolated vertices are the vertices of the graph
pub map-vertices : (g : Multigraph) (r : List (List ℕ)) → IsGraph g → IsRotationSystem g r → maps.vertex_count (edge_count g) (dart_after g r) + count g.vertex_count (is_isolated g) ≡ g.vertex_count
map-vertices g r ok s = omega (
  arith,
  isolated-or-not g,
  class_count_in-all (dart_count g) (λ d. true) (maps.same_vertex (edge_count g) (dart_after g r)) (λ d l. refl),
  classes-transfer (dart_count g) g.vertex_count (λ d. true) (λ v. not (is_isolated g v)) (maps.same_vertex (edge_count g) (dart_after g r)) (λ u v. u == v) (tail g) equal-equivalence
      (λ d l _. tail-in g d ok l)
      (λ d l _. tail-not_isolated g d l)
      (λ c d l k _ _. map-vertex g r ok s c d l k)
      (λ v l h. let w = not_isolated-dart g v h in (w.0, w.1, refl, eq-eqb (tail g w.0) v w.2)),
  alone-classes g.vertex_count (λ v. not (is_isolated g v)) (λ u v. u == v) (λ u v l _. ne_eqb v u (λ z. omega arith)),
)

-- an isolated vertex is connected with itself alone
isolated-alone : (g : Multigraph) → IsGraph g → (u v : ℕ) → is_isolated g u ≡ true → connected g.ends v u ≡ true → v ≡ u
isolated-alone g ok u v i t = eqb-true v u (connected-handed g (λ w. w == u) ok hands v u t ∙ eq-eqb u u refl)
  where
    hands : (w x : ℕ) → (w == u) ≡ true → is_neighbour g w x ≡ true → (x == u) ≡ true
    hands w x a n =
        let e : (e : ℕ) × (e < edge_count g) × (is_end g w e ≡ true) × (other_end g e w ≡ x) = neighbour-edge g w x n in
        absurd (both_ways (is_isolated g u) (subst (λ z. is_isolated g z ≡ false) (eqb-true w u a) (end-not_isolated g w e.0 e.1 e.2)) i)

-- connected vertices are isolated together
connected-isolated : (g : Multigraph) → IsGraph g → (u v : ℕ) → connected g.ends u v ≡ true → is_isolated g u ≡ is_isolated g v
connected-isolated g ok = connected-handed g (is_isolated g) ok (λ w x i n.
    let e : (e : ℕ) × (e < edge_count g) × (is_end g w e ≡ true) × (other_end g e w ≡ x) = neighbour-edge g w x n in
    absurd (both_ways (is_isolated g w) (end-not_isolated g w e.0 e.1 e.2) i))

-- the components of the map and the isolated vertices are the components of the graph
pub map-components : (g : Multigraph) (r : List (List ℕ)) → IsGraph g → IsRotationSystem g r → maps.component_count (edge_count g) (dart_after g r) + count g.vertex_count (is_isolated g) ≡ component_count g
map-components g r ok s = omega (
  arith,
  class_count-closed g.vertex_count (is_isolated g) (connected g.ends) (connected-isolated g ok),
  alone-classes g.vertex_count (is_isolated g) (connected g.ends) (λ u v l i. false_from_ne_true (connected g.ends v u) (λ t. let e : v ≡ u = isolated-alone g ok u v i t in omega arith)),
  class_count_in-all (dart_count g) (λ d. true) (maps.same_component (edge_count g) (dart_after g r)) (λ d l. refl),
  classes-transfer (dart_count g) g.vertex_count (λ d. true) (λ v. not (is_isolated g v)) (maps.same_component (edge_count g) (dart_after g r)) (connected g.ends) (tail g) (connected-equivalence g.ends)
      (λ d l _. tail-in g d ok l)
      (λ d l _. tail-not_isolated g d l)
      (λ c d l k _ _. map-component g r ok s c d l k)
      (λ v l h. let w = not_isolated-dart g v h in (w.0, w.1, refl, subst (λ z. connected g.ends (tail g w.0) z ≡ true) w.2 ((connected-equivalence g.ends).reflexive (tail g w.0)))),
)

-- the faces of the map are the faces that have darts
map-face_orbits : (g : Multigraph) (r : List (List ℕ)) → IsGraph g → IsRotationSystem g r → maps.face_count (edge_count g) (dart_after g r) ≡ count (dart_count g) (begins_orbit (dart_count g) (face_step g r))
map-face_orbits g r ok s =
    orbit-count-ext (dart_count g) (maps.face (dart_after g r)) (face_step g r) (λ d l. map-face g r d ok l)
    ∙ class_count-ext (dart_count g) (same_orbit (dart_count g) (face_step g r)) (reaches (dart_count g) (face_step g r)) (λ c d l k. orbit-reaches (dart_count g) (face_step g r) (face_back g r) (face_step-permutes g r ok s) c d l)
    ∙ starts-lead (dart_count g) (face_step g r) (face_back g r, face_step-permutes g r ok s)

-- the faces of the map and the isolated vertices are the faces of the rotation system
pub map-faces : (g : Multigraph) (r : List (List ℕ)) → IsGraph g → IsRotationSystem g r → maps.face_count (edge_count g) (dart_after g r) + count g.vertex_count (is_isolated g) ≡ face_count g r
map-faces g r ok s = ap (λ k. k + count g.vertex_count (is_isolated g)) (map-face_orbits g r ok s)

-- Euler's inequality
pub euler-inequality : (g : Multigraph) (r : List (List ℕ)) → IsGraph g → IsRotationSystem g r → g.vertex_count + face_count g r ≤ edge_count g + 2 * component_count g
euler-inequality g r ok s = omega (arith, map-vertices g r ok s, map-components g r ok s, map-faces g r ok s, euler (edge_count g) (dart_after g r) (dart_before g r) (map-permutes g r ok s))

-- a plane rotation system has a plane map of darts
pub plane-map : (g : Multigraph) (r : List (List ℕ)) → IsGraph g → IsRotationSystem g r → IsPlane g r → IsPlaneMap g r
plane-map g r ok s p = omega (arith, p, map-vertices g r ok s, map-components g r ok s, map-faces g r ok s)

-- and a rotation system with a plane map is plane
pub map-plane : (g : Multigraph) (r : List (List ℕ)) → IsGraph g → IsRotationSystem g r → IsPlaneMap g r → IsPlane g r
map-plane g r ok s p = omega (arith, p, map-vertices g r ok s, map-components g r ok s, map-faces g r ok s)
