-- The maps of darts of the complete graph on four vertices and of a graph with an isolated vertex, and a mirror image, computed.
use Rattle.std.proofs.Common.{zero, suc, ◌<◌, map, filter, ◌≡◌, ℕ, ◌+◌, List, [], ◌∷◌, refl, ◌∙◌, arith}
use Rattle.permutations.specs.Count.{count}
use Rattle.permutations.proofs.Computed.{permutes-computed, orbit-count-computed}
use Rattle.multigraph.specs.Graph.{Multigraph, ends_of}
use Rattle.rotations.specs.Rotation.{order_at}
use Rattle.dart_maps.specs.Map.{twin, face, IsMap}
use Rattle.dart_maps.specs.Map as maps
use Rattle.dart_maps.proofs.Darts.{face-permutes}
use Rattle.faces.specs.Euler.{is_isolated, face_count}
use Rattle.faces.proofs.Examples.{triangles, triangles_apart}
use Rattle.faces.specs.Subgraph.{IsSubgraph, is_kept}
use Rattle.faces.specs.Maps.{dart_after, dart_before}
use Rattle.rotations.specs.Runs.{mirror_image}

-- edges 0-1, 0-2, 0-3, 1-2, 1-3, 2-3, with one vertex inside the triangle of the others
abbrev four_vertices : Multigraph
four_vertices = record {
  vertex_count = 4;
  ends = (0, 1) ∷ (0, 2) ∷ (0, 3) ∷ (1, 2) ∷ (1, 3) ∷ (2, 3) ∷ [];
}

abbrev orders : List (List ℕ)
orders =
    (0 ∷ 1 ∷ 2 ∷ []) ∷ (0 ∷ 4 ∷ 3 ∷ []) ∷ (1 ∷ 3 ∷ 5 ∷ []) ∷ (2 ∷ 5 ∷ 4 ∷ []) ∷ []

abbrev next : ℕ → ℕ
next = dart_after four_vertices orders

abbrev previous : ℕ → ℕ
previous = dart_before four_vertices orders

-- round vertex 0 stand the darts 0, 2, 4; round vertex 1 the darts 1, 8, 6
round_0 : next 0 ≡ 2
round_0 = refl

round_0_last : next 4 ≡ 0
round_0_last = refl

round_1 : next 1 ≡ 8
round_1 = refl

round_1_last : next 6 ≡ 1
round_1_last = refl

-- the darts are a map
is_map : IsMap 6 next previous
is_map = permutes-computed 12 next previous refl

-- with four vertices and four faces
four : maps.vertex_count 6 next ≡ 4
four = orbit-count-computed 12 next previous is_map ∙ refl

four_faces : maps.face_count 6 next ≡ 4
unfolding twin
four_faces = orbit-count-computed 12 (face next) (λ d. twin (previous d)) (face-permutes 6 next previous is_map) ∙ refl

-- as many faces as the rotation system has: no vertex is isolated
as_many_faces : maps.face_count 6 next + count 4 (is_isolated four_vertices) ≡ face_count four_vertices orders
as_many_faces = omega (arith, four_faces)

-- two triangles that share a vertex, a tail and a lone vertex: the map has one face and one vertex less than the rotation system
abbrev next_apart : ℕ → ℕ
next_apart = dart_after triangles triangles_apart

abbrev previous_apart : ℕ → ℕ
previous_apart = dart_before triangles triangles_apart

is_map_apart : IsMap 7 next_apart previous_apart
is_map_apart = permutes-computed 14 next_apart previous_apart refl

six : maps.vertex_count 7 next_apart ≡ 6
six = orbit-count-computed 14 next_apart previous_apart is_map_apart ∙ refl

three_faces : maps.face_count 7 next_apart ≡ 3
unfolding twin
three_faces = orbit-count-computed 14 (face next_apart) (λ d. twin (previous_apart d)) (face-permutes 7 next_apart previous_apart is_map_apart) ∙ refl

with_the_isolated_vertex : maps.face_count 7 next_apart + count 7 (is_isolated triangles) ≡ face_count triangles triangles_apart
with_the_isolated_vertex = omega (arith, three_faces)

-- the mirror image
mirrored : mirror_image orders ≡ (0 ∷ 2 ∷ 1 ∷ []) ∷ (0 ∷ 3 ∷ 4 ∷ []) ∷ (1 ∷ 5 ∷ 3 ∷ []) ∷ (2 ∷ 4 ∷ 5 ∷ []) ∷ []
mirrored = refl

mirrored_faces : face_count four_vertices (mirror_image orders) ≡ 4
mirrored_faces = refl

-- where each vertex has at most two edges, a rotation system is its own mirror image
abbrev triangle_orders : List (List ℕ)
triangle_orders = (0 ∷ 1 ∷ []) ∷ (0 ∷ 2 ∷ []) ∷ (1 ∷ 2 ∷ []) ∷ []

triangle_mirrored : mirror_image triangle_orders ≡ triangle_orders
triangle_mirrored = refl

-- the triangle of the vertices 1, 2 and 3, with numbers of its own
abbrev triangle : Multigraph
triangle = record { vertex_count = 3; ends = (0, 1) ∷ (0, 2) ∷ (1, 2) ∷ [] }

triangle_within : IsSubgraph triangle four_vertices (λ i. i + 3) (λ v. v + 1)
triangle_within = record {
  edges = λ i l. omega arith;
  edges_once = λ i j l k e. omega arith;
  vertices = λ v l. omega arith;
  vertices_once = λ u v l k e. omega arith;
  first_ends = first;
  second_ends = second;
}
  where
    first : (i : ℕ) → i < 3 → (ends_of four_vertices (i + 3)).0 ≡ (ends_of triangle i).0 + 1
    first zero l = refl
    first (suc zero) l = refl
    first (suc (suc zero)) l = refl
    first (suc (suc (suc i))) l = omega arith

    second : (i : ℕ) → i < 3 → (ends_of four_vertices (i + 3)).1 ≡ (ends_of triangle i).1 + 1
    second zero l = refl
    second (suc zero) l = refl
    second (suc (suc zero)) l = refl
    second (suc (suc (suc i))) l = omega arith

-- round vertex 2 are left the edges 3 and 5, which the triangle has as 0 and 2
left_round_2 : filter (is_kept triangle (λ i. i + 3)) (order_at orders 2) ≡ map (λ i. i + 3) (order_at triangle_orders 1)
left_round_2 = refl
