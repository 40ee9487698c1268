-- Faces, components and planeness of small rotation systems, computed.
use Rattle.std.proofs.Common.{◌≡◌, ℕ, List, [], ◌∷◌, refl, arith}
use Rattle.multigraph.specs.Graph.{Multigraph}
use Rattle.faces.specs.Euler.{face_step, face_count, component_count, IsPlane}
use Rattle.faces.specs.Trace.{face_lists}

-- the complete graph of four vertices, drawn with one vertex inside the triangle of the others
abbrev tetrahedron : Multigraph
tetrahedron = record {
  vertex_count = 4;
  ends = (0, 1) ∷ (0, 2) ∷ (0, 3) ∷ (1, 2) ∷ (1, 3) ∷ (2, 3) ∷ [];
}

abbrev tetrahedron_orders : List (List ℕ)
tetrahedron_orders =
    (0 ∷ 1 ∷ 2 ∷ []) ∷ (0 ∷ 4 ∷ 3 ∷ []) ∷ (1 ∷ 3 ∷ 5 ∷ []) ∷ (2 ∷ 5 ∷ 4 ∷ []) ∷ []

-- the face that leaves 0 by edge 0, then 1 by edge 4 and 3 by edge 2
one_face_0 : face_step tetrahedron tetrahedron_orders 0 ≡ 8
one_face_0 = refl

one_face_8 : face_step tetrahedron tetrahedron_orders 8 ≡ 5
one_face_8 = refl

one_face_5 : face_step tetrahedron tetrahedron_orders 5 ≡ 0
one_face_5 = refl

tetrahedron_faces : face_count tetrahedron tetrahedron_orders ≡ 4
tetrahedron_faces = refl

tetrahedron_components : component_count tetrahedron ≡ 1
tetrahedron_components = refl

tetrahedron_plane : IsPlane tetrahedron tetrahedron_orders
tetrahedron_plane = refl

tetrahedron_lists : face_lists tetrahedron tetrahedron_orders
    ≡ ((0, 0) ∷ (1, 4) ∷ (3, 2) ∷ []) ∷ ((0, 1) ∷ (2, 3) ∷ (1, 0) ∷ []) ∷ ((0, 2) ∷ (3, 5) ∷ (2, 1) ∷ []) ∷ ((1, 3) ∷ (2, 5) ∷ (3, 4) ∷ []) ∷ []
tetrahedron_lists = refl

-- no vertex, no edge
abbrev nothing : Multigraph
nothing = record { vertex_count = 0; ends = [] }

nothing_faces : face_count nothing [] ≡ 0
nothing_faces = refl

nothing_components : component_count nothing ≡ 0
nothing_components = refl

nothing_plane : IsPlane nothing []
nothing_plane = refl

-- two triangles that share a vertex, and a tail and a lone vertex besides
abbrev pub triangles : Multigraph
triangles = record {
  vertex_count = 7;
  ends = (0, 1) ∷ (1, 2) ∷ (0, 2) ∷ (0, 3) ∷ (3, 4) ∷ (0, 4) ∷ (4, 5) ∷ [];
}

abbrev pub triangles_apart : List (List ℕ)
triangles_apart =
    (0 ∷ 2 ∷ 3 ∷ 5 ∷ []) ∷ (0 ∷ 1 ∷ []) ∷ (1 ∷ 2 ∷ []) ∷ (3 ∷ 4 ∷ []) ∷ (4 ∷ 5 ∷ 6 ∷ []) ∷ (6 ∷ []) ∷ [] ∷ []

abbrev triangles_crossed : List (List ℕ)
triangles_crossed =
    (0 ∷ 3 ∷ 2 ∷ 5 ∷ []) ∷ (0 ∷ 1 ∷ []) ∷ (1 ∷ 2 ∷ []) ∷ (3 ∷ 4 ∷ []) ∷ (4 ∷ 5 ∷ 6 ∷ []) ∷ (6 ∷ []) ∷ [] ∷ []

triangles_apart-faces : face_count triangles triangles_apart ≡ 4
triangles_apart-faces = refl

triangles-components : component_count triangles ≡ 2
triangles-components = refl

triangles_apart-plane : IsPlane triangles triangles_apart
triangles_apart-plane = refl

triangles_crossed-faces : face_count triangles triangles_crossed ≡ 2
triangles_crossed-faces = refl

triangles_crossed-not_plane : IsPlane triangles triangles_crossed → ⊥
triangles_crossed-not_plane e = omega arith
