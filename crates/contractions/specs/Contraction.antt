-- A graph with an edge contracted: its two ends become one vertex, and of two edges that would become parallel one is kept.
use Rattle.std.specs.Prelude.{◌≡◌, ◌≢◌, ℕ, ◌+◌, ◌<◌, ◌⊎◌, Bool, true, not, ◌&&◌, ◌==◌, List, [], ◌∷◌}
use Rattle.permutations.specs.Count.{count, some}
use Rattle.permutations.specs.Members.{is_member}
use Rattle.permutations.specs.Relation.{connected}
use Rattle.multigraph.specs.Graph.{Multigraph, edge_count, ends_of, is_end, other_end}
use Rattle.graph_theory.specs.Triconnected.{ends_without, IsConnectedWithout}

-- whether some edge joins u and v
abbrev pub are_adjacent : Multigraph → ℕ → ℕ → Bool
are_adjacent g u v = some (edge_count g) (λ f. is_end g u f && (other_end g f u == v))

-- whether vertex b is joined with both x and y
abbrev pub is_common_neighbour : Multigraph → ℕ → ℕ → ℕ → Bool
is_common_neighbour g x y b = are_adjacent g x b && are_adjacent g y b

-- how many vertices are joined with both x and y
abbrev pub common_count : Multigraph → ℕ → ℕ → ℕ
common_count g x y = count g.vertex_count (is_common_neighbour g x y)

-- whether edge f is private to the end y of the edge e between x and y: it is at y, is not e, and leads to a vertex that x is
-- not joined with
abbrev pub is_private : Multigraph → ℕ → ℕ → ℕ → ℕ → Bool
is_private g e x y f = is_end g y f && (not (f == e) && not (are_adjacent g x (other_end g f y)))

-- the edge between x and y may be contracted: with any third vertex removed besides them, the others stay connected
-- (Thomassen 1980)
abbrev pub IsContractible : Multigraph → ℕ → ℕ → Type 0
IsContractible g x y = (z : ℕ) → z ≢ x → z ≢ y → IsConnectedWithout g (x ∷ y ∷ z ∷ [])

-- whether the others stay connected when the vertices are removed: IsConnectedWithout as a test
unfoldable pub is_connected_without : Multigraph → List ℕ → Bool
is_connected_without g removed =
    not (some g.vertex_count (λ u. some g.vertex_count (λ v. not (is_member u removed) && (not (is_member v removed) && not (connected (ends_without g removed) u v)))))

-- whether the edge between x and y may be contracted: IsContractible as a test, that tries each vertex as the third
unfoldable pub is_contractible : Multigraph → ℕ → ℕ → Bool
is_contractible g x y = not (some g.vertex_count (λ z. not (z == x) && (not (z == y) && not (is_connected_without g (x ∷ y ∷ z ∷ [])))))

-- an edge that may be contracted, with its ends
pub record ContractibleEdge (g : Multigraph) : Type 0 where
  pub edge : ℕ
  pub first : ℕ
  pub second : ℕ
  pub edge_in : edge < edge_count g
  pub first_end : is_end g first edge ≡ true
  pub second_end : other_end g edge first ≡ second
  pub contractible : IsContractible g first second

-- whether edge f stays when edge e between x and y is contracted: it is not e, and does not join y with a vertex that x is
-- joined with too
abbrev pub is_kept : Multigraph → ℕ → ℕ → ℕ → ℕ → Bool
is_kept g e x y f = not (f == e) && not (is_end g y f && are_adjacent g x (other_end g f y))

-- h is g with the edge e between x and y contracted. Edge i of h is the edge `edge i` of g; vertex v of g becomes the vertex
-- `vertex v` of h; and the two ends of an edge keep their order
pub record IsContraction (g h : Multigraph) (e x y : ℕ) (edge vertex : ℕ → ℕ) : Type 0 where
  pub edge_in : e < edge_count g
  pub first_end : is_end g x e ≡ true
  pub second_end : other_end g e x ≡ y
  pub fewer : h.vertex_count + 1 ≡ g.vertex_count
  pub vertices : (v : ℕ) → v < g.vertex_count → vertex v < h.vertex_count
  pub merged : vertex x ≡ vertex y
  pub vertices_once : (u v : ℕ) → u < g.vertex_count → v < g.vertex_count → vertex u ≡ vertex v → (u ≡ v) ⊎ (((u ≡ x) × (v ≡ y)) ⊎ ((u ≡ y) × (v ≡ x)))
  pub vertices_met : (w : ℕ) → w < h.vertex_count → (v : ℕ) × (v < g.vertex_count) × (v ≢ y) × (vertex v ≡ w)
  pub edges : (i : ℕ) → i < edge_count h → edge i < edge_count g
  pub edges_once : (i j : ℕ) → i < edge_count h → j < edge_count h → edge i ≡ edge j → i ≡ j
  pub edges_kept : (i : ℕ) → i < edge_count h → is_kept g e x y (edge i) ≡ true
  pub edges_met : (f : ℕ) → f < edge_count g → is_kept g e x y f ≡ true → (i : ℕ) × (i < edge_count h) × (edge i ≡ f)
  pub first_ends : (i : ℕ) → i < edge_count h → (ends_of h i).0 ≡ vertex (ends_of g (edge i)).0
  pub second_ends : (i : ℕ) → i < edge_count h → (ends_of h i).1 ≡ vertex (ends_of g (edge i)).1
