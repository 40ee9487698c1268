-- What is left of a multigraph when vertices are removed, and triconnected graphs (Tutte 1966; Hopcroft and Tarjan 1973).
use Rattle.std.specs.Prelude.{◌≡◌, ℕ, ◌<◌, ◌≤◌, ◌⊎◌, Bool, true, false, not, ◌&&◌, List, [], ◌∷◌, length, filter, slice_index_or, All}
use Rattle.permutations.specs.Members.{is_member, is_distinct}
use Rattle.permutations.specs.Relation.{connected}
use Rattle.multigraph.specs.Graph.{Multigraph, ends_of}

-- whether an edge with these two ends has none of the vertices as an end
abbrev pub avoids : List ℕ → ℕ × ℕ → Bool
avoids removed link = not (is_member link.0 removed) && not (is_member link.1 removed)

-- the ends of those edges that have none of the vertices as an end
abbrev pub ends_without : Multigraph → List ℕ → List (ℕ × ℕ)
ends_without g removed = filter (avoids removed) g.ends

-- when some numbers are removed, the others stay connected: any two vertices that are left are connected by links that avoid
-- what is removed
abbrev pub AreConnectedWithout : (ℕ → Type 0) → List (ℕ × ℕ) → List ℕ → Type 0
AreConnectedWithout IsVertex links removed =
    (u v : ℕ) → IsVertex u → IsVertex v → is_member u removed ≡ false → is_member v removed ≡ false
    → connected (filter (avoids removed) links) u v ≡ true

-- the same two ends, in this order or the other
abbrev pub SameEnds : ℕ × ℕ → ℕ × ℕ → Type 0
SameEnds p q = ((p.0 ≡ q.0) × (p.1 ≡ q.1)) ⊎ ((p.0 ≡ q.1) × (p.1 ≡ q.0))

-- no two of the links have the same two ends
abbrev pub AreSimple : List (ℕ × ℕ) → Type 0
AreSimple links =
    (i j : ℕ) → i < length links → j < length links → SameEnds (slice_index_or links i (0, 0)) (slice_index_or links j (0, 0)) → i ≡ j

-- there are at least n vertices: these
pub record HasAtLeast (n : ℕ) (IsVertex : ℕ → Type 0) : Type 0 where
  pub vertices : List ℕ
  pub enough : n ≤ length vertices
  pub distinct : is_distinct vertices ≡ true
  pub are_vertices : All IsVertex vertices

-- these vertices and links are triconnected: no two links have the same ends, there are at least four vertices, and they stay
-- connected when any two or fewer numbers are removed. The two numbers may be equal, and need not be vertices
pub record AreTriconnected (IsVertex : ℕ → Type 0) (links : List (ℕ × ℕ)) : Type 0 where
  pub simple : AreSimple links
  pub four : HasAtLeast 4 IsVertex
  pub stays_connected : (a b : ℕ) → AreConnectedWithout IsVertex links (a ∷ b ∷ [])

-- v is a vertex of the graph
abbrev pub IsVertexOf : Multigraph → ℕ → Type 0
IsVertexOf g v = v < g.vertex_count

-- when the vertices are removed, the others stay connected
abbrev pub IsConnectedWithout : Multigraph → List ℕ → Type 0
IsConnectedWithout g removed = AreConnectedWithout (IsVertexOf g) g.ends removed

-- edges e and f have the same two ends
abbrev pub AreParallel : Multigraph → ℕ → ℕ → Type 0
AreParallel g e f = SameEnds (ends_of g e) (ends_of g f)

-- no two edges have the same two ends
abbrev pub IsSimple : Multigraph → Type 0
IsSimple g = AreSimple g.ends

-- a triconnected graph: its vertices and the ends of its edges are
abbrev pub IsTriconnected : Multigraph → Type 0
IsTriconnected g = AreTriconnected (IsVertexOf g) g.ends
