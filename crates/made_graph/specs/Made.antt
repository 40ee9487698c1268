-- Graphs that are made from a number: the complete graph on four vertices, grown turn by turn at edges that are drawn.
use Rattle.std.specs.Prelude.{ℕ, zero, suc, ◌+◌, ◌*◌, ◌/◌, ◌%◌, ◌^◌, ◌==◌, nat_lt, if◌then◌else◌, [], ◌∷◌, ◌++◌, slice_set}
use Rattle.multigraph.specs.Graph.{Multigraph, edge_count, ends_of}

-- the most edges that may be asked for
abbrev pub max_asked : ℕ
max_asked = 20000

-- the complete graph on four vertices
abbrev pub tetrahedron : Multigraph
tetrahedron = record {
  vertex_count = 4;
  ends = (0, 1) ∷ (0, 2) ∷ (0, 3) ∷ (1, 2) ∷ (1, 3) ∷ (2, 3) ∷ [];
}

-- edge e = (u, w) subdivided by the new vertex z: e becomes (u, z), and (z, w) is a new edge
abbrev pub subdivided : Multigraph → ℕ → Multigraph
subdivided g e = record {
  vertex_count = g.vertex_count + 1;
  ends = slice_set g.ends e ((ends_of g e).0, g.vertex_count) ++ (g.vertex_count, (ends_of g e).1) ∷ [];
}

-- edge e = (u, w) doubled: (u, w) is a new edge
abbrev pub doubled : Multigraph → ℕ → Multigraph
doubled g e = record { vertex_count = g.vertex_count; ends = g.ends ++ ends_of g e ∷ [] }

-- a path beside edge e = (u, w) over the new vertex z: (u, z) and (z, w) are new edges
abbrev pub with_path : Multigraph → ℕ → Multigraph
with_path g e = record {
  vertex_count = g.vertex_count + 1;
  ends = g.ends ++ ((ends_of g e).0, g.vertex_count) ∷ (g.vertex_count, (ends_of g e).1) ∷ [];
}

-- a complete graph on four vertices glued on at edge e = (u, w): with the new vertices y and z, (u, y), (u, z), (w, y),
-- (w, z) and (y, z) are new edges
abbrev pub with_tetrahedron : Multigraph → ℕ → Multigraph
with_tetrahedron g e = record {
  vertex_count = g.vertex_count + 2;
  ends = g.ends ++ ((ends_of g e).0, g.vertex_count) ∷ ((ends_of g e).0, g.vertex_count + 1) ∷ ((ends_of g e).1, g.vertex_count) ∷ ((ends_of g e).1, g.vertex_count + 1) ∷ (g.vertex_count, g.vertex_count + 1) ∷ [];
}

-- edge e grown by operation 0 (subdivide), 1 (double), 2 (path), or another (glue)
abbrev pub grown : Multigraph → ℕ → ℕ → Multigraph
grown g e operation =
    (if operation == 0 then subdivided g e else (if operation == 1 then doubled g e else (if operation == 2 then with_path g e else with_tetrahedron g e)))

-- the number that is drawn after x, of 64 bits (a linear congruential generator, Lehmer 1951)
abbrev pub drawn : ℕ → ℕ
drawn x = (x * 6364136223846793005 + 1442695040888963407) % (2 ^ 64)

-- the edge that a drawn number picks, of m edges: its upper 32 bits, modulo m
abbrev pub edge_drawn : ℕ → ℕ → ℕ
edge_drawn x m = (x / 2 ^ 32) % m

-- the operation that a drawn number picks: its upper two bits
abbrev pub operation_drawn : ℕ → ℕ
operation_drawn x = x / 2 ^ 62

-- one turn at the number x: the first draw picks the edge, the second the operation
abbrev pub turned : Multigraph → ℕ → Multigraph
turned g x = grown g (edge_drawn (drawn x) (edge_count g)) (operation_drawn (drawn (drawn x)))

-- the graph after turns from the number x on, while it has fewer than n edges, and at most as many turns as the first number says
abbrev pub made_within : ℕ → ℕ → Multigraph → ℕ → Multigraph
made_within zero n g x = g
made_within (suc turns) n g x = (if nat_lt (edge_count g) n then made_within turns n (turned g x) (drawn (drawn x)) else g)

-- the graph made from the number seed, of n edges or a few more: each turn adds an edge at least, so n turns suffice
abbrev pub made : ℕ → ℕ → Multigraph
made n seed = made_within n n tetrahedron seed
