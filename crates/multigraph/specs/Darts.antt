-- Darts: edges as they leave one of their ends. Edge e has two darts: 2e leaves its first end, 2e + 1 its second.
use Rattle.std.specs.Prelude.{ℕ, ◌+◌, ◌-◌, ◌*◌, ◌/◌, ◌%◌, ◌==◌, if◌then◌else◌}
use Rattle.multigraph.specs.Graph.{Multigraph, edge_count, ends_of}

-- the other dart of the same edge
unfoldable pub twin : ℕ → ℕ
twin d = (if d % 2 == 0 then d + 1 else d - 1)

-- the vertex that a dart leaves
abbrev pub tail : Multigraph → ℕ → ℕ
tail g d = (if d % 2 == 0 then (ends_of g (d / 2)).0 else (ends_of g (d / 2)).1)

-- the dart of edge e that leaves v, one of its ends
abbrev pub dart_from : Multigraph → ℕ → ℕ → ℕ
dart_from g v e = (if (ends_of g e).0 == v then 2 * e else 2 * e + 1)

-- how many darts there are
abbrev pub dart_count : Multigraph → ℕ
dart_count g = 2 * edge_count g
