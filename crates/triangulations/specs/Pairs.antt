-- A set of pairs of vertices, each with the lesser one first.
use Rattle.std.specs.Prelude.{◌≡◌, ℕ, ◌*◌, Bool, ◌&&◌, ◌||◌, ◌==◌, min, max}
use Rattle.std.specs.Ordering.{nat_cmp, ordering_then}
use Rattle.std.specs.declared.cmp.Ordering.{Ordering}
use Rattle.std.specs.BTreeSet.{BTreeSet, contains}
use Rattle.permutations.specs.Count.{some}
use Rattle.dart_maps.specs.Map.{twin}
use Rattle.multigraph.specs.Graph.{Multigraph}
use Rattle.faces.specs.Euler.{tail}
use Rattle.triangulations.specs.Cutting.{are_joined}

-- the order of pairs: by their first parts, then by their second
abbrev pub pair_cmp : ℕ × ℕ → ℕ × ℕ → Ordering
pair_cmp p q = ordering_then (nat_cmp p.0 q.0) (nat_cmp p.1 q.1)

-- the two vertices, the lesser one first
abbrev pub ordered : ℕ → ℕ → ℕ × ℕ
ordered u v = (min u v, max u v)

-- the set has the pair of these two vertices
abbrev pub has_pair : BTreeSet (ℕ × ℕ) → ℕ → ℕ → Bool
has_pair pairs u v = contains pair_cmp pairs (ordered u v)

-- the two pairs have the same members
abbrev pub is_pair : ℕ → ℕ → ℕ → ℕ → Bool
is_pair a b u v = ((a == u) && (b == v)) || ((a == v) && (b == u))

-- the new set has the pairs of the old one and that of a and b
abbrev pub AddsPair : BTreeSet (ℕ × ℕ) → ℕ → ℕ → BTreeSet (ℕ × ℕ) → Type 0
AddsPair old a b new = (u v : ℕ) → has_pair new u v ≡ (is_pair a b u v || has_pair old u v)

-- it has just the pairs of vertices that the first k edges join
abbrev pub KnowsEdges : Multigraph → ℕ → BTreeSet (ℕ × ℕ) → Type 0
KnowsEdges h k pairs = (u v : ℕ) → has_pair pairs u v ≡ some (2 * k) (λ d. (tail h d == u) && (tail h (twin d) == v))

-- it has just the pairs of vertices that are joined
abbrev pub KnowsPairs : Multigraph → BTreeSet (ℕ × ℕ) → Type 0
KnowsPairs h pairs = (u v : ℕ) → has_pair pairs u v ≡ are_joined h u v
