-- What a family falls into when two vertices are removed.
use Rattle.std.specs.Prelude.{◌≡◌, ℕ, ◌<◌, Bool, false, not, ◌&&◌, ◌||◌, ◌==◌, List, [], ◌∷◌, length, map, filter, slice_index_or, All, Contains}
use Rattle.permutations.specs.Members.{is_member}
use Rattle.graph_theory.specs.Labels.{label_at}
use Rattle.pair_split.specs.Family.{Entry}
use Rattle.pair_split.specs.Edges.{entry_ends}
use Rattle.pair_split.specs.Skeleton.{SameEnds}
use Rattle.pair_split.specs.declared.family.NamedEdge.{NamedEdge}

-- an edge of the code, as an entry
abbrev pub entry_of : NamedEdge → Entry
entry_of edge = record { name = edge.name; first = edge.first; second = edge.second }

-- edges of the code, as a family
abbrev pub family_of : List NamedEdge → List Entry
family_of edges = map entry_of edges

-- all ends are below n
abbrev pub HaveEndsBelow : ℕ → List NamedEdge → Type 0
HaveEndsBelow n edges = All (λ edge. (edge.first < n) × (edge.second < n)) edges

-- all names are below n
abbrev pub HaveNamesBelow : ℕ → List NamedEdge → Type 0
HaveNamesBelow n edges = All (λ edge. edge.name < n) edges

-- the entries that pass a test, as a side: a test on names
abbrev pub side_of : List Entry → (Entry → Bool) → ℕ → Bool
side_of [] test n = false
side_of (e ∷ entries) test n = ((e.name == n) && test e) || side_of entries test n

-- whether z is one of the two vertices that are removed
abbrev pub removed : ℕ → ℕ → ℕ → Bool
removed a b z = is_member z (a ∷ b ∷ [])

-- whether z is in the class and not removed
abbrev pub reached : ℕ → ℕ → (ℕ → Bool) → ℕ → Bool
reached a b class z = not (removed a b z) && class z

-- whether the entry is in the bridge of the class: it has an end in the class that is not removed
abbrev pub in_bridge : ℕ → ℕ → (ℕ → Bool) → Entry → Bool
in_bridge a b class e = reached a b class e.first || reached a b class e.second

-- entries that have neither vertex as an end have both ends in the class or none
abbrev pub IsClosed : List Entry → ℕ → ℕ → (ℕ → Bool) → Type 0
IsClosed entries a b class = (e : Entry) → Contains entries e → removed a b e.first ≡ false → removed a b e.second ≡ false → class e.first ≡ class e.second

-- the vertices of one label, as a test
abbrev pub has_label : List ℕ → ℕ → ℕ → Bool
has_label labels label z = label_at labels z == label

-- how many entries the bridge of a label has
abbrev pub bridge_size : List Entry → ℕ → ℕ → List ℕ → ℕ → ℕ
bridge_size entries a b labels label = length (filter (in_bridge a b (has_label labels label)) entries)

-- the edges at places i and j have the same two ends
abbrev pub AreParallelAt : List NamedEdge → ℕ → ℕ → Type 0
AreParallelAt edges i j =
    SameEnds (entry_ends (entry_of (slice_index_or edges i (record { name = 0; first = 0; second = 0 })))) (entry_ends (entry_of (slice_index_or edges j (record { name = 0; first = 0; second = 0 }))))
