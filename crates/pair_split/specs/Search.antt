-- State of a loop: the search for a 2-separation of a family with the fewest entries on its side.
use Rattle.std.specs.Prelude.{◌≡◌, ℕ, ◌+◌, ◌<◌, ◌≤◌, ◌⊎◌, Bool, List, length, All, Contains, Option, MatchOption}
use Rattle.pair_split.specs.Family.{Entry, on_side, IsFamily, IsTight, IsSeparation}
use Rattle.pair_split.specs.Edges.{entry_ends}
use Rattle.pair_split.specs.Skeleton.{SameEnds}
use Rattle.pair_split.specs.Minimal.{IsMinimal}
use Rattle.multigraph.specs.Marks.{is_marked}
use Rattle.pair_split.specs.Bridges.{bridge_size, family_of, HaveEndsBelow, HaveNamesBelow}
use Rattle.pair_split.specs.declared.family.NamedEdge.{NamedEdge}
use Rattle.pair_split.specs.declared.search.Side.{Side}

-- a family that may have a 2-separation: tight, of at least four entries
pub record IsSearchable (entries : List Entry) : Type 0 where
  pub family : IsFamily entries
  pub tight : IsTight entries
  pub four : 4 ≤ length entries

-- the edges are a family that may have a 2-separation, their ends are below n and their names below bound
pub record AreSearchable (edges : List NamedEdge) (n bound : ℕ) : Type 0 where
  pub searchable : IsSearchable (family_of edges)
  pub ends : HaveEndsBelow n edges
  pub names : HaveNamesBelow bound edges

-- no two entries have the same two ends
abbrev pub HasNoParallels : List Entry → Type 0
HasNoParallels entries = (e f : Entry) → Contains entries e → Contains entries f → SameEnds (entry_ends e) (entry_ends f) → e.name ≡ f.name

-- the side found is that of a 2-separation, with as many entries as it says
pub record IsFound (entries : List Entry) (side : Side) : Type 0 where
  pub separates : IsSeparation entries (is_marked side.marks.items) side.first side.second
  pub size : length (on_side (is_marked side.marks.items) entries) ≡ side.size
  pub named : All (λ entry. entry.name < length side.marks.items) entries

-- the best side so far: one that was found, or none, said by the size of the whole family
pub record IsBest (entries : List Entry) (side : Side) : Type 0 where
  pub within : side.size ≤ length entries
  pub found : side.size < length entries → IsFound entries side

-- no side of a 2-separation between a and b has fewer entries than this
abbrev pub IsLeastAt : List Entry → ℕ → ℕ → ℕ → Type 0
IsLeastAt entries a b size = (s : ℕ → Bool) → IsSeparation entries s a b → size ≤ length (on_side s entries)

-- nor any between two vertices b < a where a is below p, or is p and b is below q
abbrev pub IsLeastBefore : List Entry → ℕ → ℕ → ℕ → Type 0
IsLeastBefore entries p q size = (a b : ℕ) → b < a → (a < p) ⊎ ((a ≡ p) × (b < q)) → IsLeastAt entries a b size

-- no more than the entries of the bridge with this label between a and b, where it has two or more and two are beside it
abbrev pub IsAtMostBridge : List NamedEdge → ℕ → ℕ → List ℕ → ℕ → ℕ → Type 0
IsAtMostBridge edges a b labels label size = 2 ≤ bridge_size (family_of edges) a b labels label → bridge_size (family_of edges) a b labels label + 2 ≤ length edges → size ≤ bridge_size (family_of edges) a b labels label

-- a minimal side of a 2-separation, with a mark for each entry's name to be looked up
pub record IsMinimalSide (entries : List Entry) (side : Side) : Type 0 where
  pub separates : IsSeparation entries (is_marked side.marks.items) side.first side.second
  pub minimal : IsMinimal entries (is_marked side.marks.items)
  pub named : All (λ entry. entry.name < length side.marks.items) entries

-- what the search found: a minimal side of a 2-separation, or that there is no 2-separation
abbrev pub IsSearched : List NamedEdge → Option Side → Type 0
IsSearched edges result = MatchOption result ((s : ℕ → Bool) (a b : ℕ) → IsSeparation (family_of edges) s a b → ⊥) (IsMinimalSide (family_of edges))
