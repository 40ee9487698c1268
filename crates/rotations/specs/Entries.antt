-- Lists of edges given for some vertices, in order of the vertices.
use Rattle.std.specs.Prelude.{◌≡◌, ℕ, ◌-◌, ◌<◌, ◌≤◌, ◌==◌, if◌then◌else◌, List, [], ◌∷◌, length, slice_index_or}

-- the entry at place k: a vertex and a list of edges
abbrev pub entry : List (ℕ × List ℕ) → ℕ → ℕ × List ℕ
entry entries k = slice_index_or entries k (0, [])

-- the vertices of the entries increase strictly
abbrev pub IsRising : List (ℕ × List ℕ) → Type 0
IsRising entries = (i j : ℕ) → i < j → j < length entries → (entry entries i).0 < (entry entries j).0

-- v is above the vertex of the last entry, if there is one
abbrev pub IsAbove : List (ℕ × List ℕ) → ℕ → Type 0
IsAbove entries v = 0 < length entries → (entry entries (length entries - 1)).0 < v

-- some entry is for v
abbrev pub IsNamed : List (ℕ × List ℕ) → ℕ → Type 0
IsNamed entries v = (k : ℕ) × (k < length entries) × ((entry entries k).0 ≡ v)

-- the list that is given for v, and the empty list where no list is given for v
abbrev pub list_at : List (ℕ × List ℕ) → ℕ → List ℕ
list_at [] v = []
list_at (given ∷ others) v = (if given.0 == v then given.1 else list_at others v)

-- the entries before place k are for smaller vertices than v, and the others are not
pub record IsReachedAt (entries : List (ℕ × List ℕ)) (k v : ℕ) : Type 0 where
  pub within : k ≤ length entries
  pub smaller : (i : ℕ) → i < k → (entry entries i).0 < v
  pub others : (i : ℕ) → k ≤ i → i < length entries → v ≤ (entry entries i).0
