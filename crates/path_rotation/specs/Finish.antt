-- The lists of a map: around each vertex the edges of its darts, from that of its least edge on.
use Rattle.std.specs.Prelude.{◌≡◌, ℕ, ◌/◌, ◌<◌, List, length, slice_index}
use Rattle.permutations.specs.Cyclic.{first_or}
use Rattle.permutations.specs.Permutation.{iterate}
use Rattle.multigraph.specs.Graph.{Multigraph, incident_edges}
use Rattle.rotations.specs.Entries.{entry}
use Rattle.faces.specs.Euler.{dart_from, dart_count, IsPlaneSystem}
use Rattle.faces.specs.Maps.{dart_after}

-- the list is the map of a plane rotation system
abbrev pub IsPlaneOrder : Multigraph → List ℕ → Type 0
IsPlaneOrder g next = (r : List (List ℕ)) × IsPlaneSystem g r × ((d : ℕ) → d < dart_count g → dart_after g r d ≡ slice_index next d)

-- the edges of so many darts, from the first on
pub record ArePassed (next : List ℕ) (first count : ℕ) (edges : List ℕ) : Type 0 where
  pub long : length edges ≡ count
  pub each : (i : ℕ) → i < count → slice_index edges i ≡ iterate (slice_index next) i first / 2

-- the lists of the vertices below n
pub record AreListed (g : Multigraph) (next : List ℕ) (n : ℕ) (lists : List (ℕ × List ℕ)) : Type 0 where
  pub long : length lists ≡ n
  pub vertex : (v : ℕ) → v < n → (entry lists v).0 ≡ v
  pub edges : (v : ℕ) → v < n → ArePassed next (dart_from g v (first_or 0 (incident_edges g v))) (length (incident_edges g v)) (entry lists v).1
