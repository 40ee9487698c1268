-- Changes of the steps of a rotation system.
use Rattle.std.specs.Prelude.{◌≡◌, ℕ, ◌<◌, Bool, ◌&&◌, ◌==◌, cond, List, slice_index}
use Rattle.permutations.specs.Count.{least}
use Rattle.multigraph.specs.Graph.{Multigraph}
use Rattle.dart_maps.specs.Map.{twin}
use Rattle.dart_maps.specs.Changes.{inserted}
use Rattle.faces.specs.Euler.{tail, dart_count}

-- two functions are the same below n
abbrev pub AgreeBelow : ℕ → (ℕ → ℕ) → (ℕ → ℕ) → Type 0
AgreeBelow n f h = (d : ℕ) → d < n → f d ≡ h d

-- what the new list gives below n is what the old one gave, changed
abbrev pub IsChangedBy : ℕ → List ℕ → List ℕ → ((ℕ → ℕ) → ℕ → ℕ) → Type 0
IsChangedBy n old new change = (f : ℕ → ℕ) → AgreeBelow n (slice_index old) f → AgreeBelow n (slice_index new) (change f)

-- whether dart d leads from u to v
abbrev pub leads : Multigraph → ℕ → ℕ → ℕ → Bool
leads g u v d = (tail g d == u) && (tail g (twin d) == v)

-- the first dart that does
abbrev pub first_dart : Multigraph → ℕ → ℕ → ℕ
first_dart g u v = least (dart_count g) (leads g u v)

-- f with the edge of dart d inserted after p and after q, if the test holds
abbrev pub rejoined : Bool → ℕ → ℕ → ℕ → (ℕ → ℕ) → ℕ → ℕ
rejoined t d p q f z = cond t (inserted d p q f z) (f z)
