-- The steps by which a node is moved: runs of edges that are found around a vertex and moved elsewhere.
use Rattle.std.specs.Prelude.{◌≡◌, ◌≢◌, ℕ, ◌<◌, true, List, ◌∷◌, ◌++◌, length}
use Rattle.permutations.specs.Members.{is_member}
use Rattle.permutations.specs.Cyclic.{predecessor, IsTurn}
use Rattle.permutations.specs.Runs.{InRuns}
use Rattle.rotations.specs.Runs.{IsRun, IsRunMoved}

-- along the cyclic order l the edges from first to last have one key, and the one after the last has another
pub record EndsRun (key : ℕ → ℕ) (l : List ℕ) (first last : ℕ) : Type 0 where
  pub run : List ℕ
  pub next : ℕ
  pub others : List ℕ
  pub is_run : IsRun first last run
  pub alike : (x : ℕ) → is_member x run ≡ true → key x ≡ key first
  pub differs : key next ≢ key first
  pub round : IsTurn l (run ++ next ∷ others)

-- an edge of l has the key k, and the one before it has another
pub record BeginsRun (key : ℕ → ℕ) (l : List ℕ) (k edge : ℕ) : Type 0 where
  pub within : is_member edge l ≡ true
  pub has : key edge ≡ k
  pub differs : key (predecessor l edge) ≢ k

-- the run from first to last was moved to the place after an edge, or stayed if this is its last edge
pub record IsPut (old new : List ℕ) (first last edge : ℕ) : Type 0 where
  pub stays : edge ≡ last → new ≡ old
  pub moves : edge ≢ last → IsRunMoved old new first last edge

-- the cyclic order is cut into two groups at least
pub record StandInTwoRuns (key : ℕ → ℕ) (l : List ℕ) : Type 0 where
  pub groups : List (ℕ × List ℕ)
  pub runs : InRuns key l groups
  pub two : 1 < length groups
