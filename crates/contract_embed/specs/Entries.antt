-- State of a loop: entries that give the cyclic orders of a rotation system.
use Rattle.std.specs.Prelude.{◌≡◌, ℕ, ◌<◌, List, length}
use Rattle.rotations.specs.Entries.{entry}
use Rattle.rotations.specs.Rotation.{order_at}

-- one for each vertex below k
pub record AreOrdersBelow (s : List (List ℕ)) (k : ℕ) (entries : List (ℕ × List ℕ)) : Type 0 where
  pub each : length entries ≡ k
  pub vertex : (v : ℕ) → v < k → (entry entries v).0 ≡ v
  pub order : (v : ℕ) → v < k → (entry entries v).1 ≡ order_at s v
