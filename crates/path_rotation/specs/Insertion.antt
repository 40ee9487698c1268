-- Darts inserted one after the other.
use Rattle.std.specs.Prelude.{ℕ, List, [], ◌∷◌}
use Rattle.permutations.specs.Exchange.{exchange}
use Rattle.dart_maps.specs.Map.{twin}

-- the map with these darts inserted: the first after p, each one that follows after the twin of the one before it, and the last
-- twin after q
abbrev pub threaded : ℕ → List ℕ → ℕ → (ℕ → ℕ) → ℕ → ℕ
threaded p [] q next = exchange q p next
threaded p (d ∷ darts) q next = threaded (twin d) darts q (exchange p d next)
