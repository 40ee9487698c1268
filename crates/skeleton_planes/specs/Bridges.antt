-- Edges of a map that are no bridges.
use Rattle.std.specs.Prelude.{◌≡◌, ◌≢◌, ℕ, ◌*◌, ◌<◌, Bool}
use Rattle.dart_maps.specs.Map.{twin}

-- the edge of d is no bridge: a test that has one value at each vertex, and along each other edge, has it along this one
abbrev pub IsNoBridge : ℕ → (ℕ → ℕ) → ℕ → Type 0
IsNoBridge m next d = (a : ℕ → Bool) → ((x : ℕ) → x < 2 * m → a (next x) ≡ a x) → ((x : ℕ) → x < 2 * m → x ≢ d → x ≢ twin d → a (twin x) ≡ a x) → a d ≡ a (twin d)
