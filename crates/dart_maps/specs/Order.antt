-- The order of darts around a vertex, and connection that avoids a vertex.
use Rattle.std.specs.Prelude.{◌≡◌, ℕ, ◌*◌, ◌<◌, Bool, ◌||◌, ◌==◌, if◌then◌else◌}
use Rattle.permutations.specs.Exchange.{restricted}
use Rattle.dart_maps.specs.Map.{same_vertex, same_component}

-- the number is one of three
abbrev pub one_of_three : ℕ → ℕ → ℕ → ℕ → Bool
one_of_three a b c x = x == a || x == b || x == c

-- the number is one of four
abbrev pub one_of_four : ℕ → ℕ → ℕ → ℕ → ℕ → Bool
one_of_four a b c d x = x == a || x == b || x == c || x == d

-- three different darts of one vertex, in this order around it: looking at them alone, a is followed by b,
-- b by c, and c by a
pub record MetInTurn (m : ℕ) (next : ℕ → ℕ) (a b c : ℕ) : Type 0 where
  pub darts : (a < 2 * m) × (b < 2 * m) × (c < 2 * m)
  pub different : a ≡ b → ⊥
  pub first : restricted (2 * m) (one_of_three a b c) next a ≡ b
  pub second : restricted (2 * m) (one_of_three a b c) next b ≡ c
  pub third : restricted (2 * m) (one_of_three a b c) next c ≡ a

-- four different darts of one vertex, in this order around it
pub record MetInOrder (m : ℕ) (next : ℕ → ℕ) (a b c d : ℕ) : Type 0 where
  pub darts : (a < 2 * m) × (b < 2 * m) × (c < 2 * m) × (d < 2 * m)
  pub different : a ≡ c → ⊥
  pub first : restricted (2 * m) (one_of_four a b c d) next a ≡ b
  pub second : restricted (2 * m) (one_of_four a b c d) next b ≡ c
  pub third : restricted (2 * m) (one_of_four a b c d) next c ≡ d
  pub fourth : restricted (2 * m) (one_of_four a b c d) next d ≡ a

-- the map with all darts that pass the test made alone
unfoldable pub frozen : (ℕ → Bool) → (ℕ → ℕ) → ℕ → ℕ
frozen t next x = (if t x then x else next x)

-- two darts are connected without passing the vertex of u: each edge there ends at a vertex of its own
abbrev pub connected_around : ℕ → (ℕ → ℕ) → ℕ → ℕ → ℕ → Bool
connected_around m next u = same_component m (frozen (same_vertex m next u) next)

-- two darts are connected without passing the vertex of u or that of w
abbrev pub connected_past : ℕ → (ℕ → ℕ) → ℕ → ℕ → ℕ → ℕ → Bool
connected_past m next u w = same_component m (frozen (λ x. same_vertex m next u x || same_vertex m next w x) next)
