-- Turning over a part of a map that meets the rest at two vertices.
use Rattle.std.specs.Prelude.{◌≡◌, ℕ, ◌*◌, ◌<◌, Bool, true, false}
use Rattle.dart_maps.specs.Map.{twin, same_vertex}

-- the edges whose darts pass the test `part` are one run at the vertex of a and b: the run ends with a, and another
-- one begins after b
pub record IsRun (m : ℕ) (next : ℕ → ℕ) (part : ℕ → Bool) (a b : ℕ) : Type 0 where
  pub last_dart : a < 2 * m
  pub dart_before : b < 2 * m
  pub last_inside : part a ≡ true
  pub leaves : part (next a) ≡ false
  pub before_outside : part b ≡ false
  pub enters : part (next b) ≡ true
  pub one_vertex : same_vertex m next a b ≡ true

-- `flipped` is the map with the part turned over: the darts of the part come in the opposite order, each run in its
-- place; a and b, p and q are the runs' last darts and the darts before the runs
pub record IsFlip (m : ℕ) (next flipped : ℕ → ℕ) (part : ℕ → Bool) (a b p q : ℕ) : Type 0 where
  pub first_run : IsRun m next part a b
  pub second_run : IsRun m next part p q
  pub two_vertices : same_vertex m next a p ≡ false
  pub whole_edges : (d : ℕ) → d < 2 * m → part (twin d) ≡ part d
  pub no_other_runs : (d : ℕ) → d < 2 * m → (d ≡ a → ⊥) → (d ≡ b → ⊥) → (d ≡ p → ⊥) → (d ≡ q → ⊥) → part (next d) ≡ part d
  pub outside_stays : (d : ℕ) → d < 2 * m → part d ≡ false → part (next d) ≡ false → flipped d ≡ next d
  pub inside_turns : (d : ℕ) → d < 2 * m → part d ≡ true → part (next d) ≡ true → flipped (next d) ≡ d
  pub first_begins : flipped b ≡ a
  pub first_ends : flipped (next b) ≡ next a
  pub second_begins : flipped q ≡ p
  pub second_ends : flipped (next q) ≡ next p

-- the same for a part that is one run at one vertex, and has no other vertex in common with the rest
pub record IsFlipAtOne (m : ℕ) (next flipped : ℕ → ℕ) (part : ℕ → Bool) (a b : ℕ) : Type 0 where
  pub run : IsRun m next part a b
  pub whole_edges : (d : ℕ) → d < 2 * m → part (twin d) ≡ part d
  pub no_other_runs : (d : ℕ) → d < 2 * m → (d ≡ a → ⊥) → (d ≡ b → ⊥) → part (next d) ≡ part d
  pub outside_stays : (d : ℕ) → d < 2 * m → part d ≡ false → part (next d) ≡ false → flipped d ≡ next d
  pub inside_turns : (d : ℕ) → d < 2 * m → part d ≡ true → part (next d) ≡ true → flipped (next d) ≡ d
  pub begins : flipped b ≡ a
  pub ends : flipped (next b) ≡ next a

-- and for a part that is made of whole components
pub record IsFlipAlone (m : ℕ) (next flipped : ℕ → ℕ) (part : ℕ → Bool) : Type 0 where
  pub whole_edges : (d : ℕ) → d < 2 * m → part (twin d) ≡ part d
  pub no_runs : (d : ℕ) → d < 2 * m → part (next d) ≡ part d
  pub outside_stays : (d : ℕ) → d < 2 * m → part d ≡ false → flipped d ≡ next d
  pub inside_turns : (d : ℕ) → d < 2 * m → part d ≡ true → flipped (next d) ≡ d
