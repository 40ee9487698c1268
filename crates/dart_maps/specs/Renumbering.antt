-- One map within another: the same map under other numbers, beside edges that are dead.
use Rattle.std.specs.Prelude.{◌≡◌, ℕ, ◌*◌, ◌<◌, Bool, true, false}
use Rattle.dart_maps.specs.Map.{twin}

-- the map `inner` with k edges is the map `outer` with m edges under other numbers: `into` takes each dart of the inner
-- map to a dart of the outer one that passes the test `live`, and `back` takes it back; the darts that fail are alone
pub record IsRenumbering (k : ℕ) (inner : ℕ → ℕ) (m : ℕ) (outer : ℕ → ℕ) (live : ℕ → Bool) (into back : ℕ → ℕ) : Type 0 where
  pub whole_edges : (d : ℕ) → d < 2 * m → live (twin d) ≡ live d
  pub others_alone : (d : ℕ) → d < 2 * m → live d ≡ false → outer d ≡ d
  pub darts : (d : ℕ) → d < 2 * k → into d < 2 * m
  pub lives : (d : ℕ) → d < 2 * k → live (into d) ≡ true
  pub darts_back : (d : ℕ) → d < 2 * m → live d ≡ true → back d < 2 * k
  pub into_back : (d : ℕ) → d < 2 * m → live d ≡ true → into (back d) ≡ d
  pub back_into : (d : ℕ) → d < 2 * k → back (into d) ≡ d
  pub twins : (d : ℕ) → d < 2 * k → into (twin d) ≡ twin (into d)
  pub steps : (d : ℕ) → d < 2 * k → into (inner d) ≡ outer (into d)
