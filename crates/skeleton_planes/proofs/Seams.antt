-- Two parts of a map glued along an edge of each.
use Rattle.std.specs.Prelude.{◌≡◌, ◌≢◌, ℕ, ◌*◌, ◌<◌, Bool, true, false}
use Rattle.dart_maps.specs.Map.{twin, IsMap}

-- dart x is of neither of the edges of d and e
pub record IsOff (d e x : ℕ) : Type 0 where
  pub first : x ≢ d
  pub first_twin : x ≢ twin d
  pub second : x ≢ e
  pub second_twin : x ≢ twin e

-- two edges that join the same two places, on either side of a map in two parts told apart by `side`; neither of their
-- darts is alone. `place` tells where a dart leaves
pub record AreFacing (m : ℕ) (next previous : ℕ → ℕ) (place : ℕ → ℕ) (side : ℕ → Bool) (d e : ℕ) : Type 0 where
  pub is_map : IsMap m next previous
  pub sides_next : (x : ℕ) → x < 2 * m → side (next x) ≡ side x
  pub sides_twin : (x : ℕ) → x < 2 * m → side (twin x) ≡ side x
  pub places_next : (x : ℕ) → x < 2 * m → place (next x) ≡ place x
  pub darts : (d < 2 * m) × (e < 2 * m)
  pub inside : side d ≡ true
  pub outside : side e ≡ false
  pub places : place d ≡ place e
  pub twin_places : place (twin d) ≡ place (twin e)
  pub two_places : place d ≢ place (twin d)
  pub company : (next d ≢ d) × (next (twin d) ≢ twin d)
  pub other_company : (next e ≢ e) × (next (twin e) ≢ twin e)

-- `after` is the map `next` glued along the edges of d and e, dart by dart: the darts behind d are followed by those behind
-- e and the other way round, and so at the twins
pub record AreJoined (m : ℕ) (next previous after : ℕ → ℕ) (d e : ℕ) : Type 0 where
  pub first : after (previous d) ≡ next e
  pub second : after (previous e) ≡ next d
  pub first_twin : after (previous (twin d)) ≡ next (twin e)
  pub second_twin : after (previous (twin e)) ≡ next (twin d)
  pub others : (x : ℕ) → x < 2 * m → IsOff d e x → IsOff d e (next x) → after x ≡ next x
  pub alone : (after d ≡ d) × (after (twin d) ≡ twin d)
  pub alone_too : (after e ≡ e) × (after (twin e) ≡ twin e)
