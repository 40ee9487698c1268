-- Changes of a map that leave all else in place: an edge dropped, inserted, contracted, or two edges glued.
-- The darts of an edge that was removed stay, each alone at a vertex of its own, so that all darts keep their numbers.
use Rattle.std.specs.Prelude.{ℕ, ◌||◌, ◌==◌, if◌then◌else◌}
use Rattle.permutations.specs.Exchange.{exchange, unlink}
use Rattle.dart_maps.specs.Map.{twin}
use Rattle.dart_maps.specs.Order.{one_of_four}

-- the map without the edge of dart d: each of its two darts is taken out of its vertex
abbrev pub dropped : ℕ → (ℕ → ℕ) → ℕ → ℕ
dropped d next = unlink (twin d) (unlink d next)

-- the map with the edge of dart d inserted: d after p at the one end, its twin after q at the other
abbrev pub inserted : ℕ → ℕ → ℕ → (ℕ → ℕ) → ℕ → ℕ
inserted d p q next = exchange q (twin d) (exchange p d next)

-- what follows c, and where c is alone what follows d
abbrev pub follows : ℕ → ℕ → (ℕ → ℕ) → ℕ
follows c d next = (if next c == c then next d else next c)

-- the map with the edge of dart d contracted: at the one vertex that is left, the darts after d are followed by
-- those after its twin
unfoldable pub contracted : ℕ → (ℕ → ℕ) → ℕ → ℕ
contracted d next x =
    (if x == d || x == twin d then x else (if next x == d then follows (twin d) d next else (if next x == twin d then follows d (twin d) next else next x)))

-- the map glued along the edges of darts d and e, which are used up: the darts after d are followed by those after e,
-- and those after d's twin by those after e's twin. None of these four darts may be alone
unfoldable pub glued : ℕ → ℕ → (ℕ → ℕ) → ℕ → ℕ
glued d e next x =
    (if one_of_four d (twin d) e (twin e) x then x else (if next x == d then next e else (if next x == e then next d else
    (if next x == twin d then next (twin e) else (if next x == twin e then next (twin d) else next x)))))
