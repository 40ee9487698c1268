-- Thin paths, whose inner vertices have two darts each, and what is left when one is smoothed to its first edge.
use Rattle.std.specs.Prelude.{◌≡◌, ℕ, ◌*◌, ◌/◌, ◌<◌, Bool, false, ◌||◌, ◌==◌, if◌then◌else◌, List, [], ◌∷◌}
use Rattle.permutations.specs.Exchange.{exchange}
use Rattle.dart_maps.specs.Map.{twin}
use Rattle.dart_maps.specs.Changes.{inserted}

-- at each inner vertex the dart that arrives and the one that continues are the only ones: c arrives at the first
abbrev pub IsThin : (ℕ → ℕ) → ℕ → List ℕ → Type 0
IsThin next c [] = Unit {0}
IsThin next c (p ∷ path) = (next c ≡ p) × (next p ≡ c) × IsThin next (twin p) path

-- none of the darts is of c's edge
abbrev pub Avoids : ℕ → List ℕ → Type 0
Avoids c [] = Unit {0}
Avoids c (p ∷ path) = (p / 2 ≡ c / 2 → ⊥) × Avoids c path

-- all darts are of different edges
abbrev pub AllApart : List ℕ → Type 0
AllApart [] = Unit {0}
AllApart (p ∷ path) = Avoids p path × AllApart path

-- the dart that arrives at the end of the path
abbrev pub path_end : ℕ → List ℕ → ℕ
path_end c [] = c
path_end c (p ∷ path) = path_end (twin p) path

-- a dart of one of the path's edges
abbrev pub on_path : ℕ → List ℕ → Bool
on_path x [] = false
on_path x (p ∷ path) = (x / 2 == p / 2) || on_path x path

-- a thin path: after an edge, by whose dart c it is left, the edges of the darts of `path`, one after the other; at its
-- end there are other darts
pub record IsThinPath (m : ℕ) (next : ℕ → ℕ) (c : ℕ) (path : List ℕ) : Type 0 where
  pub starts : c < 2 * m
  pub thin : IsThin next c path
  pub off_start : Avoids c path
  pub apart : AllApart path
  pub ends : next (path_end c path) ≡ path_end c path → ⊥

-- the map with the path smoothed: c takes the place of the dart that arrives at the end, and the path's edges are dead
unfoldable pub smoothed : ℕ → List ℕ → (ℕ → ℕ) → ℕ → ℕ
smoothed c path next x =
    (if on_path x path then x else (if x == c then next (path_end c path) else (if next x == path_end c path then c else next x)))

-- all these darts' edges are dead
abbrev pub IsFresh : ℕ → (ℕ → ℕ) → List ℕ → Type 0
IsFresh m next [] = Unit {0}
IsFresh m next (d ∷ path) = (d < 2 * m) × (next d ≡ d) × (next (twin d) ≡ twin d) × IsFresh m next path

-- a path of dead edges, which goes out by d and then by the darts of `path`, and two corners of other edges
pub record IsFreshPath (m : ℕ) (next : ℕ → ℕ) (p d : ℕ) (path : List ℕ) (q : ℕ) : Type 0 where
  pub first_corner : p < 2 * m
  pub last_corner : q < 2 * m
  pub fresh : IsFresh m next (d ∷ path)
  pub apart : AllApart (d ∷ path)
  pub off_first : Avoids p (d ∷ path)
  pub off_last : Avoids q (d ∷ path)

-- the map with the path inserted: it leaves after the corner p, passes new vertices, and arrives after the corner q
abbrev pub path_inserted : ℕ → ℕ → List ℕ → ℕ → (ℕ → ℕ) → ℕ → ℕ
path_inserted p d [] q next = inserted d p q next
path_inserted p d (c ∷ path) q next = path_inserted (twin d) c path q (exchange p d next)

-- the last dart of a path that begins with d
abbrev pub path_last : ℕ → List ℕ → ℕ
path_last d [] = d
path_last d (c ∷ path) = path_last c path

-- the twins of the path's darts, backwards, and then the list s
abbrev pub twins_behind : List ℕ → List ℕ → List ℕ
twins_behind [] s = s
twins_behind (d ∷ path) s = twins_behind path (twin d ∷ s)

-- no dart of the first list is of an edge of the second
abbrev pub AllAvoid : List ℕ → List ℕ → Type 0
AllAvoid [] l = Unit {0}
AllAvoid (p ∷ k) l = Avoids p l × AllAvoid k l

-- a path, with the dart before it, has no edge in common with any of the others
abbrev pub ApartFrom : ℕ × List ℕ → List (ℕ × List ℕ) → Type 0
ApartFrom w [] = Unit {0}
ApartFrom w (v ∷ paths) = AllAvoid (v.0 ∷ v.1) (w.0 ∷ w.1) × ApartFrom w paths

-- thin paths without common edges, each with the dart before it
abbrev pub AreThinPaths : ℕ → (ℕ → ℕ) → List (ℕ × List ℕ) → Type 0
AreThinPaths m next [] = Unit {0}
AreThinPaths m next (w ∷ paths) = IsThinPath m next w.0 w.1 × ApartFrom w paths × AreThinPaths m next paths

-- the map with each of the paths smoothed
abbrev pub all_smoothed : List (ℕ × List ℕ) → (ℕ → ℕ) → ℕ → ℕ
all_smoothed [] next = next
all_smoothed (w ∷ paths) next = all_smoothed paths (smoothed w.0 w.1 next)
