-- Maps side by side: one map of all of them, each with room for the same number of edges.
use Rattle.std.specs.Prelude.{ℕ, ◌+◌, ◌*◌, ◌/◌, ◌%◌}

-- dart z of map k
abbrev pub coded : ℕ → ℕ → ℕ → ℕ
coded width k z = 2 * (k * width + z / 2) + z % 2

-- the number of the map to which a dart belongs
abbrev pub part_of : ℕ → ℕ → ℕ
part_of width x = (x / 2) / width

-- and its number in that map
abbrev pub local_of : ℕ → ℕ → ℕ
local_of width x = 2 * ((x / 2) % width) + x % 2

-- the maps side by side, each on `width` edges
abbrev pub united : ℕ → (ℕ → ℕ → ℕ) → ℕ → ℕ
united width maps x = coded width (part_of width x) (maps (part_of width x) (local_of width x))
