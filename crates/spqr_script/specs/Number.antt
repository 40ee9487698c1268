-- Numbers as the script spells them.
use Rattle.std.specs.Prelude.{ℕ, ◌^◌}
pub use Rattle.decimals.specs.Number.{value_of, SpellsNumber, number_below}

-- the limit on numbers of vertices, edges, blocks, components, nodes and keys
abbrev pub index_limit : ℕ
index_limit = 2 ^ 32

-- the limit on ranks
abbrev pub rank_limit : ℕ
rank_limit = 2 ^ 128

-- the most members that one command prints
abbrev pub max_listed : ℕ
max_listed = 10000
