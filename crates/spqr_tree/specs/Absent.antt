-- The number for what does not exist: for a component in no group, for no parent, and for an edge without a place.
use Rattle.std.specs.Prelude.{ℕ}

abbrev pub absent : ℕ
absent = 4294967295
