-- Moves made on the choices of a block alone.
use Rattle.std.specs.Prelude.{ℕ, ◌<◌, List, [], length, slice_index_or, slice_set, IsPermutation}
use Rattle.permutations.specs.Cyclic.{from_least}
use Rattle.skeletons.specs.Moves.{Move, flip, permute}
use Rattle.skel_embed.specs.Exchanges.{turned_choice}

-- the choices after a move: a flip reverses that of its node, a permute sets it to its keys, written from the least on
abbrev pub choices_moved : Move → List (List ℕ) → List (List ℕ)
choices_moved (flip k) choices = slice_set choices k (turned_choice (slice_index_or choices k []))
choices_moved (permute k keys) choices = slice_set choices k (from_least keys)

-- the move is one of a node, and a permute names the keys of its choice in another order
abbrev pub CanBeMoved : Move → List (List ℕ) → Type 0
CanBeMoved (flip k) choices = k < length choices
CanBeMoved (permute k keys) choices = (k < length choices) × IsPermutation (slice_index_or choices k []) keys
