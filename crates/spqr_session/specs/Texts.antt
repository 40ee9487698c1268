-- Of private functions: texts to which the edges of blocks are appended.
use Rattle.std.specs.Prelude.{◌≡◌, ℕ, ◌<◌, List, [], ◌∷◌, ◌++◌, length, map, slice_index, slice_index_or, codes, decimal, Option, None, Some}
use Rattle.std.specs.Global.{Vec}
use Rattle.rotations.specs.Rotation.{order_at}
use Rattle.rotations.specs.PartLists.{outer_edges}
use Rattle.spqr_session.specs.Trees.{BlockTree}
use Rattle.spqr_session.specs.State.{Embedding}

-- a text with a number more, after a space unless the text is empty
abbrev pub with_number : List ℕ → ℕ → List ℕ
with_number [] e = decimal e
with_number (c ∷ text) e = (c ∷ text) ++ codes " " ++ decimal e

-- with these numbers more
abbrev pub with_numbers : List ℕ → List ℕ → List ℕ
with_numbers text [] = text
with_numbers text (e ∷ edges) = with_numbers (with_number text e) edges

-- the edges of a block at its vertex i, in the numbers of the graph: those of a planar block in the present order, those of another in
-- increasing order
abbrev pub own_numbers : BlockTree → Option Embedding → ℕ → List ℕ
own_numbers tree None i = outer_edges tree.part i
own_numbers tree (Some e) i = map (slice_index tree.part.edges) (order_at e.rotation i)

-- what is in vectors of bytes
abbrev pub bytes_of : List (Vec ℕ) → List (List ℕ)
bytes_of texts = map (λ t. t.items) texts

-- each text has the numbers more that are to be added at its vertex
pub record AreExtended (added : ℕ → List ℕ) (old new : List (List ℕ)) : Type 0 where
  pub long : length new ≡ length old
  pub each : (v : ℕ) → v < length old → slice_index_or new v [] ≡ with_numbers (slice_index_or old v []) (added v)
