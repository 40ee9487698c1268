-- What is read off from a list in one pass: whether the edges of a block follow each other, and in which gap of a block a place is.
use Rattle.std.specs.Prelude.{◌≡◌, ◌≢◌, ℕ, ◌<◌, Bool, true, ◌&&◌, ◌==◌, if◌then◌else◌, List, [], ◌∷◌, length, take, slice_index}
use Rattle.arrangements.specs.Arranged.{of_block}

-- whether each edge of the list but the first follows the one before it
abbrev pub follows_along : (ℕ → ℕ) → List ℕ → Bool
follows_along follow [] = true
follows_along follow (x ∷ []) = true
follows_along follow (x ∷ y ∷ l) = (follow x == y) && follows_along follow (y ∷ l)

-- how many edges of block b are before a place of the list
abbrev pub edges_before : (ℕ → ℕ) → ℕ → List ℕ → ℕ → ℕ
edges_before block b l place = length (of_block block b (take place l))

-- the gap between two edges of block b, around the vertex, in which a place is: how many edges of b are before it, and 0 where
-- all are
abbrev pub gap : (ℕ → ℕ) → ℕ → List ℕ → ℕ → ℕ
gap block b l place = (if edges_before block b l place == length (of_block block b l) then 0 else edges_before block b l place)

-- two edges of block c in different gaps of block b
pub record InGaps (block : ℕ → ℕ) (b c : ℕ) (l : List ℕ) : Type 0 where
  pub p : ℕ
  pub q : ℕ
  pub order : p < q
  pub within : q < length l
  pub of_p : block (slice_index l p) ≡ c
  pub of_q : block (slice_index l q) ≡ c
  pub differ : gap block b l p ≢ gap block b l q
