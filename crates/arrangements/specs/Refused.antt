-- Why a list of edges is not an arrangement: the least block whose cyclic order it changes, and the least two blocks that cross.
use Rattle.std.specs.Prelude.{◌≡◌, ℕ, ◌<◌, ◌≤◌, ◌⊎◌, true, false, List, [], ◌∷◌}
use Rattle.permutations.specs.Members.{is_member}
use Rattle.permutations.specs.Cyclic.{FollowsAround}
use Rattle.arrangements.specs.Arranged.{keeps, cross}

-- blocks b and c alternate: edges of b, c, b and c come in this order around the vertex
pub record Alternate (block : ℕ → ℕ) (b c : ℕ) (l : List ℕ) : Type 0 where
  pub first : ℕ
  pub second : ℕ
  pub third : ℕ
  pub fourth : ℕ
  pub around : FollowsAround l (first ∷ second ∷ third ∷ fourth ∷ [])
  pub of_first : block first ≡ b
  pub of_second : block second ≡ c
  pub of_third : block third ≡ b
  pub of_fourth : block fourth ≡ c

-- b is the least block with an edge in the list whose cyclic order the list changes
pub record IsLeastChanged (block : ℕ → ℕ) (order : ℕ → List ℕ) (l : List ℕ) (b : ℕ) : Type 0 where
  pub edge : ℕ
  pub met : is_member edge l ≡ true
  pub of_edge : block edge ≡ b
  pub changed : keeps block order b l ≡ false
  pub least : (e : ℕ) → is_member e l ≡ true → block e < b → keeps block order (block e) l ≡ true

-- b and c are the least two blocks that cross: b is the least block that crosses another, and c the least that b crosses
pub record IsLeastCrossing (block : ℕ → ℕ) (l : List ℕ) (b c : ℕ) : Type 0 where
  pub crosses : cross block b c l ≡ true
  pub least : (d e : ℕ) → cross block d e l ≡ true → (b < d) ⊎ ((b ≡ d) × (c ≤ e))
