-- The least block whose cyclic order a list changes, by its rank.
use Rattle.std.specs.Prelude.{◌≡◌, ℕ, Bool, true, false, not, ◌==◌, List, Option, None, Some}
use Rattle.permutations.specs.Members.{is_member}
use Rattle.arrangements.specs.Arranged.{keeps}
use Rattle.arrangements.specs.Refused.{IsLeastChanged}
use Rattle.arrangements.specs.Tables.{VertexTables, rank_in}

-- whether a number is expected, and this is another one
abbrev pub is_other : Option ℕ → ℕ → Bool
is_other None x = false
is_other (Some y) x = not (y == x)

-- the list keeps the cyclic order of each block
abbrev pub AreKept : (ℕ → ℕ) → (ℕ → List ℕ) → List ℕ → Type 0
AreKept block order l = (e : ℕ) → is_member e l ≡ true → keeps block order (block e) l ≡ true

-- the least block whose cyclic order the list changes has this rank
pub record IsLeastChangedRank (t : VertexTables) (block : ℕ → ℕ) (order : ℕ → List ℕ) (l : List ℕ) (rank : ℕ) : Type 0 where
  pub edge : ℕ
  pub within : is_member edge t.edges ≡ true
  pub of_rank : rank_in t edge ≡ rank
  pub least : IsLeastChanged block order l (block edge)
