-- The list of the plane rotation systems of a block that have the present choices at its locked nodes, and where an embedding
-- is in it.
use Rattle.std.specs.Prelude.{◌≡◌, ℕ, ◌+◌, ◌^◌, Bool, not, nat_lt, List, [], ◌∷◌, length, Option, None, Some, ⊤}
use Rattle.skeletons.specs.Lists.{IsKeptList, IsRank}
use Rattle.skel_embed.specs.Block.{lock_at}
use Rattle.spqr_session.specs.Trees.{BlockTree, tree_at}
use Rattle.spqr_session.specs.State.{Embedding, State, entry_at}
use Rattle.spqr_session.specs.Codes.{Ladder}
use Rattle.spqr_session.specs.declared.code.Code.TheVariants.{CountOver, RankOut}

-- the list: all plane rotation systems with the choices of e at its locked nodes, in order
abbrev pub AreMembers : BlockTree → Embedding → List (List (List ℕ)) → Type 0
AreMembers tree e l = IsKeptList tree.part.graph tree.nodes (lock_at e.locks) e.rotation l

-- n is how many they are: the length of the list. A block without an embedding has no list, and n is any number
abbrev pub AreSoMany : BlockTree → Option Embedding → ℕ → Type 0
AreSoMany tree None n = ⊤
AreSoMany tree (Some e) n = (l : List (List (List ℕ))) → AreMembers tree e l → length l ≡ n

-- whether a number is 2^128 or more
abbrev pub is_over : ℕ → Bool
is_over n = not (nat_lt n (2 ^ 128))

-- code 10, where there are n members: n is 2^128 or more
abbrev pub count_codes : ℕ → BlockTree → Embedding → Ladder
count_codes n tree e = (CountOver, is_over n) ∷ []

-- code 10, and 11: the rank r is not below n
abbrev pub rank_codes : ℕ → ℕ → BlockTree → Embedding → Ladder
rank_codes r n tree e = (CountOver, is_over n) ∷ (RankOut n, not (nat_lt r n)) ∷ []

-- what holds with the number of the members of block b
abbrev pub WithCount : List BlockTree → ℕ → State → (ℕ → Type 0) → Type 0
WithCount trees b s Holds = (n : ℕ) × AreSoMany (tree_at trees b) (entry_at s.present b) n × Holds n

-- the new embedding is the member at this rank, with the locks of the old one
pub record StandsAt (r : ℕ) (tree : BlockTree) (old new : Embedding) : Type 0 where
  pub rank : (l : List (List (List ℕ))) → AreMembers tree old l → IsRank l new.rotation r
  pub locks : new.locks ≡ old.locks

-- the new embedding is the member after the old one, with its locks
pub record StandsBehind (tree : BlockTree) (old new : Embedding) : Type 0 where
  pub next : (l : List (List (List ℕ))) (k : ℕ) → AreMembers tree old l → IsRank l old.rotation k → IsRank l new.rotation (k + 1)
  pub locks : new.locks ≡ old.locks

-- the embedding is the last member
abbrev pub StandsLast : BlockTree → Embedding → Type 0
StandsLast tree e = (l : List (List (List ℕ))) (k : ℕ) → AreMembers tree e l → IsRank l e.rotation k → length l ≡ k + 1
