-- What is proved of places in a list, as statements.
use Rattle.std.specs.Prelude.{◌≡◌, ℕ, ◌+◌, ◌<◌, ◌↔◌, Bool, List, length}
use Rattle.multigraph.specs.Graph.{Multigraph}
use Rattle.pair_split.specs.Tutte.{Node}
use Rattle.skeletons.specs.Choices.{Precedes}
use Rattle.skeletons.specs.Lists.{IsKept, IsKeptList, IsRank}
use Rattle.skel_embed.specs.Block.{BlockState, IsBlockState}
use Rattle.embed_enum.specs.Walk.{IsMemberList, KeepsRest, AreNexts}

-- at each place is one member, and each member is at one place
abbrev pub RankTellsMember : Type 0
RankTellsMember = (g : Multigraph) (nodes : List Node) (locked : ℕ → Bool) (r q s : List (List ℕ)) (l : List (List (List ℕ))) (i j : ℕ) → IsKeptList g nodes locked r l → IsRank l q i
    → (IsRank l s i → q ≡ s) × (IsRank l q j → i ≡ j)

-- what is at a place is a member, and each member has a place
abbrev pub MembersHaveRanks : Type 0
MembersHaveRanks = (g : Multigraph) (nodes : List Node) (locked : ℕ → Bool) (r q : List (List ℕ)) (l : List (List (List ℕ))) → IsKeptList g nodes locked r l
    → (IsKept g nodes locked r q ↔ ((i : ℕ) × IsRank l q i))

-- the list is the same from each of its members
abbrev pub ListFromEachMember : Type 0
ListFromEachMember = (g : Multigraph) (nodes : List Node) (locked : ℕ → Bool) (r q : List (List ℕ)) (l : List (List (List ℕ))) → IsKept g nodes locked r q
    → (IsKeptList g nodes locked r l ↔ IsKeptList g nodes locked q l)

-- of two members that with the lower rank comes before the other
abbrev pub RanksFollowOrder : Type 0
RanksFollowOrder = (g : Multigraph) (nodes : List Node) (locked : ℕ → Bool) (r q s : List (List ℕ)) (l : List (List (List ℕ))) (i j : ℕ) → IsKeptList g nodes locked r l → IsRank l q i → IsRank l s j
    → (Precedes nodes q s ↔ (i < j))

-- a member is the last exactly where it comes before no member
abbrev pub LastHasNoneBehind : Type 0
LastHasNoneBehind = (g : Multigraph) (nodes : List Node) (locked : ℕ → Bool) (r q : List (List ℕ)) (l : List (List (List ℕ))) (i : ℕ) → IsKeptList g nodes locked r l → IsRank l q i
    → ((i + 1 ≡ length l) ↔ ((s : List (List ℕ)) → IsKept g nodes locked r s → Precedes nodes q s → ⊥))

-- the current rotation system of a block is in its list
abbrev pub PresentHasRank : Type 0
PresentHasRank = (s : BlockState) (l : List (List (List ℕ))) → IsBlockState s → IsMemberList s l → (i : ℕ) × IsRank l s.rotation i

-- n steps to the next member lead n places on, in the same list
abbrev pub NextsFollow : Type 0
NextsFollow = (n : ℕ) (old new : BlockState) (l : List (List (List ℕ))) (i : ℕ) → AreNexts n old new → IsMemberList old l → IsRank l old.rotation i
    → KeepsRest old new × IsMemberList new l × IsRank l new.rotation (i + n)
