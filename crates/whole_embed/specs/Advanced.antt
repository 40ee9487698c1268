-- Blocks led along their lists: to the next members of the product of these. Contracts of private functions cite these.
use Rattle.std.specs.Prelude.{◌≡◌, ℕ, ◌+◌, ◌<◌, ◌≤◌, List, length, slice_index, Some}
use Rattle.skeletons.specs.Lists.{IsRank}
use Rattle.skel_embed.specs.Block.{BlockState, IsBlockState}
use Rattle.embed_enum.specs.Walk.{IsMemberList, KeepsRest, IsNextOf}
use Rattle.whole_embed.specs.declared.members.Member.{Member}
use Rattle.whole_embed.specs.Cuts.{member_at}

-- from one block to the other the rotation system alone changed, to the first of each list that it is in
pub record IsFirstOf (old new : BlockState) : Type 0 where
  pub rest : KeepsRest old new
  pub first : (l : List (List (List ℕ))) → IsMemberList old l → IsRank l new.rotation 0

-- the rotation system is the last of each list that it is in
abbrev pub IsLastState : BlockState → Type 0
IsLastState s = (l : List (List (List ℕ))) (i : ℕ) → IsMemberList s l → IsRank l s.rotation i → i + 1 ≡ length l

-- the part stays, and the block in the plane made this step
pub record IsLed (Step : BlockState → BlockState → Type 0) (old new : Member) : Type 0 where
  pub part : new.part ≡ old.part
  pub before : BlockState
  pub after : BlockState
  pub old_is : old.plane ≡ Some before
  pub new_is : new.plane ≡ Some after
  pub old_state : IsBlockState before
  pub new_state : IsBlockState after
  pub step : Step before after

-- the block is at the last of its list
pub record IsLastMember (m : Member) : Type 0 where
  pub state : BlockState
  pub is : m.plane ≡ Some state
  pub is_state : IsBlockState state
  pub last : IsLastState state

-- the members of the list of blocks from one place to another are at the first of their lists, and all others as before
pub record AreFirstBetween (blocks : List ℕ) (old new : List Member) (from to : ℕ) : Type 0 where
  pub count : length new ≡ length old
  pub first : (j : ℕ) → from ≤ j → j < to → IsLed IsFirstOf (member_at old (slice_index blocks j)) (member_at new (slice_index blocks j))
  pub others : (b : ℕ) → ((j : ℕ) → from ≤ j → j < to → slice_index blocks j ≡ b → ⊥) → member_at new b ≡ member_at old b

-- one of the blocks went to the next of its list, the later ones from the last of theirs to the first, and all others are as before
pub record AreAdvanced (blocks : List ℕ) (old new : List Member) : Type 0 where
  pub count : length new ≡ length old
  pub place : ℕ
  pub within : place < length blocks
  pub next : IsLed IsNextOf (member_at old (slice_index blocks place)) (member_at new (slice_index blocks place))
  pub last : (j : ℕ) → place < j → j < length blocks → IsLastMember (member_at old (slice_index blocks j))
  pub first : (j : ℕ) → place < j → j < length blocks → IsLed IsFirstOf (member_at old (slice_index blocks j)) (member_at new (slice_index blocks j))
  pub others : (b : ℕ) → ((j : ℕ) → place ≤ j → j < length blocks → slice_index blocks j ≡ b → ⊥) → member_at new b ≡ member_at old b
