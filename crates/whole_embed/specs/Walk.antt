-- A walk through the list of a component: what stays, and the lists of edges at the cut vertices before and after a step. Contracts of
-- private functions cite the latter.
use Rattle.std.specs.Prelude.{◌≡◌, ℕ, ◌+◌, ◌<◌, ◌≤◌, true, false, List, [], length, map, slice_index, slice_index_or, Some}
use Rattle.permutations.specs.Members.{is_member}
use Rattle.choice_lists.specs.Order.{IsAt}
use Rattle.choice_lists.specs.Products.{IsLast}
use Rattle.arrangements.specs.Arranged.{first_arrangement}
use Rattle.skel_embed.specs.Block.{BlockState}
use Rattle.embed_enum.specs.Walk.{KeepsRest}
use Rattle.whole_embed.specs.declared.members.Member.{Member}
use Rattle.whole_embed.specs.Component.{Component, BlockInPlane}
use Rattle.whole_embed.specs.Around.{outer_at, edges_around, block_with, block_order, arrangements_around}
use Rattle.whole_embed.specs.Cuts.{member_at}

-- each block of the component keeps its part, its graph, its tree and its locks, and each other block all
pub record KeepsBlocks (k : Component) (old new : List Member) : Type 0 where
  pub count : length new ≡ length old
  pub parts : (b : ℕ) → (member_at new b).part ≡ (member_at old b).part
  pub rest : (b : ℕ) (p : BlockState) → is_member b k.blocks ≡ true → (member_at old b).plane ≡ Some p → (q : BlockState) × ((member_at new b).plane ≡ Some q) × KeepsRest p q
  pub others : (b : ℕ) → is_member b k.blocks ≡ false → member_at new b ≡ member_at old b

-- the first arrangement at cut vertex i
abbrev pub first_around : Component → (ℕ → BlockInPlane) → ℕ → List ℕ
first_around k block i = first_arrangement (block_with k) (block_order block (slice_index k.cuts i)) (edges_around k (slice_index k.cuts i))

-- the arrangements at cut vertex i
abbrev pub arrangements_at_place : Component → (ℕ → BlockInPlane) → ℕ → List (List ℕ)
arrangements_at_place k block i = arrangements_around k block (slice_index k.cuts i)

-- the lists of the cut vertices from one place to another are first arrangements, and all others are as before
pub record AreFirstLists (k : Component) (block : ℕ → BlockInPlane) (old new : List (List ℕ)) (from to : ℕ) : Type 0 where
  pub count : length new ≡ length old
  pub first : (j : ℕ) → from ≤ j → j < to → slice_index_or new j [] ≡ first_around k block j
  pub before : (j : ℕ) → j < from → slice_index_or new j [] ≡ slice_index_or old j []

-- one cut vertex went to its next arrangement, the later ones from the last to the first, and the earlier ones are as before
pub record AreNextLists (k : Component) (block : ℕ → BlockInPlane) (old new : List (List ℕ)) : Type 0 where
  pub count : length new ≡ length old
  pub place : ℕ
  pub within : place < length k.cuts
  pub next : (i : ℕ) → IsAt (arrangements_at_place k block place) i (slice_index_or old place []) → IsAt (arrangements_at_place k block place) (i + 1) (slice_index_or new place [])
  pub last : (j : ℕ) → place < j → j < length k.cuts → IsLast (arrangements_at_place k block j) (slice_index_or old j [])
  pub first : (j : ℕ) → place < j → j < length k.cuts → slice_index_or new j [] ≡ first_around k block j
  pub before : (j : ℕ) → j < place → slice_index_or new j [] ≡ slice_index_or old j []

-- each cut vertex has its last arrangement
abbrev pub AreLastLists : Component → (ℕ → BlockInPlane) → List (List ℕ) → Type 0
AreLastLists k block lists = (j : ℕ) → j < length k.cuts → IsLast (arrangements_at_place k block j) (slice_index_or lists j [])

-- a rotation system of a component in the numbers of the graph: its vertices, increasing, each with the order around it, from
-- the least edge on
abbrev pub system_lists : Component → List (List ℕ) → List (ℕ × List ℕ)
system_lists k q = map (λ v. (v, outer_at k.part q v)) k.part.vertices
